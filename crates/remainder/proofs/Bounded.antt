-- The reduction of every large angle comes to its end within the C's arrays, and is bounded.
use mathlib.Core.Path.{◌≡◌, refl, sym, ◌∙◌, subst}
use mathlib.Core.Bool.{Bool, true, false}
use mathlib.Core.List.{List}
use Prim.Native.Nat.{ℕ, suc, ◌+◌, ◌≤◌, ◌<◌}
use native.Mathlib.Omega.{arith}
use borrow.Author.Tests.{eqb-true, eqb-false, le-ltb, both_ways}
use lib.Dec.{eqb, lit≤}
use lib.IntN.{ℤ}
use lib.ListN.{length, replicate, length-replicate}
use lib.Ieee.{Float}
use Rattle.std.specs.Prelude.{Option, Some}
use Rattle.loops.specs.Loop.{pick, Flow, on, out}
use Rattle.loops.proofs.Loop.{Kept, searched_keeps_at}
use Rattle.number.specs.Operators.{◌==?◌}
use Rattle.number.specs.Helpers.{positive_zero}
use Rattle.number.specs.Words.{high_word}
use Rattle.number.proofs.Bounded.{Under, under_finite}
use Rattle.remainder.specs.declared.Reduction.{Reduction}
use Rattle.remainder.specs.Kernel.{Terms, terms, first_digits, first_terms, more_of, Passed, pass_of, joined_of, needed_of, finish_of, exhausted, again}
use Rattle.remainder.specs.Kernel.{kernel_step, kernel_end, kernel_of, room}
use Rattle.remainder.specs.Large.{scaled_of, pieces_of, jx_of, jv_of, e0_of, q0_of, large_of}
use Rattle.remainder.proofs.Angle.{Pieces, Last, Placed, exponent_of, significand_of, exponent_range, angle_pieces, last_is, jv_is, q0_placed}
use Rattle.remainder.proofs.Ending.{finish_under}
use Rattle.remainder.proofs.Enough.{enough}
use Rattle.remainder.proofs.Far.{jv}
use Rattle.remainder.proofs.Filled.{sums, sums_below, Filled, first_filled, more_filled}
use Rattle.remainder.proofs.Passing.{weight_of_one, Settled, pass_is}
use Rattle.remainder.proofs.Weighing.{Digits, sum_of_terms}

-- The kernel comes to its end after a pass over the terms 0 to jz of q. What they are made of is in f and in the table, the pass leaves digits of 24
-- bits, and where it leaves no fraction one of the digits from jk on is not 0, so that zero terms are chopped off within iq (`chop_stops`).
pub record Finishes (jv jx : ℕ) (q0 : ℤ) (r : Reduction) : Type 0 where
  pub q : List Float
  pub jz : ℕ
  pub from : 4 ≤ jz
  pub to : jz ≤ 7
  pub within_f : jx + jz < 20
  pub within_table : jv + jz < 66
  pub long_q : length q ≡ 21
  pub long : length (pass_of (replicate room 0) q jz q0).digits ≡ 21
  pub small : Digits (pass_of (replicate room 0) q jz q0).digits jz
  pub some : let p = pass_of (replicate room 0) q jz q0 in (p.pass.z ==? positive_zero) ≡ true → 0 < joined_of p.digits jz
  pub is : let p = pass_of (replicate room 0) q jz q0 in r ≡ finish_of p.digits p.pass q jz q0

iq_long : length (replicate {A = ℕ} room 0) ≡ 21
iq_long = length-replicate {A = ℕ} room 0

module _ (e : ℕ) (lo : 1043 ≤ e) (hi : e ≤ 2046) {m : ℕ} {tx : List Float} (p : Pieces m tx) (jx : ℕ) (last : Last p.X1 p.X2 jx)
    (q0 : ℤ) (place : Placed e q0) where
  -- before pass i
  record Going (i : ℕ) (s : Terms) : Type 0 where
    pub from : 4 + i ≤ s.jz
    pub to : s.jz ≤ 7
    pub filled : Filled p (jv e) jx last (s.jz + 1) s.f s.q

  abbrev pass_at : Terms → Passed
  pass_at s = pass_of (replicate room 0) s.q s.jz q0

  -- what a pass leads to
  abbrev Leads : ℕ → Flow Terms Reduction → Type 0
  Leads i = Kept (Going (i + 1)) (Finishes (jv e) jx q0)

  module _ (i : ℕ) (s : Terms) (g : Going i s) where
    settled : Settled (sum_of_terms (sums p (jv e) jx last) (suc s.jz)) (weight_of_one s.jz q0) s.jz (replicate room 0) (pass_at s)
    settled =
        pass_is s.q (sums p (jv e) jx last) s.jz (replicate room 0) (λ n h. g.filled.in_q n (omega arith)) (λ n h. sums_below p (jv e) jx last n)
        (let f = iq_long in let h = g.to in omega (arith, f, h)) (let h = g.from in omega (arith, h)) q0 place.least place.most

    finishes : (((pass_at s).pass.z ==? positive_zero) ≡ true → 0 < joined_of (pass_at s).digits s.jz)
        → Finishes (jv e) jx q0 (finish_of (pass_at s).digits (pass_at s).pass s.q s.jz q0)
    finishes o = record {
      q = s.q;
      jz = s.jz;
      from = (let h = g.from in omega (arith, h));
      to = g.to;
      within_f = (let h = g.to in let l = last.few in omega (arith, h, l));
      within_table = (let h = g.to in omega (arith, h));
      long_q = g.filled.long_q;
      long = settled.kept ∙ iq_long;
      small = settled.small;
      some = o;
      is = refl;
    }

    -- more terms, where they are needed: the seventh is the last of them
    more_terms : ((pass_at s).pass.z ==? positive_zero) ≡ true → joined_of (pass_at s).digits s.jz ≡ 0
        → Leads i (again tx jx (jv e) s (needed_of (pass_at s).digits))
    more_terms z j =
        let from : 4 ≤ s.jz = let h = g.from in omega (arith, h) in
        let d = (pass_at s).digits in
        let o = rw (place.weight s.jz from) at (settled.exact z) in
        let r = enough e lo hi p.parts s.jz from g.to d settled.small o j in
        subst (λ (k : Option ℕ). Leads i (again tx jx (jv e) s k)) (sym r.1) (go r.0 r.2 r.3)
      where
        go : (k : ℕ) → 1 ≤ k → s.jz + k ≤ 7 → Leads i (again tx jx (jv e) s (Some k))
        go k h l =
            let t = more_of tx jx (jv e) k s in
            let f = last.few in
            subst (λ (x : Bool). Leads i (pick x (out exhausted) (on (terms t.f t.q (s.jz + k))))) (sym (le-ltb 19 (jx + s.jz + k) (omega (arith, f))))
            (record {
              from = (let v = g.from in omega (arith, v));
              to = l;
              filled = more_filled p (jv e) jx last k s (omega (arith, f)) g.filled;
            })

    step : Leads i (kernel_step tx jx (jv e) q0 i s)
    step = go ((pass_at s).pass.z ==? positive_zero) (eqb (joined_of (pass_at s).digits s.jz) 0) refl refl
      where
        go : (a b : Bool) → ((pass_at s).pass.z ==? positive_zero) ≡ a → eqb (joined_of (pass_at s).digits s.jz) 0 ≡ b
            → let o = finish_of (pass_at s).digits (pass_at s).pass s.q s.jz q0 in
            Leads i (pick a (pick b (again tx jx (jv e) s (needed_of (pass_at s).digits)) (out o)) (out o))
        go false b f h = finishes (λ t. absurd (both_ways ((pass_at s).pass.z ==? positive_zero) f t))
        go true false f h = finishes (λ t. let n = eqb-false (joined_of (pass_at s).digits s.jz) 0 h in omega (arith, n))
        go true true f h = more_terms f (eqb-true (joined_of (pass_at s).digits s.jz) 0 h)

  kernel_finishes : Finishes (jv e) jx q0 (kernel_of tx jx (jv e) q0)
  unfolding kernel_of
  kernel_finishes =
      let f = first_digits (jv e) jx (replicate 20 positive_zero) in
      searched_keeps_at (kernel_step tx jx (jv e) q0) kernel_end Going (Finishes (jv e) jx q0) 0 16
      (λ i s h g. step i s g)
      (λ s g. absurd (let h = g.from in let l = g.to in omega (arith, h, l)))
      (omega arith) (terms f (first_terms tx f jx (replicate room positive_zero)) 4)
      (record { from = lit≤ tt; to = lit≤ tt; filled = first_filled p (jv e) jx last })

-- ---- of an angle

-- Every large angle's reduction ends with a pass over 5 to 8 terms.
pub large_finishes : (x : Float) → 0x41300000 ≤ high_word x → high_word x ≤ 0x7fefffff
    → Finishes (jv_of (e0_of x)) (jx_of (pieces_of (scaled_of x))) (q0_of (e0_of x)) (large_of x)
unfolding large_of
large_finishes x h l =
    let tx = pieces_of (scaled_of x) in
    let b = exponent_range x h l in
    let a = angle_pieces x in
    subst (λ (v : ℕ). Finishes v (jx_of tx) (q0_of (e0_of x)) (kernel_of tx (jx_of tx) v (q0_of (e0_of x)))) (sym (jv_is x))
    (kernel_finishes (exponent_of x) b.0 b.1 a (jx_of tx) (last_is (significand_of x) tx a) (q0_of (e0_of x)) (q0_placed x b.0 b.1))

-- Its angle and tail are at most 2 ^ 67 in magnitude.
pub large_under : (x : Float) → 0x41300000 ≤ high_word x → high_word x ≤ 0x7fefffff → Under 67 (large_of x).y0 × Under 67 (large_of x).y1
large_under x h l =
    let r = large_finishes x h l in
    let q0 = q0_of (e0_of x) in
    let p = pass_of (replicate room 0) r.q r.jz q0 in
    let b = exponent_range x h l in
    subst (λ (a : Reduction). Under 67 a.y0 × Under 67 a.y1) (sym r.is)
    (finish_under p.digits p.pass r.q r.jz q0 r.small (let e = r.long in omega (arith, e)) (let e = r.long_q in omega (arith, e))
    (let e = r.from in omega (arith, e)) (let e = r.to in omega (arith, e)) (q0_placed x b.0 b.1).most)

-- It never leaves the C's arrays, which `exhausted` would say.
pub never_exhausted : (x : Float) → 0x41300000 ≤ high_word x → high_word x ≤ 0x7fefffff → large_of x ≡ exhausted → ⊥
never_exhausted x h l e = under_finite (subst (λ (a : Reduction). Under 67 a.y0) e (large_under x h l).0)
