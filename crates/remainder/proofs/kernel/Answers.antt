-- A pass answers, or terms are added.
use mathlib.Core.Path.{◌≡◌, refl, sym, ap, ◌∙◌}
use mathlib.Core.Bool.{Bool, true, false, false≢true}
use mathlib.Core.List.{List}
use Prim.Native.Nat.{ℕ, ◌+◌, ◌≤◌, ◌<◌}
use native.Mathlib.Omega.{arith}
use borrow.Author.Tests.{lt-ltb, le-ltb}
use lib.Dec.{eqb}
use lib.IntN.{ℤ}
use lib.Ieee.{Float, binary64, of_bits}
use lib.ListN.{replicate}
use mir.Syntax.{w32}
use Rattle.std.proofs.Common.{Some, None}
use Rattle.std.proofs.lemmas.Int.{to_z-of_z}
use Rattle.loops.specs.Loop.{pick, Flow, on, out}
use Rattle.loops.proofs.Loop.{searched_again, searched_leave, searched_done}
use Rattle.number.specs.Operators.{◌==?◌}
use Rattle.number.specs.Helpers.{positive_zero}
use Rattle.remainder.specs.declared.Reduction.{Reduction}
use Rattle.remainder.specs.declared.digits.Pass.{Pass}
use Rattle.remainder.specs.Kernel.{Terms, terms, Passed, passed, pass_of, joined_of, needed_of, more_of, finish_of, again, kernel_step, kernel_of}
use Rattle.remainder.specs.Kernel.{exhausted, room}
use Rattle.remainder.proofs.kernel.Goals as goal

-- an iteration, by what its pass leaves
module _ (x : List Float) (jx jv : ℕ) (q0 : ℤ) (i : ℕ) (s : Terms) {iq : List ℕ} {p : Pass} (e : passed iq p ≡ pass_of (replicate room 0) s.q s.jz q0) where
  -- what follows a pass
  after : Bool → Bool → Flow Terms Reduction
  after a b = pick a (pick b (again x jx jv s (needed_of iq)) (out (finish_of iq p s.q s.jz q0))) (out (finish_of iq p s.q s.jz q0))

  by_pass : kernel_step x jx jv q0 i s ≡ after (p.z ==? positive_zero) (eqb (joined_of iq s.jz) 0)
  unfolding after
  by_pass =
      ap (λ (d : Passed). pick (d.pass.z ==? positive_zero)
      (pick (eqb (joined_of d.digits s.jz) 0) (again x jx jv s (needed_of d.digits)) (out (finish_of d.digits d.pass s.q s.jz q0)))
      (out (finish_of d.digits d.pass s.q s.jz q0))) (sym e)

  enough : false ≡ pick (p.z ==? positive_zero) (eqb (joined_of iq s.jz) 0) false → kernel_step x jx jv q0 i s ≡ out (finish_of iq p s.q s.jz q0)
  unfolding after
  enough h = by_pass ∙ go (p.z ==? positive_zero) (eqb (joined_of iq s.jz) 0) h
    where
      go : (a b : Bool) → false ≡ pick a b false → after a b ≡ out (finish_of iq p s.q s.jz q0)
      go true true h = absurd (false≢true h)
      go true false h = refl
      go false b h = refl

  too_few : true ≡ pick (p.z ==? positive_zero) (eqb (joined_of iq s.jz) 0) false → kernel_step x jx jv q0 i s ≡ again x jx jv s (needed_of iq)
  unfolding after
  too_few h = by_pass ∙ go (p.z ==? positive_zero) (eqb (joined_of iq s.jz) 0) h
    where
      go : (a b : Bool) → true ≡ pick a b false → after a b ≡ again x jx jv s (needed_of iq)
      go true true h = refl
      go true false h = absurd (false≢true (sym h))
      go false b h = absurd (false≢true (sym h))

  -- the three ways on
  none_needed : true ≡ pick (p.z ==? positive_zero) (eqb (joined_of iq s.jz) 0) false → None ≡ needed_of iq → kernel_step x jx jv q0 i s ≡ out exhausted
  none_needed h n = too_few h ∙ ap (again x jx jv s) (sym n)

  no_room : {k : ℕ} → true ≡ pick (p.z ==? positive_zero) (eqb (joined_of iq s.jz) 0) false → Some k ≡ needed_of iq → 19 < jx + s.jz + k
      → kernel_step x jx jv q0 i s ≡ out exhausted
  no_room {k} h n l = too_few h ∙ ap (again x jx jv s) (sym n) ∙ rw (lt-ltb 19 (jx + s.jz + k) l) refl

  goes_on : {k : ℕ} {f q : List Float} → true ≡ pick (p.z ==? positive_zero) (eqb (joined_of iq s.jz) 0) false → Some k ≡ needed_of iq → jx + s.jz + k ≤ 19
      → terms f q s.jz ≡ more_of x jx jv k s → kernel_step x jx jv q0 i s ≡ on (terms f q (s.jz + k))
  goes_on {k} h n l m =
      too_few h ∙ ap (again x jx jv s) (sym n) ∙ rw (le-ltb 19 (jx + s.jz + k) l) (ap (λ (t : Terms). on (terms t.f t.q (s.jz + k))) (sym m))

-- NaNs
none : record { quadrant = 0; y0 = of_bits binary64 9221120237041090560; y1 = of_bits binary64 9221120237041090560 } ≡ exhausted
unfolding of_bits
none = refl

pub loop-init : goal.loop-init
unfolding kernel_of
loop-init c = record {
  found = rw (to_z-of_z w32 _ c.ranges.q0, c.first_terms.ensures, c.first_digits.ensures) refl;
  from = omega arith;
  to = omega arith;
}

pub returns-then-not-too_few : goal.returns-then-not-too_few
returns-then-not-too_few c =
    let s = c.loop in
    let q0 = c.args.q0 in
    let fit = to_z-of_z w32 q0 c.ranges.q0 in
    let e = enough c.args.x.now c.args.jx c.args.jv q0 s.counter (terms s.f s.q s.jz) (rw fit at c.one_pass-at.ensures)
    (sym c.if-not-too_few.true ∙ c.too_few.ensures) in
    rw fit at c.finish.ensures ∙ searched_leave _ _ _ _ c.loop-test.true e (rw fit at s.invariant.found)

pub returns-in_default : goal.returns-in_default
returns-in_default c =
    let s = c.loop in
    let q0 = c.args.q0 in
    let fit = to_z-of_z w32 q0 c.ranges.q0 in
    let e = none_needed c.args.x.now c.args.jx c.args.jv q0 s.counter (terms s.f s.q s.jz) (rw fit at c.one_pass-at.ensures)
    (sym c.if-not-too_few.false ∙ c.too_few.ensures) (sym c.in_default.is ∙ c.needed.ensures) in
    none ∙ searched_leave _ _ _ _ c.loop-test.true e (rw fit at s.invariant.found)

pub returns-then-jx-jz : goal.returns-then-jx-jz
returns-then-jx-jz c =
    let s = c.loop in
    let q0 = c.args.q0 in
    let fit = to_z-of_z w32 q0 c.ranges.q0 in
    let e = no_room c.args.x.now c.args.jx c.args.jv q0 s.counter (terms s.f s.q s.jz) (rw fit at c.one_pass-at.ensures)
    (sym c.if-not-too_few.false ∙ c.too_few.ensures) (sym c.in-Some.is ∙ c.needed.ensures) (omega arith) in
    none ∙ searched_leave _ _ _ _ c.loop-test.true e (rw fit at s.invariant.found)

pub loop-preserved : goal.loop-preserved
loop-preserved c =
    let s = c.loop in
    let q0 = c.args.q0 in
    let fit = to_z-of_z w32 q0 c.ranges.q0 in
    let e = goes_on c.args.x.now c.args.jx c.args.jv q0 s.counter (terms s.f s.q s.jz) (rw fit at c.one_pass-at.ensures)
    (sym c.if-not-too_few.false ∙ c.too_few.ensures) (sym c.in-Some.is ∙ c.needed.ensures) (omega arith) c.more.ensures in
    record {
      found = rw fit (searched_again _ _ _ _ c.loop-test.true e (rw fit at s.invariant.found));
      from = omega (arith, s.invariant.from);
      to = omega arith;
    }

pub returns : goal.returns
returns c = none ∙ searched_done _ _ _ _ c.loop-test.false (rw (to_z-of_z w32 _ c.ranges.q0) at c.loop.invariant.found)
