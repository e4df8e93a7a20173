-- The explaining call's word holds its parts apart, and agrees with the crossing's.
use Rattle.std.specs.Prelude.{Some, None, Ok, Err}
use mathlib.Core.Path.{◌≡◌, refl, sym, ap, ◌∙◌}
use mathlib.Core.Bool.{true, false}
use mathlib.Core.List.{List}
use Prim.Native.Nat.{ℕ, ◌+◌, ◌*◌, ◌/◌, ◌%◌, ◌<◌}
use native.Mathlib.Omega.{arith}
use lib.Ieee.{Float}
use Rattle.refusal.specs.declared.Refusal.TheVariants.{Lent}
use Rattle.refusal.specs.Refusal.{number_of}
use Rattle.geometry.specs.declared.tolerance.Tolerance.{Tolerance}
use Rattle.boxes.specs.declared.boxtree.Aabb.{Aabb}
use Rattle.boxes.specs.declared.explain.Reason.{Reason}
use Rattle.boxes.specs.declared.explain.Reason.TheVariants.{Segment, WholeApart, RunsApart, NoneMet}
use Rattle.boxes.specs.Crossing.{Crossed}
use Rattle.boxes.specs.Crossing.{refusal_of, crossed_of, crossing_of}
use Rattle.boxes.specs.Explain.{Explained}
use Rattle.boxes.specs.Explain.{value_of}
use Rattle.passing.specs.Promises.{ExplainPromise}
use Rattle.capi.specs.Answer.{number_in, crossed_in, kind_in}
use Rattle.capi.specs.Crossing.{crossed_word, box_given, tolerance_in, crossing_answer}
use Rattle.capi.specs.Explain.{kind_of, reason_word, value_beside, explained_word, explain_answer, ReasonTold, ExplainWord}
use Rattle.capi.proofs.Words.{number_fits, unlike_zero}

-- the value beside a reason has room in the word
pub value_fits : {tol : Tolerance} {l : List Float} {count : ℕ} {b : Aabb} {r : Explained} → ExplainPromise tol l count b r → value_beside r < 4294967296
value_fits {r = r} p = go r refl
  where
    go : (q : Explained) → r ≡ q → value_beside q < 4294967296
    go (Ok q) e = let h = p.below q e in omega (arith, h.0, h.1)
    go (Err q) e = omega arith

-- the parts of a reason's word
parts : (k v : ℕ) → k < 256
    → ((k * 256 + v * 4294967296) % 256 ≡ 0) × ((k * 256 + v * 4294967296) / 256 % 256 ≡ k) × ((k * 256 + v * 4294967296) / 4294967296 ≡ v)
parts k v h =
    let e : (k * 256 + v * 4294967296) / 256 ≡ k + v * 16777216 = omega arith in
    (omega arith, rw e (omega (arith, h)), omega (arith, h))

kind_small : (q : Reason) → kind_of q < 256
kind_small (Segment i) = omega arith
kind_small (WholeApart axis) = omega arith
kind_small RunsApart = omega arith
kind_small (NoneMet n) = omega arith

explained_number : (x : Explained) → number_in (explained_word x) ≡ refusal_of x
unfolding reason_word
explained_number (Ok q) = (parts (kind_of q) (value_of q) (kind_small q)).0
explained_number (Err r) = let h = number_fits r in omega (arith, h)

-- a segment is named where the kind is 1
named : (x : Explained) → kind_in (explained_word x) ≡ 1 → (i : ℕ) × (x ≡ Ok (Segment i))
unfolding reason_word
named (Ok (Segment i)) e = (i, refl)
named (Ok (WholeApart axis)) e = let p = (parts 2 axis (omega arith)).1 in absurd (omega (arith, p, e))
named (Ok RunsApart) e = absurd (let p : ◌≡◌ {A = ℕ} 3 1 = e in omega (arith, p))
named (Ok (NoneMet n)) e = let p = (parts 4 n (omega arith)).1 in absurd (omega (arith, p, e))
named (Err r) e = let h = number_fits r in absurd (omega (arith, h, e))

segment_kind : (i : ℕ) → kind_in (explained_word (Ok (Segment i))) ≡ 1
unfolding reason_word
segment_kind i = (parts 1 i (omega arith)).1

crossed_number : (x : Crossed) → number_in (crossed_word x) ≡ refusal_of x
crossed_number (Ok true) = refl
crossed_number (Ok false) = refl
crossed_number (Err r) = let h = number_fits r in let e : (number_of r + 0) % 256 ≡ number_of r = omega (arith, h) in e

crossed_part : (x : Crossed) → (crossed_of x ≡ true → crossed_in (crossed_word x) ≡ 1) × (crossed_in (crossed_word x) ≡ 1 → crossed_of x ≡ true)
crossed_part (Ok true) = (λ e. refl, λ e. refl)
crossed_part (Ok false) = (λ e. absurd (let z : ◌≡◌ {A = ℕ} 0 1 = cc in omega arith), λ e. absurd (omega (arith, e)))
crossed_part (Err r) =
    let h = number_fits r in (
      λ e. absurd (let z : ◌≡◌ {A = ℕ} 0 1 = cc in omega arith),
      λ e. absurd (let f : (number_of r + 0) / 256 % 256 ≡ 0 = omega (arith, h) in omega (arith, f, e)),
    )

module _ (confusion angular : Float) (l : List Float) (count : ℕ) (corners : List Float) where
  module _ {b : Aabb} (given : box_given corners ≡ Some b) where
    told : (r : Explained) → ExplainPromise (tolerance_in confusion angular) l count b r → number_in (explained_word r) ≡ 0
        → ReasonTold (tolerance_in confusion angular) l count corners (explained_word r)
    unfolding reason_word
    told (Ok q) p z =
        let f = p.rule q refl in
        let w = parts (kind_of q) (value_of q) (kind_small q) in
        record { box = b; given = given; fit = f.0; reason = q; rule = f.1; kind = w.1; value = w.2 }
    told (Err r) p z = absurd (unlike_zero r z)

    pub explained_word_lem : {r : Explained} {w : ℕ} → ExplainPromise (tolerance_in confusion angular) l count b r → w ≡ explained_word r
        → ExplainWord confusion angular l count corners w
    unfolding explain_answer crossing_answer
    explained_word_lem {r} {w} p e =
        let x = crossing_of (tolerance_in confusion angular) l count b in
        let crossing : crossing_answer confusion angular l count corners ≡ crossed_word x = rw given in
        record {
          answer = rw (given, ← p.answer) e;
          rule = rw e (told r p);
          refused = ap number_in e ∙ explained_number r ∙ p.refused ∙ sym (ap number_in crossing ∙ crossed_number x);
          crosses = λ k.
              let n = named r (sym (ap kind_in e) ∙ k) in
              ap crossed_in crossing ∙ (crossed_part x).0 (p.crosses n.0 n.1);
          named = λ y.
              let n = p.named ((crossed_part x).1 (sym (ap crossed_in crossing) ∙ y)) in
              ap kind_in (e ∙ ap explained_word n.1) ∙ segment_kind n.0;
        }

  pub unexplained : box_given corners ≡ None → {w : ℕ} → w ≡ number_of Lent → ExplainWord confusion angular l count corners w
  unfolding explain_answer crossing_answer
  unexplained h {w} e =
      let crossing : crossing_answer confusion angular l count corners ≡ number_of Lent = rw h in
      record {
        answer = rw h e;
        rule = λ z. absurd (unlike_zero Lent (sym (ap number_in e) ∙ z));
        refused = ap number_in (e ∙ sym crossing);
        crosses = λ k. ap crossed_in crossing ∙ (let z : ◌≡◌ {A = ℕ} 0 1 = sym (ap kind_in e) ∙ k in absurd (omega (arith, z)));
        named = λ y. absurd (let z : ◌≡◌ {A = ℕ} 0 1 = sym (ap crossed_in crossing) ∙ y in omega (arith, z));
      }
