-- The promises of the public calls follow from the equations of what they call.
use Rattle.std.specs.Prelude.{Ok, Err}
use mathlib.Core.Path.{◌≡◌, refl, ap, sym, ◌∙◌}
use mathlib.Core.List.{List}
use Prim.Native.Nat.{ℕ, ◌<◌}
use native.Mathlib.Omega.{arith}
use lib.Ieee.{Float}
use Rattle.number.proofs.Binary64.{Binary64}
use Rattle.refusal.specs.declared.Refusal.{Refusal}
use Rattle.refusal.specs.declared.Refusal.TheVariants as refusal
use Rattle.refusal.proofs.Laws.{number_positive}
use Rattle.geometry.specs.declared.tolerance.Tolerance.{Tolerance}
use Rattle.patch.specs.declared.patch.Patch.{Patch}
use Rattle.patch.specs.declared.patch.Parameters.{Parameters}
use Rattle.meeting.specs.Newton.{most_rounds, Unmet}
use Rattle.meeting.proofs.Rounds.{meet_unmet, unmet_round, singular_bounds}
use Rattle.refusal.specs.Verdict.{Verdict}
use Rattle.certificate.specs.Passes.{Passes}
use Rattle.refusal.specs.Verdict.{refusal_of}
use Rattle.certificate.specs.Check.{check_of}
use Rattle.certificate.proofs.Exact.{passes_finite, passes_exact}
use Rattle.certificate.proofs.Passed.{checked_passes, passes_checked}
use Rattle.groups.specs.Traced.{TraceAnswer}
use Rattle.groups.specs.Traced.{count_of, start_of, closing_of}
use Rattle.groups.specs.Traced as trace
use Rattle.walk.specs.Trace.{trace_of}
use Rattle.walk.proofs.Unmet.{Seeds, unmet_seeds, singular_seeds, unmet_answer, answer_unmet}
use Rattle.boxes.specs.declared.boxtree.Aabb.{Aabb}
use Rattle.boxes.specs.Crossing.{Crossed}
use Rattle.boxes.specs.Crossing.{crossed_of, crossing_of}
use Rattle.boxes.specs.Crossing as crossing
use Rattle.boxes.specs.Explain.{Explained}
use Rattle.boxes.specs.Explain.{explain_of, stretch_of}
use Rattle.boxes.proofs.Counted.{crossed_when}
use Rattle.boxes.proofs.Explained.{refused_alike, explained_when, named_crossed, crossed_named, named_below, named_some, stretch_points, stretch_empty}
use Rattle.passing.specs.Promises.{ExactGaps, GuessUnmet, TracePromise, CheckPromise, CrossingPromise, ExplainPromise, StretchPromise}
use Rattle.passing.proofs.Passing.{trace_passes}

-- no refusal has the number 0
pub not_refused : (r : Verdict) → refusal_of r ≡ 0 → r ≡ Ok tt
not_refused (Ok u) e = refl
not_refused (Err q) e = let h = number_positive q in absurd (omega (arith, h, e))

exact_gaps : {a b : Patch} {tol : Tolerance} {l : List Float} {count start closing : ℕ} → Passes a b tol l count start closing → ExactGaps a b tol l count
exact_gaps p i h = let f = passes_finite p i h in record { finite_a = f.0; finite_b = f.1; within = passes_exact p i h }

pub trace_promised : (a b : Patch) (tol : Tolerance) (guess : Parameters) (cap : ℕ) (before : List Float) {after : List Float} {r : TraceAnswer}
    → r ≡ (trace_of a b tol guess cap before).answer → after ≡ (trace_of a b tol guess cap before).buffer → TracePromise a b tol guess cap before after r
trace_promised a b tol guess cap before {after} {r} answer buffer =
    record {
      answer = answer;
      buffer = buffer;
      passes = passes;
      checked = λ z. ap refusal_of (passes_checked a b tol after (count_of r) (start_of r) (closing_of r) (passes z));
      exact = λ z. exact_gaps (passes z);
      unmet = λ i e. guess_unmet (refusal.NoMeeting i) (unmet_seeds i) e;
      singular = λ i col e. guess_unmet (refusal.Singular i col) (singular_seeds i col) e;
      handed_on = λ q g. answer ∙ unmet_answer a b tol guess cap before q g.fit g.meeting;
      rounds = λ i. (λ e. unmet_round (refusal.NoMeeting i) (why (refusal.NoMeeting i) (unmet_seeds i) e), λ col e. (bounds i col e).0);
      columns = λ i col e. (bounds i col e).1;
    }
  where
    guess_unmet : (q : Refusal) → Seeds q → r ≡ Err q → GuessUnmet a b tol guess cap before q
    guess_unmet q s e =
        let h = answer_unmet a b tol guess cap before q s (sym answer ∙ e) in
        record { fit = h.0; meeting = h.1 }

    why : (q : Refusal) → Seeds q → r ≡ Err q → Unmet 3 q
    why q s e = meet_unmet a b guess tol q (guess_unmet q s e).meeting

    bounds : (i col : ℕ) → r ≡ Err (refusal.Singular i col) → (i < most_rounds) × (col < 3)
    bounds i col e = singular_bounds i col (why (refusal.Singular i col) (singular_seeds i col) e)

    passes : trace.refusal_of r ≡ 0 → Passes a b tol after (count_of r) (start_of r) (closing_of r)
    passes = rw (answer, buffer) (trace_passes a b tol guess cap before)

module _ (a b : Patch) (tol : Tolerance) (l : List Float) (count start closing : ℕ) where
  pub check_promised : Binary64 l → {r : Verdict} → r ≡ check_of a b tol l count start closing → CheckPromise a b tol l count start closing r
  check_promised d {r} e = record { answer = e; passes = passes; complete = complete; exact = λ z. exact_gaps (passes z) }
    where
      passes : refusal_of r ≡ 0 → Passes a b tol l count start closing
      passes z = checked_passes a b tol l count start closing d (sym e ∙ not_refused r z)

      complete : Passes a b tol l count start closing → refusal_of r ≡ 0
      complete p = ap refusal_of (e ∙ passes_checked a b tol l count start closing p)

pub crossing_promised : (tol : Tolerance) (l : List Float) (count : ℕ) (box : Aabb) {r : Crossed} → r ≡ crossing_of tol l count box → CrossingPromise tol l count box r
crossing_promised tol l count box e =
    let w = crossed_when tol l count box in
    record {
      answer = e;
      counts = λ y. w.0 (sym (ap crossed_of e) ∙ y);
      complete = λ f i c. ap crossed_of e ∙ w.1 (f, (i, c));
    }

pub explain_promised : (tol : Tolerance) (l : List Float) (count : ℕ) (box : Aabb) {r : Explained} → r ≡ explain_of tol l count box → ExplainPromise tol l count box r
explain_promised tol l count box e =
    record {
      answer = e;
      rule = λ q f. (explained_when tol l count box q).0 (sym e ∙ f);
      complete = λ f q x. e ∙ (explained_when tol l count box q).1 (f, x);
      refused = ap crossing.refusal_of e ∙ refused_alike tol l count box;
      crosses = λ i f. named_crossed tol l count box i (sym e ∙ f);
      named = λ y. let n = crossed_named tol l count box y in (n.0, e ∙ n.1);
      below = λ q f. named_below tol l count box q (sym e ∙ f);
      some = λ n f. named_some tol l count box n (sym e ∙ f);
    }

pub stretch_promised : (tol : Tolerance) (l : List Float) (count : ℕ) (box : Aabb) {s : List Float} → s ≡ stretch_of tol l count box → StretchPromise tol l count box s
stretch_promised tol l count box e =
    record {
      answer = e;
      points = λ i f. e ∙ stretch_points tol l count box i f;
      empty = λ f. e ∙ stretch_empty tol l count box f;
    }
