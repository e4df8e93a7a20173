-- What a call that none of 1 to 8 refuses has.
use Rattle.std.specs.Prelude.{Ok}
use mathlib.Core.Path.{◌≡◌, sym, subst}
use mathlib.Core.Bool.{true}
use mathlib.Core.List.{List, [], ◌∷◌}
use Prim.Native.Nat.{ℕ, ◌+◌, ◌*◌, ◌≤◌}
use borrow.Author.Tests.{leb-true}
use lib.Dec.{T, leb}
use lib.Ieee.{Float}
use lib.Ieee.Bits.{is_true}
use lib.Ieee.Fits.{and_r}
use lib.ListN.{length}
use Rattle.groups.specs.Groups.{width}
use Rattle.groups.proofs.Groups.{holds_length}
use Rattle.refusal.specs.declared.Refusal.TheVariants as refusal
use Rattle.refusal.specs.Verdict.{asked}
use Rattle.refusal.proofs.Order.{first_passed, asked_held}
use Rattle.geometry.specs.declared.tolerance.Tolerance.{Tolerance}
use Rattle.geometry.specs.Tolerance.{tolerance_fit}
use Rattle.patch.specs.declared.patch.Patch.{Patch}
use Rattle.patch.specs.declared.patch.Parameters.{Parameters}
use Rattle.patch.specs.Patch.{fitness_of}
use Rattle.patch.specs.Pair.{pair_fitness}
use Rattle.walk.specs.Trace.{least_steps, most_steps, cap_fits, call_tests, call_fitness, room}

-- both surfaces and the tolerance are fit, the step cap is at most 2000, and there is room for all points
pub record CallFit (a b : Patch) (tol : Tolerance) (n : ℕ) (l : List Float) : Type 0 where
  pub fit_a_lem : fitness_of a ≡ Ok tt
  pub fit_b_lem : fitness_of b ≡ Ok tt
  pub tolerance : T (tolerance_fit tol)
  pub cap : n ≤ most_steps
  pub lent : room n ≤ length l

pub cap_least : (n : ℕ) → cap_fits n ≡ true → n ≤ most_steps
unfolding cap_fits
cap_least n e = leb-true n most_steps (is_true _ (and_r (leb least_steps n) (leb n most_steps) (subst T (sym e) tt)))

pub call_fit : {a b : Patch} {tol : Tolerance} (guess : Parameters) {n : ℕ} {l : List Float} → call_fitness a b tol guess n l ≡ Ok tt → CallFit a b tol n l
unfolding call_fitness pair_fitness
call_fit {a} {b} {tol} guess {n} {l} e =
    let k = first_passed (call_tests a b tol guess n l) e in
    let p = first_passed (fitness_of a ∷ fitness_of b ∷ asked (tolerance_fit tol) refusal.Tolerance ∷ []) k.0 in
    record {
      fit_a_lem = p.0;
      fit_b_lem = p.1.0;
      tolerance = subst T (sym (asked_held (tolerance_fit tol) refusal.Tolerance p.1.1.0)) tt;
      cap = cap_least n (asked_held _ _ k.1.1.0);
      lent = holds_length width l (2 * n + 1) (asked_held _ _ k.1.1.1.0);
    }
