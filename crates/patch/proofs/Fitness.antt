-- What the tests of two surfaces and the tolerance say: where they pass, and which refusals are theirs.
use Rattle.std.specs.Prelude.{Ok, Err}
use mathlib.Core.Path.{◌≡◌}
use mathlib.Core.Bool.{true}
use Rattle.refusal.specs.declared.Refusal.TheVariants as refusal
use Rattle.refusal.specs.Verdict.{Verdict}
use Rattle.refusal.proofs.Order.{asked_held, held_asked, first_passed, passed_first, first_each, asked_each}
use Rattle.geometry.specs.declared.tolerance.Tolerance.{Tolerance}
use Rattle.geometry.specs.Tolerance.{tolerance_fit}
use Rattle.patch.specs.declared.patch.Patch.{Patch}
use Rattle.patch.specs.Patch.{numbers_fit, sizes_fit, window_fit, mark_fit, u_is_angle, v_is_angle, fitness_tests, fitness_of}
use Rattle.patch.specs.Pair.{pair_tests, pair_fitness}

module _ (a b : Patch) (tol : Tolerance) where
  pub pair_passed : pair_fitness a b tol ≡ Ok tt → (fitness_of a ≡ Ok tt) × (fitness_of b ≡ Ok tt) × (tolerance_fit tol ≡ true)
  unfolding pair_fitness
  pair_passed e = let s = first_passed (pair_tests a b tol) e in (s.0, s.1.0, asked_held (tolerance_fit tol) refusal.Tolerance s.1.1.0)

  pub passed_pair : fitness_of a ≡ Ok tt → fitness_of b ≡ Ok tt → tolerance_fit tol ≡ true → pair_fitness a b tol ≡ Ok tt
  unfolding pair_fitness
  passed_pair f g t = passed_first (pair_tests a b tol) (f, (g, (held_asked (tolerance_fit tol) refusal.Tolerance t, tt)))

-- what holds of a pass and of 1 to 4 holds of a surface's verdict
pub fitness_each : (P : Verdict → Type 0) → P (Ok tt) → P (Err refusal.Number) → P (Err refusal.Size) → P (Err refusal.Window) → P (Err refusal.TurnMark)
    → (p : Patch) → P (fitness_of p)
unfolding fitness_of
fitness_each P passed number size window mark p =
    let s = p.surface in
    first_each P (fitness_tests p) (
      asked_each P (numbers_fit s) refusal.Number passed number,
      λ e1. (
        asked_each P (sizes_fit s) refusal.Size passed size,
        λ e2. (
          asked_each P (window_fit p.u) refusal.Window passed window,
          λ e3. (
            asked_each P (window_fit p.v) refusal.Window passed window,
            λ e4. (
              asked_each P (mark_fit p.u.turn (u_is_angle s)) refusal.TurnMark passed mark,
              λ e5.
                  (asked_each P (mark_fit p.v.turn (v_is_angle s)) refusal.TurnMark passed mark, λ e6. passed),
            ),
          ),
        ),
      ),
    )

-- and with 5 of the verdict of two surfaces and the tolerance
pub pair_each : (P : Verdict → Type 0) → P (Ok tt) → P (Err refusal.Number) → P (Err refusal.Size) → P (Err refusal.Window) → P (Err refusal.TurnMark)
    → P (Err refusal.Tolerance) → (a b : Patch) (tol : Tolerance) → P (pair_fitness a b tol)
unfolding pair_fitness
pair_each P passed number size window mark tolerance a b tol =
    let fitness = fitness_each P passed number size window mark in
    first_each P (pair_tests a b tol) (fitness a, λ e. (fitness b, λ f. (asked_each P (tolerance_fit tol) refusal.Tolerance passed tolerance, λ g. passed)))
