-- What every call on two surfaces tests first. Definitions only.
use Rattle.std.specs.Prelude.{List, [], ◌∷◌}
use Rattle.refusal.specs.declared.Refusal.TheVariants as refusal
use Rattle.refusal.specs.Verdict.{Verdict}
use Rattle.refusal.specs.Verdict.{asked, first_refusal}
use Rattle.geometry.specs.declared.tolerance.Tolerance.{Tolerance}
use Rattle.geometry.specs.Tolerance.{tolerance_fit}
use Rattle.patch.specs.declared.patch.Patch.{Patch}
use Rattle.patch.specs.Patch.{fitness_of}

-- "Surfaces and tolerance are fit when 1 to 5 let them through": A, B, 5
abbrev pub pair_tests : Patch → Patch → Tolerance → List Verdict
pair_tests a b tol = fitness_of a ∷ fitness_of b ∷ asked (tolerance_fit tol) refusal.Tolerance ∷ []

-- the fitness of both and of the tolerance
unfoldable pub pair_fitness : Patch → Patch → Tolerance → Verdict
pair_fitness a b tol = first_refusal (pair_tests a b tol)
