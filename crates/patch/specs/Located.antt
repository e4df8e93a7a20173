-- The public point, and the points of two surfaces at four parameters. Definitions only.
use Rattle.std.specs.Prelude.{ℕ, Float, Result, Ok, Err}
use Rattle.std.specs.Float.Ieee.Scale.{finite}
use Rattle.loops.specs.Loop.{pick}
use Rattle.geometry.specs.declared.point.Point3D.{Point3D}
use Rattle.refusal.specs.declared.Refusal.{Refusal}
use Rattle.refusal.specs.declared.Refusal.TheVariants.{Parameter}
use Rattle.refusal.specs.Refusal.{number_of}
use Rattle.patch.specs.declared.patch.Patch.{Patch}
use Rattle.patch.specs.declared.patch.Parameters.{Parameters}
use Rattle.refusal.specs.Verdict.{Verdict}
use Rattle.analytic.specs.Surface.{eval_point}
use Rattle.patch.specs.Patch.{fitness_of}

-- the public point's answer
abbrev pub Located : Type 0
Located = Result Point3D Refusal

-- "A refusal is its number alone"; 0 where there is none
abbrev pub refusal_of : Located → ℕ
refusal_of (Ok p) = 0
refusal_of (Err r) = number_of r

-- A's point at the parameters: the walk's, and of the check's two points, "both worked out afresh at its parameters", the first
abbrev pub point_a : Patch → Parameters → Point3D
point_a a x = eval_point a.surface x.u1 x.v1

-- B's point at them
abbrev pub point_b : Patch → Parameters → Point3D
point_b b x = eval_point b.surface x.u2 x.v2

-- 1 to 4 are the patch's; 6: "a guess or parameter that is not finite"
abbrev pub after_fitness : Patch → Float → Float → Verdict → Located
after_fitness p u v (Err r) = Err r
after_fitness p u v (Ok passed) = pick (finite u) (pick (finite v) (Ok (eval_point p.surface u v)) (Err Parameter)) (Err Parameter)

-- the public point: "Point: 1 to 4, then 6"
unfoldable pub located_of : Patch → Float → Float → Located
located_of p u v = after_fitness p u v (fitness_of p)
