-- `predict` of marching.rs. Definitions only.
use Rattle.std.specs.Prelude.{List, [], ◌∷◌, get_or, Float, Option}
use Rattle.std.specs.Float.{nan}
use Rattle.std.specs.Option.{unwrap_or}
use Rattle.number.specs.Operators.{bits, ◌⊕◌}
use Rattle.geometry.specs.declared.vector.Vector3D.{Vector3D}
use Rattle.geometry.specs.Vector.{dot_of}
use Rattle.patch.specs.declared.patch.Patch.{Patch}
use Rattle.patch.specs.declared.patch.Parameters.{Parameters}
use Rattle.analytic.specs.declared.analytic.Derivatives.{Derivatives}
use Rattle.analytic.specs.Surface.{eval_d1}
use Rattle.solve.specs.Cramer.{solver_tol, solve2_of}

-- `predict`: the two by two system of a displacement on one surface
abbrev pub moved_by : Derivatives → Vector3D → Option (List Float)
moved_by s d =
    solve2_of ((dot_of s.u s.u ∷ dot_of s.u s.v ∷ []) ∷ (dot_of s.u s.v ∷ dot_of s.v s.v ∷ []) ∷ []) (dot_of s.u d ∷ dot_of s.v d ∷ []) solver_tol

-- `unwrap_or([0.0, 0.0])`: nothing moves where the solver gives up
abbrev pub or_zero : Option (List Float) → List Float
or_zero x = unwrap_or x (bits 0 ∷ bits 0 ∷ [])

-- how far u and v of one surface move
unfoldable pub shift_of : Patch → Float → Float → Vector3D → List Float
shift_of p u v d = or_zero (moved_by (eval_d1 p.surface u v) d)

-- `predict`: the parameters moved to first order by the displacement d on both surfaces
unfoldable pub predict_of : Patch → Patch → Parameters → Vector3D → Parameters
predict_of a b x d = record {
  u1 = x.u1 ⊕ get_or (shift_of a x.u1 x.v1 d) 0 nan;
  v1 = x.v1 ⊕ get_or (shift_of a x.u1 x.v1 d) 1 nan;
  u2 = x.u2 ⊕ get_or (shift_of b x.u2 x.v2 d) 0 nan;
  v2 = x.v2 ⊕ get_or (shift_of b x.u2 x.v2 d) 1 nan;
}
