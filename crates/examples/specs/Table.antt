-- The rows of the paper's charted examples marked (P), each a field whose comment is the paper's sentence. Definitions only.
use Rattle.std.specs.Prelude.{◌≡◌, List, [], ◌∷◌, ◌++◌, ℕ, ◌-◌, true, false, negsuc, replicate, Float, Some, None, Ok, Err}
use Prim.Native.Nat as nat
use Rattle.std.specs.Float.{fin, binary64}
use Rattle.std.specs.Float.Ieee.{to_bits}
use Rattle.number.specs.Operators.{bits}
use Rattle.number.specs.Helpers.{positive_zero, one, half, two}
use Rattle.geometry.specs.declared.tolerance.Tolerance.{Tolerance}
use Rattle.geometry.specs.Tolerance.{default_tolerance}
use Rattle.analytic.specs.declared.surface.Surface.{Surface}
use Rattle.patch.specs.declared.patch.Patch.{Patch}
use Rattle.patch.specs.declared.patch.Parameters.{Parameters}
use Rattle.marching.specs.declared.leaving.Exit.{Exit}
use Rattle.marching.specs.Leaving.{leaving_of}
use Rattle.boxes.specs.declared.boxtree.Aabb.{Aabb}
use Rattle.boxes.specs.Crossing.{crossing_of}
use Rattle.boxes.specs.declared.explain.Reason.TheVariants.{Segment, WholeApart}
use Rattle.boxes.specs.Explain.{explain_of, stretch_of}
use Rattle.geometry.specs.declared.vector.Vector3D.{Vector3D}
use Rattle.geometry.specs.declared.frame.Frame3D.{Frame3D}
use Rattle.geometry.specs.Vector.{vector_of, zero_vector}
use Rattle.geometry.specs.Point.{point_of, add_vector_of}
use Rattle.analytic.specs.declared.surface.Surface.TheVariants.{Plane, Cylinder}
use Rattle.analytic.specs.Surface.{eval_point}
use Rattle.sqrt.specs.Sqrt.{sqrt_of}
use Rattle.solve.specs.Cramer.{solve2_of}
use Rattle.solve.specs.Solve.{solve_of, singular}
use Rattle.groups.specs.Traced.{Outcome, refusal_of, round_of, column_of}
use Rattle.walk.specs.Trace.{trace_of}

-- ---- the other numbers of the rows

-- -1
abbrev pub -one : Float
-one = bits 0xbff0_0000_0000_0000

-- -2
abbrev pub -two : Float
-two = bits 0xc000_0000_0000_0000

-- 3
abbrev pub three : Float
three = bits 0x4008_0000_0000_0000

-- 4
abbrev pub four : Float
four = bits 0x4010_0000_0000_0000

-- 5
abbrev pub five : Float
five = bits 0x4014_0000_0000_0000

-- 1.5
abbrev pub three_halves : Float
three_halves = bits 0x3ff8_0000_0000_0000

-- -1.5
abbrev pub -three_halves : Float
-three_halves = bits 0xbff8_0000_0000_0000

-- 1e-12
abbrev pub 1e-12 : Float
1e-12 = bits 0x3d71_9799_812d_ea11

-- 4e-12
abbrev pub 4e-12 : Float
4e-12 = bits 0x3d91_9799_812d_ea11

-- 2 ^ -e, as the logic writes it, for an e above 0
abbrev pub two_to_minus : ℕ → Float
two_to_minus e = fin false 1 (negsuc (e - 1))

-- the matrix with this diagonal
abbrev pub diagonal : Float → Float → Float → List (List Float)
diagonal a b c = (a ∷ positive_zero ∷ positive_zero ∷ []) ∷ (positive_zero ∷ b ∷ positive_zero ∷ []) ∷ (positive_zero ∷ positive_zero ∷ c ∷ []) ∷ []

-- the parameter k, at the bound that it oversteps
abbrev pub exit : ℕ → Float → Exit
exit k bound = record { index = k; bound = bound }

-- "Windows all 0 to 1, no marks", whatever the surface
abbrev pub unit_patch : Surface → Patch
unit_patch s = record {
  surface = s;
  u = record { low = positive_zero; high = one; turn = false };
  v = record { low = positive_zero; high = one; turn = false };
}

-- (u1, v1, u2, v2)
abbrev pub parameters : Float → Float → Float → Float → Parameters
parameters u1 v1 u2 v2 = record { u1 = u1; v1 = v1; u2 = u2; v2 = v2 }

-- a point's seven numbers at (x, 0, 0), whatever its parameters
abbrev pub axis_point : Float → (ℕ → Float) → List Float
axis_point x p = x ∷ positive_zero ∷ positive_zero ∷ p 0 ∷ p 1 ∷ p 2 ∷ p 3 ∷ []

-- (0.1,0,0) and (0.2,0,0)
abbrev pub second_point : (ℕ → Float) → List Float
second_point = axis_point (bits 0x3fb9_9999_9999_999a)

abbrev pub third_point : (ℕ → Float) → List Float
third_point = axis_point (bits 0x3fc9_9999_9999_999a)

-- "Points (0,0,0), (0.1,0,0), (0.2,0,0), (0.3,0,0)"
abbrev pub four_points : (ℕ → ℕ → Float) → List Float
four_points p = axis_point positive_zero (p 0) ++ second_point (p 1) ++ third_point (p 2) ++ axis_point (bits 0x3fd3_3333_3333_3333) (p 3)

-- "confusion 2^-20, angular 1e-12", whatever the parametric tolerance
abbrev pub confusion20 : Float → Tolerance
confusion20 t = record { confusion = bits 0x3eb0_0000_0000_0000; angular = 1e-12; parametric = t }

-- "the box that is the point"
abbrev pub box_at : Float → Float → Float → Aabb
box_at x y z = record { low = record { x = x; y = y; z = z }; high = record { x = x; y = y; z = z } }

-- "(0.15, 0.005, 0)"
abbrev pub box_crossed : Aabb
box_crossed = box_at (bits 0x3fc3_3333_3333_3333) (bits 0x3f74_7ae1_47ae_147b) positive_zero

-- "(0.15, 0.01, 0)"
abbrev pub box_clear : Aabb
box_clear = box_at (bits 0x3fc3_3333_3333_3333) (bits 0x3f84_7ae1_47ae_147b) positive_zero

-- the frame with axes (1,0,0), (0,1,0), (0,0,1) whose origin is 0 moved by a vector
abbrev pub moved_frame : Vector3D → Frame3D
moved_frame by = record {
  origin = add_vector_of (point_of positive_zero positive_zero positive_zero) by;
  x = vector_of one positive_zero positive_zero;
  y = vector_of positive_zero one positive_zero;
  z = vector_of positive_zero positive_zero one;
}

-- ""Unit frame" is origin 0 with axes (1,0,0), (0,1,0), (0,0,1)."
abbrev pub unit_frame : Frame3D
unit_frame = moved_frame zero_vector

-- "plane, windows -1 to 1, no marks"
abbrev pub square_plane : Frame3D → Patch
square_plane f = record {
  surface = Plane f;
  u = record { low = -one; high = one; turn = false };
  v = record { low = -one; high = one; turn = false };
}

-- example 9's call: B is A moved by a vector; "default tolerance, cap 2", "guess all 0"
abbrev pub nine_of : Vector3D → List Float → Outcome
nine_of by l = trace_of (square_plane unit_frame) (square_plane (moved_frame by)) default_tolerance (parameters positive_zero positive_zero positive_zero positive_zero) 2 l

-- numbers lent, whatever they are
abbrev pub lent : ℕ → (ℕ → Float) → List Float
lent nat.zero p = []
lent (nat.suc k) p = p k ∷ lent k p

-- "The (P) rows form one table"
pub record Table : Type 0 where
  -- "Plane, unit frame, (3, -2): point (3, -2, 0)."
  pub row1 : eval_point (Plane unit_frame) three -two ≡ point_of three -two positive_zero
  -- "Cylinder radius 2, unit frame, (0, 5): (2, 0, 5)."
  pub row2 : eval_point (Cylinder unit_frame two) positive_zero five ≡ point_of two positive_zero five
  -- "Square root of 2: bits hexadecimal 3ff6a09e667f3bcd."
  pub row3 : to_bits binary64 (sqrt_of two) ≡ 0x3ff6a09e667f3bcd
  -- "Square root of 2^-1074: 2^-537."
  pub row4 : sqrt_of (two_to_minus 1074) ≡ two_to_minus 537
  -- "`solve_2x2` of rows (2,0), (0,4), right side (2,4): (1,1). Rows (1,1), (1,1): gives up." ("tol is 1e-12 throughout")
  pub row5 :
      (solve2_of ((two ∷ positive_zero ∷ []) ∷ (positive_zero ∷ four ∷ []) ∷ []) (two ∷ four ∷ []) 1e-12 ≡ Some (one ∷ one ∷ []))
      × ((right : List Float) → solve2_of ((one ∷ one ∷ []) ∷ (one ∷ one ∷ []) ∷ []) right 1e-12 ≡ None)
  -- "Diagonal (1, 1, 4e-12), right side (1, 2, 4e-12): (1, 2, 1). Diagonal (1, 1, 1e-12): gives up." (02, A3: at column 2)
  pub row6 :
      (solve_of 3 (diagonal one one 4e-12) (one ∷ two ∷ 4e-12 ∷ []) 1e-12 ≡ Ok (one ∷ two ∷ one ∷ []))
      × ((right : List Float) → solve_of 3 (diagonal one one 1e-12) right 1e-12 ≡ singular 2)
  -- "Windows all 0 to 1, no marks, from 0.5 four times to (1.5, 0.5, 1.5, 0.5): leaves at index 0, bound 1. To (1.5, 0.5, 0.5, -1.5):
  -- index 3, bound 0."
  pub row7 :
      ((a b : Surface)
      → leaving_of (unit_patch a) (unit_patch b) (parameters half half half half) (parameters three_halves half three_halves half) ≡ Some (exit 0 one))
      × ((a b : Surface)
      → leaving_of (unit_patch a) (unit_patch b) (parameters half half half half) (parameters three_halves half half -three_halves)
      ≡ Some (exit 3 positive_zero))
  -- "Points (0,0,0), (0.1,0,0), (0.2,0,0), (0.3,0,0), confusion 2^-20, angular 1e-12: the box that is the point (0.15, 0.005, 0) is
  -- crossed, (0.15, 0.01, 0) is not."
  pub row8 :
      ((p : ℕ → ℕ → Float) (t : Float) → crossing_of (confusion20 t) (four_points p) 4 box_crossed ≡ Ok true)
      × ((p : ℕ → ℕ → Float) (t : Float) → crossing_of (confusion20 t) (four_points p) 4 box_clear ≡ Ok false)
  -- 02, A6, of row 8: the first box is crossed at segment 1, whose points are the second and the third; from the second box, grown, the whole
  -- trace's box is apart, on axis 1 first
  pub row8_explained :
      ((p : ℕ → ℕ → Float) (t : Float)
      → (explain_of (confusion20 t) (four_points p) 4 box_crossed ≡ Ok (Segment 1))
      × (stretch_of (confusion20 t) (four_points p) 4 box_crossed ≡ second_point (p 1) ++ third_point (p 2)))
      × ((p : ℕ → ℕ → Float) (t : Float)
      → (explain_of (confusion20 t) (four_points p) 4 box_clear ≡ Ok (WholeApart 1)) × (stretch_of (confusion20 t) (four_points p) 4 box_clear ≡ []))
  -- "A and B the same unit-frame plane, windows -1 to 1, no marks, default tolerance, cap 2, 35 numbers lent, guess all 0: 10. B's origin
  -- moved to z = 1": 02, A2: "the new number, in round 0"; A3: at column 2 (and the 35 numbers are positive zero afterwards)
  pub row9 :
      ((p : ℕ → Float) → (refusal_of (nine_of zero_vector (lent 35 p)).answer ≡ 10) × ((nine_of zero_vector (lent 35 p)).buffer ≡ replicate 35 positive_zero))
      × ((p : ℕ → Float)
      → (refusal_of (nine_of (vector_of positive_zero positive_zero one) (lent 35 p)).answer ≡ 21)
      × (round_of (nine_of (vector_of positive_zero positive_zero one) (lent 35 p)).answer ≡ 0)
      × (column_of (nine_of (vector_of positive_zero positive_zero one) (lent 35 p)).answer ≡ 2)
      × ((nine_of (vector_of positive_zero positive_zero one) (lent 35 p)).buffer ≡ replicate 35 positive_zero))
