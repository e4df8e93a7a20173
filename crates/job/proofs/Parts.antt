-- The parts of a job file: a kind and marks by their numbers, points and directions by three numbers, the guess by four.
use mathlib.Core.Path.{◌≡◌, refl}
use mathlib.Core.Bool.{Bool, true, false}
use mathlib.Core.List.{List, [], ◌∷◌}
use Prim.Native.Nat.{ℕ, ◌+◌, ◌≤◌}
use native.Mathlib.Omega.{arith}
use lib.Ieee.{Float}
use Rattle.loops.specs.Loop.{pick}
use Rattle.wire.specs.Wire.{number_at, numbers_from}
use Rattle.geometry.specs.Point.{point_of, point_of_numbers}
use Rattle.geometry.specs.Vector.{vector_of, vector_of_numbers}
use Rattle.geometry.specs.declared.frame.Frame3D.{Frame3D}
use Rattle.analytic.specs.declared.kind.Kind.{Kind}
use Rattle.analytic.specs.declared.kind.Kind.TheVariants as kind
use Rattle.analytic.specs.Kind.{number_of, surface_as}
use Rattle.job.specs.declared.marks.Marks.{Marks}
use Rattle.job.specs.Layout.{both_marks}
use Rattle.job.specs.Marks.{mark_number}
use Rattle.job.specs.File.{origin_at, direction_at, surface_of, marked}

-- ---- kinds

pub surface_by_number : (k : Kind) (f : Frame3D) (a b : Float) → surface_of (number_of k) f a b ≡ surface_as k f a b
unfolding surface_of
surface_by_number kind.Plane f a b = refl
surface_by_number kind.Cylinder f a b = refl
surface_by_number kind.Cone f a b = refl
surface_by_number kind.Sphere f a b = refl
surface_by_number kind.Torus f a b = refl

pub number_at_most : (k : Kind) → number_of k ≤ 4
number_at_most kind.Plane = omega arith
number_at_most kind.Cylinder = omega arith
number_at_most kind.Cone = omega arith
number_at_most kind.Sphere = omega arith
number_at_most kind.Torus = omega arith

-- ---- marks

u_lem : (u v : Bool) → marked (pick u 1 0 + pick v 2 0) 1 ≡ u
unfolding marked
u_lem true true = refl
u_lem true false = refl
u_lem false true = refl
u_lem false false = refl

pub u_marked : (m : Marks) → marked (mark_number m) 1 ≡ m.u
u_marked m = u_lem m.u m.v

v_lem : (u v : Bool) → marked (pick u 1 0 + pick v 2 0) 2 ≡ v
unfolding marked
v_lem true true = refl
v_lem true false = refl
v_lem false true = refl
v_lem false false = refl

pub v_marked : (m : Marks) → marked (mark_number m) 2 ≡ m.v
v_marked m = v_lem m.u m.v

most_lem : (u v : Bool) → pick u 1 0 + pick v 2 0 ≤ both_marks
most_lem true true = omega arith
most_lem true false = omega arith
most_lem false true = omega arith
most_lem false false = omega arith

pub mark_at_most : (m : Marks) → mark_number m ≤ both_marks
mark_at_most m = most_lem m.u m.v

-- ---- numbers one behind the other

pub origin_of_three : (s : List ℕ) (at : ℕ) → point_of_numbers (numbers_from s at 3) ≡ origin_at s at
unfolding numbers_from point_of origin_at
origin_of_three s at =
    let e : at + 8 + 8 ≡ at + 16 = omega arith in
    rw e

pub direction_of_three : (s : List ℕ) (at : ℕ) → vector_of_numbers (numbers_from s at 3) ≡ direction_at s at
unfolding numbers_from vector_of direction_at
direction_of_three s at =
    let e : at + 8 + 8 ≡ at + 16 = omega arith in
    rw e

pub four_numbers : (s : List ℕ) (at : ℕ) → numbers_from s at 4 ≡ number_at s at ∷ number_at s (at + 8) ∷ number_at s (at + 16) ∷ number_at s (at + 24) ∷ []
unfolding numbers_from
four_numbers s at =
    let third : at + 8 + 8 ≡ at + 16 = omega arith in
    let fourth : at + 8 + 8 + 8 ≡ at + 24 = omega arith in
    rw (fourth, third)
