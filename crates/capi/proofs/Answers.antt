-- What the point's word says, and the box of the corners given, from what the calls below them answer.
use Rattle.std.specs.Prelude.{Some, Ok, Err}
use mathlib.Core.Path.{◌≡◌, refl}
use mathlib.Core.List.{List, [], ◌∷◌, ◌++◌}
use Prim.Native.Nat.{ℕ, ◌+◌, ◌≤◌, ◌<◌}
use native.Mathlib.Omega.{arith}
use lib.ListN.{length, take, drop}
use lib.Ieee.{Float, nan}
use borrow.Author.Tests.{le-leb, le-ltb, lt-ltb}
use Rattle.std.proofs.lemmas.List.{get_or-take}
use Rattle.refusal.specs.declared.Refusal.{Refusal}
use Rattle.refusal.specs.declared.Refusal.TheVariants.{Lent}
use Rattle.refusal.specs.Refusal.{number_of}
use Rattle.geometry.specs.declared.point.Point3D.{Point3D}
use Rattle.patch.specs.declared.patch.Patch.{Patch}
use Rattle.patch.specs.Located.{Located}
use Rattle.patch.specs.Located.{located_of}
use Rattle.capi.specs.Answer.{answered}
use Rattle.job.specs.File.{surface_file}
use Rattle.capi.specs.Point.{put3, point_on, point_answer}
use Rattle.capi.specs.Crossing.{corner_at, box_given}

-- three numbers put down at the front
put3_front : (t : List Float) (x y z : Float) → 3 ≤ length t → put3 t x y z ≡ (x ∷ y ∷ z ∷ []) ++ drop 3 t
unfolding put3
put3_front [] x y z h = absurd (omega (arith, h))
put3_front (a ∷ []) x y z h = absurd (omega (arith, h))
put3_front (a ∷ b ∷ []) x y z h = absurd (omega (arith, h))
put3_front (a ∷ b ∷ c ∷ t) x y z h = refl

module _ (bytes : List ℕ) (u v : Float) (t : List Float) where
  pub point_unread : {r : Refusal} → surface_file bytes ≡ Err r → answered (number_of r) t ≡ point_answer bytes u v t
  unfolding point_answer
  point_unread e = rw e

  module _ {patch : Patch} (e : surface_file bytes ≡ Ok patch) where
    pub point_short : length t < 3 → answered (number_of Lent) t ≡ point_answer bytes u v t
    unfolding point_answer point_on
    point_short h = rw (e, lt-ltb _ _ h)

    module _ (h : 3 ≤ length t) {l : Located} (located : l ≡ located_of patch u v) where
      pub point_refused : {r : Refusal} → l ≡ Err r → answered (number_of r) t ≡ point_answer bytes u v t
      unfolding point_answer point_on
      point_refused f = rw (e, le-ltb _ _ h, ← located, f)

      pub point_located : {p : Point3D} → l ≡ Ok p → answered 0 ((p.x ∷ p.y ∷ p.z ∷ []) ++ drop 3 t) ≡ point_answer bytes u v t
      unfolding point_answer point_on
      point_located f = rw (e, le-ltb _ _ h, ← located, f, put3_front t _ _ _ h)

-- three of the first six numbers are those of the list
pub corner_taken : (l : List Float) (at : ℕ) → at + 3 ≤ 6 → corner_at (take 6 l) at ≡ corner_at l at
corner_taken l at h = rw (get_or-take 6 l at nan (omega arith), get_or-take 6 l (at + 1) nan (omega arith), get_or-take 6 l (at + 2) nan (omega arith))

-- so the box of them is that of the list
pub box_taken : (l : List Float) → 6 ≤ length l → {lo hi : Point3D} → lo ≡ corner_at l 0 → hi ≡ corner_at l 3 → Some (record { low = lo; high = hi }) ≡ box_given l
unfolding box_given
box_taken l h a b = rw (le-leb _ _ h, ← a, ← b)
