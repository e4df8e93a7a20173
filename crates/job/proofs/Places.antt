-- A surface of 146 bytes that stand in a list is the one at their place in the list.
use mathlib.Core.Path.{◌≡◌, refl, ap, ◌∙◌}
use mathlib.Core.List.{List}
use Prim.Native.Nat.{ℕ, zero, suc, ◌+◌, ◌≤◌, ◌<◌}
use native.Mathlib.Omega.{arith}
use lib.ListN.{length, take, drop, length-drop}
use lib.Seq.{get_or-drop, get_or-take, length-take-le}
use borrow.Author.Tests.{le-ltb}
use Rattle.number.specs.Operators.{bits}
use Rattle.wire.specs.Wire.{byte_at, uint_at, number_at}
use Rattle.job.specs.Layout.{surface_bytes}
use Rattle.job.specs.File.{origin_at, direction_at, frame_at, window_at, patch_at, surface_at, surface_file}

-- the bytes t stand in s from `at` on
module _ (s t : List ℕ) (at : ℕ) (same : (k : ℕ) → k < surface_bytes → byte_at t k ≡ byte_at s (at + k)) where
  uint_same : (n j k : ℕ) → j ≡ at + k → k + n ≤ surface_bytes → uint_at n t k ≡ uint_at n s j
  unfolding uint_at
  uint_same zero j k e h = refl
  uint_same (suc n) j k e h = rw (same k (omega arith), e, uint_same n (at + k + 1) (k + 1) (omega arith) (omega arith))

  number_same : (j k : ℕ) → j ≡ at + k → k + 8 ≤ surface_bytes → number_at t k ≡ number_at s j
  unfolding number_at
  number_same j k e h = ap bits (uint_same 8 j k e h)

  origin_same : (j k : ℕ) → j ≡ at + k → k + 24 ≤ surface_bytes → origin_at t k ≡ origin_at s j
  unfolding origin_at
  origin_same j k e h =
      rw (number_same j k e (omega arith), number_same (j + 8) (k + 8) (omega arith) (omega arith), number_same (j + 16) (k + 16) (omega arith) (omega arith))

  direction_same : (j k : ℕ) → j ≡ at + k → k + 24 ≤ surface_bytes → direction_at t k ≡ direction_at s j
  unfolding direction_at
  direction_same j k e h =
      rw (number_same j k e (omega arith), number_same (j + 8) (k + 8) (omega arith) (omega arith), number_same (j + 16) (k + 16) (omega arith) (omega arith))

  frame_same : (j k : ℕ) → j ≡ at + k → k + 96 ≤ surface_bytes → frame_at t k ≡ frame_at s j
  unfolding frame_at
  frame_same j k e h =
      rw (origin_same j k e (omega arith), direction_same (j + 24) (k + 24) (omega arith) (omega arith))
      (rw (direction_same (j + 48) (k + 48) (omega arith) (omega arith), direction_same (j + 72) (k + 72) (omega arith) (omega arith)))

  patch_same : (kind marks : ℕ) → patch_at t 0 kind marks ≡ patch_at s at kind marks
  unfolding patch_at window_at
  patch_same kind marks =
      rw (frame_same (at + 2) 2 refl (omega arith), number_same (at + 98) 98 refl (omega arith), number_same (at + 106) 106 refl (omega arith))
      (rw (number_same (at + 114) 114 refl (omega arith), number_same (at + 114 + 8) 122 (omega arith) (omega arith))
      (rw (number_same (at + 130) 130 refl (omega arith), number_same (at + 130 + 8) 138 (omega arith) (omega arith))))

  surface_same : surface_at t 0 ≡ surface_at s at
  unfolding surface_at
  surface_same =
      let first : byte_at t 0 ≡ byte_at s at = same 0 (omega arith) ∙ ap (byte_at s) (let e : at + 0 ≡ at = omega arith in e) in
      rw (first, same 1 (omega arith), uint_same 8 (at + 98) 98 refl (omega arith), uint_same 8 (at + 106) 106 refl (omega arith), patch_same _ _)

-- the first 146 bytes
pub surface_taken : (s : List ℕ) → surface_at (take surface_bytes s) 0 ≡ surface_at s 0
surface_taken s = surface_same s (take surface_bytes s) 0 (λ k h. get_or-take surface_bytes s k 0 h ∙ ap (byte_at s) (let e : k ≡ 0 + k = omega arith in e))

-- the surface of a part that starts at `at`
pub surface_part : (n at : ℕ) (s : List ℕ) → surface_bytes ≤ n → at + n ≤ length s → surface_file (take n (drop at s)) ≡ surface_at s at
unfolding surface_file
surface_part n at s few room =
    let size = length-take-le n (drop at s) (omega (arith, length-drop at s)) in
    rw (le-ltb (length (take n (drop at s))) surface_bytes (omega arith))
    (surface_same s (take n (drop at s)) at (λ k h. get_or-take n (drop at s) k 0 (omega arith) ∙ get_or-drop at s k 0))
