-- What a probe reads: points and vectors by three numbers, and a call, which the input's first 54 numbers tell.
use mathlib.Core.Path.{◌≡◌}
use mathlib.Core.List.{List}
use Prim.Native.Nat.{ℕ, ◌+◌, ◌≤◌, ◌<◌}
use native.Mathlib.Omega.{arith}
use lib.Ieee.{Float, nan}
use lib.ListN.{take, get_or}
use Rattle.std.proofs.lemmas.List.{get_or-take}
use Rattle.geometry.specs.Point.{point_of_numbers}
use Rattle.geometry.specs.Vector.{vector_of_numbers}
use Rattle.probe.specs.Probe.{numbers_from}
use Rattle.probe.specs.Call.{point_from, vector_from, frame_from, window_from, patch_from, parameters_from, call_from}

pub point_of_three : (s : List Float) (at : ℕ) → point_of_numbers (numbers_from 3 at s) ≡ point_from s at
unfolding point_from
point_of_three s at =
    let e : at + 1 + 1 ≡ at + 2 = omega arith in
    rw e

pub vector_of_three : (s : List Float) (at : ℕ) → vector_of_numbers (numbers_from 3 at s) ≡ vector_from s at
unfolding vector_from
vector_of_three s at =
    let e : at + 1 + 1 ≡ at + 2 = omega arith in
    rw e

-- ---- lists that agree on the first 54 numbers

module _ (s t : List Float) (same : (k : ℕ) → k < 54 → get_or t k nan ≡ get_or s k nan) where
  point_same : (at : ℕ) → at + 3 ≤ 54 → point_from t at ≡ point_from s at
  unfolding point_from
  point_same at h = rw (same at (omega arith), same (at + 1) (omega arith), same (at + 2) (omega arith))

  vector_same : (at : ℕ) → at + 3 ≤ 54 → vector_from t at ≡ vector_from s at
  unfolding vector_from
  vector_same at h = rw (same at (omega arith), same (at + 1) (omega arith), same (at + 2) (omega arith))

  frame_same : (at : ℕ) → at + 12 ≤ 54 → frame_from t at ≡ frame_from s at
  unfolding frame_from
  frame_same at h = rw (point_same at (omega arith), vector_same (at + 3) (omega arith), vector_same (at + 6) (omega arith), vector_same (at + 9) (omega arith))

  window_same : (at : ℕ) → at + 3 ≤ 54 → window_from t at ≡ window_from s at
  unfolding window_from
  window_same at h = rw (same at (omega arith), same (at + 1) (omega arith), same (at + 2) (omega arith))

  patch_same : (at : ℕ) → at + 21 ≤ 54 → patch_from t at ≡ patch_from s at
  unfolding patch_from
  patch_same at h =
      rw (same at (omega arith), frame_same (at + 1) (omega arith), same (at + 13) (omega arith), same (at + 14) (omega arith))
      (rw (window_same (at + 15) (omega arith), window_same (at + 18) (omega arith)))

  parameters_same : (at : ℕ) → at + 4 ≤ 54 → parameters_from t at ≡ parameters_from s at
  unfolding parameters_from
  parameters_same at h = rw (same at (omega arith), same (at + 1) (omega arith), same (at + 2) (omega arith), same (at + 3) (omega arith))

  call_same : call_from t ≡ call_from s
  unfolding call_from
  call_same = rw (patch_same 0 (omega arith), patch_same 21 (omega arith), parameters_same 44 (omega arith), same 42 (omega arith), same 43 (omega arith))

-- the first 54 say what the list says
module _ (s : List Float) where
  taken : (k : ℕ) → k < 54 → get_or (take 54 s) k nan ≡ get_or s k nan
  taken k h = get_or-take 54 s k nan h

  pub call_taken : call_from (take 54 s) ≡ call_from s
  call_taken = call_same s (take 54 s) taken

  pub point_taken : (at : ℕ) → at + 3 ≤ 54 → point_from (take 54 s) at ≡ point_from s at
  point_taken = point_same s (take 54 s) taken

  pub vector_taken : (at : ℕ) → at + 3 ≤ 54 → vector_from (take 54 s) at ≡ vector_from s at
  vector_taken = vector_same s (take 54 s) taken

  pub parameters_taken : (at : ℕ) → at + 4 ≤ 54 → parameters_from (take 54 s) at ≡ parameters_from s at
  parameters_taken = parameters_same s (take 54 s) taken

  pub number_taken : (k : ℕ) → k < 54 → get_or (take 54 s) k nan ≡ get_or s k nan
  number_taken = taken
