-- Bytes that are no job file, or no surface of one, are refused with 19 and nothing else.
use Rattle.std.specs.Prelude.{Result, Ok, Err}
use mathlib.Core.Path.{◌≡◌, refl, subst}
use mathlib.Core.Bool.{Bool, true, false}
use mathlib.Core.List.{List}
use Prim.Native.Nat.{ℕ, ◌+◌}
use lib.Dec.{eqb, ltb}
use lib.ListN.{length}
use Rattle.loops.specs.Loop.{pick}
use Rattle.wire.specs.Wire.{byte_at, uint_at}
use Rattle.refusal.specs.declared.Refusal.{Refusal}
use Rattle.refusal.specs.declared.Refusal.TheVariants.{JobFile}
use Rattle.patch.specs.declared.patch.Patch.{Patch}
use Rattle.job.specs.File.{SurfaceRead}
use Rattle.job.specs.Layout.{job_bytes, following, version_place, surface_a_place, surface_b_place}
use Rattle.job.specs.Layout.{both_marks, marks_place, first_size_place, second_size_place}
use Rattle.job.specs.File.{unused_clear, surface_at, with_a, with_b, job_of}

Nineteen : {A : Type 0} → Result A Refusal → Type 0
Nineteen (Ok x) = Unit {0}
Nineteen (Err r) = r ≡ JobFile

either : {A : Type 0} (t : Bool) (x : Result A Refusal) → Nineteen x → Nineteen (pick t x (Err JobFile))
unfolding Nineteen
either true x h = h
either false x h = refl

refused_or : {A : Type 0} (t : Bool) (x : Result A Refusal) → Nineteen x → Nineteen (pick t (Err JobFile) x)
unfolding Nineteen
refused_or true x h = refl
refused_or false x h = h

pub surface_unread : (s : List ℕ) (at : ℕ) (r : Refusal) → surface_at s at ≡ Err r → r ≡ JobFile
unfolding surface_at Nineteen
surface_unread s at r e =
    let clear = unused_clear (byte_at s at) (uint_at 8 s (at + first_size_place)) (uint_at 8 s (at + second_size_place)) in
    subst Nineteen e (refused_or (ltb 4 (byte_at s at)) _ (refused_or (ltb both_marks (byte_at s (at + marks_place))) _ (either clear _ tt)))

with_b_lem : (s : List ℕ) (a : Patch) (b : SurfaceRead) → Nineteen (with_b s a b)
unfolding Nineteen
with_b_lem s a (Ok b) = tt
with_b_lem s a (Err r) = refl

with_a_lem : (s : List ℕ) (a : SurfaceRead) → Nineteen (with_a s a)
unfolding Nineteen
with_a_lem s (Ok a) = with_b_lem s a (surface_at s surface_b_place)
with_a_lem s (Err r) = refl

pub unread : (s : List ℕ) (r : Refusal) → job_of s ≡ Err r → r ≡ JobFile
unfolding job_of Nineteen
unread s r e =
    subst Nineteen e
    (either (eqb (length s) job_bytes) _ (either (eqb (uint_at 4 s 0) following) _ (either (eqb (byte_at s version_place) 1) _ (with_a_lem s (surface_at s surface_a_place)))))
