-- What a job file says, and when it is refused by 19. Definitions only.
use Rattle.std.specs.Prelude.{Bool, true, ◌&&◌, ◌||◌, List, ℕ, ◌+◌, eqb, ltb, length, Float, Result, Ok, Err}
use Rattle.loops.specs.Loop.{pick}
use Rattle.number.specs.Operators.{bits}
use Rattle.wire.specs.Wire.{byte_at, uint_at, number_at}
use Rattle.refusal.specs.declared.Refusal.{Refusal}
use Rattle.refusal.specs.declared.Refusal.TheVariants.{JobFile}
use Rattle.geometry.specs.declared.point.Point3D.{Point3D}
use Rattle.geometry.specs.declared.vector.Vector3D.{Vector3D}
use Rattle.geometry.specs.declared.frame.Frame3D.{Frame3D}
use Rattle.analytic.specs.declared.surface.Surface.{Surface}
use Rattle.analytic.specs.declared.surface.Surface.TheVariants.{Plane, Cylinder, Cone, Sphere, Torus}
use Rattle.patch.specs.declared.patch.Window.{Window}
use Rattle.patch.specs.declared.patch.Patch.{Patch}
use Rattle.patch.specs.declared.patch.Parameters.{Parameters}
use Rattle.job.specs.declared.file.Job.{Job}
use Rattle.job.specs.Layout.{marks_place, both_marks, frame_place, first_size_place, second_size_place, u_window_place, v_window_place, surface_bytes}
use Rattle.job.specs.Layout.{version_place, surface_a_place, surface_b_place, confusion_place, angular_place, guess_place, cap_place, job_bytes, following}

-- ---- "12 frame numbers (origin, x, y, z direction)"

-- the origin: three numbers
unfoldable pub origin_at : List ℕ → ℕ → Point3D
origin_at s at = record { x = number_at s at; y = number_at s (at + 8); z = number_at s (at + 16) }

-- a direction: three numbers
unfoldable pub direction_at : List ℕ → ℕ → Vector3D
direction_at s at = record { x = number_at s at; y = number_at s (at + 8); z = number_at s (at + 16) }

-- the frame: "origin, x, y, z direction"
unfoldable pub frame_at : List ℕ → ℕ → Frame3D
frame_at s at = record { origin = origin_at s at; x = direction_at s (at + 24); y = direction_at s (at + 48); z = direction_at s (at + 72) }

-- ---- "a kind byte (0 plane, 1 cylinder, 2 cone, 3 sphere, 4 torus)"; "two sizes (the cone's are radius, semi-angle; the torus's major, minor)"; "Used sizes come first"
unfoldable pub surface_of : ℕ → Frame3D → Float → Float → Surface
surface_of kind f first second =
    pick (eqb kind 0) (Plane f)
    (pick (eqb kind 1) (Cylinder f first)
    (pick (eqb kind 2) (Cone f first second)
    (pick (eqb kind 3) (Sphere f first)
    (Torus f first second))))

-- "a mark byte (1 for u, 2 for v, added)"
unfoldable pub marked : ℕ → ℕ → Bool
marked marks mark = eqb marks mark || eqb marks both_marks

-- "window low and high"
unfoldable pub window_at : List ℕ → ℕ → Bool → Window
window_at s at turn = record { low = number_at s at; high = number_at s (at + 8); turn = turn }

-- the surface with its windows and turn marks
unfoldable pub patch_at : List ℕ → ℕ → ℕ → ℕ → Patch
patch_at s at kind marks =
    record {
      surface = surface_of kind (frame_at s (at + frame_place)) (number_at s (at + first_size_place)) (number_at s (at + second_size_place));
      u = window_at s (at + u_window_place) (marked marks 1);
      v = window_at s (at + v_window_place) (marked marks 2);
    }

-- ---- 19 of a surface: "kind above 4, mark above 3, an unused size with any bit set"

-- the bits of the sizes that a kind does not use are all clear
unfoldable pub unused_clear : ℕ → ℕ → ℕ → Bool
unused_clear kind first second =
    pick (eqb kind 0) (eqb first 0 && eqb second 0)
    (pick (eqb kind 1) (eqb second 0)
    (pick (eqb kind 3) (eqb second 0) true))

-- a surface read from its bytes, or 19
abbrev pub SurfaceRead : Type 0
SurfaceRead = Result Patch Refusal

-- a job read from its file, or 19
abbrev pub JobRead : Type 0
JobRead = Result Job Refusal

-- the surface that stands from byte `at` on, or 19
unfoldable pub surface_at : List ℕ → ℕ → SurfaceRead
surface_at s at =
    pick (ltb 4 (byte_at s at)) (Err JobFile)
    (pick (ltb both_marks (byte_at s (at + marks_place))) (Err JobFile)
    (pick (unused_clear (byte_at s at) (uint_at 8 s (at + first_size_place)) (uint_at 8 s (at + second_size_place)))
    (Ok (patch_at s at (byte_at s at) (byte_at s (at + marks_place))))
    (Err JobFile)))

-- a surface alone: fewer than 146 bytes answer 19, bytes behind them are not read
unfoldable pub surface_file : List ℕ → SurfaceRead
surface_file s = pick (ltb (length s) surface_bytes) (Err JobFile) (surface_at s 0)

-- ---- the file

-- "four guess numbers"
unfoldable pub guess_at : List ℕ → ℕ → Parameters
guess_at s at = record { u1 = number_at s at; v1 = number_at s (at + 8); u2 = number_at s (at + 16); v2 = number_at s (at + 24) }

-- "The parametric tolerance isn't read": it is 0
unfoldable pub job_at : List ℕ → Patch → Patch → Job
job_at s a b =
    record {
      a = a;
      b = b;
      tol = record { confusion = number_at s confusion_place; angular = number_at s angular_place; parametric = bits 0 };
      guess = guess_at s guess_place;
      cap = uint_at 2 s cap_place;
    }

-- with surface A read: surface B, then the rest
abbrev pub with_b : List ℕ → Patch → SurfaceRead → JobRead
with_b s a (Ok b) = Ok (job_at s a b)
with_b s a (Err r) = Err JobFile

-- surface A, then surface B
abbrev pub with_a : List ℕ → SurfaceRead → JobRead
with_a s (Ok a) = with_b s a (surface_at s surface_b_place)
with_a s (Err r) = Err JobFile

-- "19, tested before all else: not 347 bytes, length field not 343, version not 1", then the surfaces'
unfoldable pub job_of : List ℕ → JobRead
job_of s =
    pick (eqb (length s) job_bytes)
    (pick (eqb (uint_at 4 s 0) following)
    (pick (eqb (byte_at s version_place) 1) (with_a s (surface_at s surface_a_place)) (Err JobFile))
    (Err JobFile))
    (Err JobFile)
