-- The point's word and what it writes. Definitions only.
use Rattle.std.specs.Prelude.{List, ℕ, ltb, length, set, Float, Ok, Err}
use Rattle.loops.specs.Loop.{pick}
use Rattle.refusal.specs.Refusal.{number_of}
use Rattle.refusal.specs.declared.Refusal.TheVariants.{Lent}
use Rattle.patch.specs.declared.patch.Patch.{Patch}
use Rattle.patch.specs.Located.{Located}
use Rattle.patch.specs.Located.{refusal_of, located_of}
use Rattle.job.specs.File.{SurfaceRead}
use Rattle.job.specs.File.{surface_file}
use Rattle.capi.specs.Answer.{Answer, answered}

-- x, y and z at the front
unfoldable pub put3 : List Float → Float → Float → Float → List Float
put3 t x y z = set (set (set t 0 x) 1 y) 2 z

-- a point's coordinates at the front; a refusal writes nothing
abbrev pub located3 : Located → List Float → List Float
located3 (Err r) t = t
located3 (Ok p) t = put3 t p.x p.y p.z

-- the refusal's number, 0 if none (include/geomcore.h)
abbrev pub located_answer : Located → List Float → Answer
located_answer l t = answered (refusal_of l) (located3 l t)

-- fewer than 3 numbers lent answer 8
unfoldable pub point_on : Patch → Float → Float → List Float → Answer
point_on p u v t = pick (ltb (length t) 3) (answered (number_of Lent) t) (located_answer (located_of p u v) t)

-- 19, or the point of the surface that was read
abbrev pub point_after_reading : SurfaceRead → Float → Float → List Float → Answer
point_after_reading (Err r) u v t = answered (number_of r) t
point_after_reading (Ok p) u v t = point_on p u v t

-- by the surface's 146 bytes of the job file
unfoldable pub point_answer : List ℕ → Float → Float → List Float → Answer
point_answer bytes u v t = point_after_reading (surface_file bytes) u v t
