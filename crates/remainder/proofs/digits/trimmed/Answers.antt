use mathlib.Core.Path.{refl}
use mir.Syntax.{w32}
use Rattle.std.proofs.lemmas.Int.{to_z-of_z}
use Rattle.remainder.specs.Kernel.{trimmed_of}
use Rattle.remainder.proofs.digits.trimmed.Goals as goal

pub returns : goal.returns
unfolding trimmed_of
returns c = rw (c.floor.ensures, c.scalbn-scaled.ensures, to_z-of_z w32 _ c.ranges.q0) refl
