use mathlib.Core.Path.{refl}
use Rattle.step.proofs.closing.chord_deviation.Goals as goal

pub returns : goal.returns
returns c = refl
