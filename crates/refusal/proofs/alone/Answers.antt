use mathlib.Core.Path.{refl}
use Rattle.refusal.proofs.alone.Goals as goal

pub returns : goal.returns
returns c = refl
