use mathlib.Core.Path.{sym, ◌∙◌}
use Rattle.geometry.proofs.Scaled.{times_scale}
use Rattle.geometry.proofs.vector.F64MulVector3D.mul.Goals as goal

pub returns : goal.returns
returns c = c.mul.ensures ∙ sym (times_scale c.args.self c.args.vector)
