use mathlib.Core.Path.{sym, ◌∙◌}
use mathlib.Core.Bool.{false≢true}
use denote.Floats.{passes}
use Rattle.tangent.proofs.moderate.Goals as goal

pub returns-then-x : goal.returns-then-x
returns-then-x c = λ e. (passes _ c.if-x.true, passes _ e)

pub returns-else-x : goal.returns-else-x
returns-else-x c = λ e. absurd (false≢true (sym c.if-x.false ∙ e))
