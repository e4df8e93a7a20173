use mathlib.Core.Path.{ap, ◌∙◌}
use Rattle.std.specs.Prelude.{Some}
use Rattle.solve.proofs.GivesUp.{at_determinant}
use Rattle.solve.proofs.cramer.solve_2x2.Goals as goal

pub returns-then-gives_up : goal.returns-then-gives_up
returns-then-gives_up c = at_determinant _ _ _ c.determinant-det.ensures c.scale2.ensures c.gives_up.ensures c.if-gives_up.true

pub returns : goal.returns
returns c = ap Some c.cramer.ensures ∙ at_determinant _ _ _ c.determinant-det.ensures c.scale2.ensures c.gives_up.ensures c.if-gives_up.false
