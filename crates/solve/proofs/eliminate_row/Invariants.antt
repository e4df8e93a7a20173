-- Each iteration takes a multiple of the pivot's entry off.
use mathlib.Core.Path.{◌≡◌}
use Rattle.loops.specs.Loop.{ranged}
use Rattle.solve.specs.Solve.{entry_reduced, row_eliminated}
use Rattle.solve.proofs.eliminate_row.Given as goal

abbrev pub invariant-loop-k : goal.invariant-loop-k
invariant-loop-k g l = ranged (entry_reduced l.fn.pivot l.factor) l.k g.row.N l.row ≡ row_eliminated g.row.N l.fn.row l.fn.pivot l.factor l.col
