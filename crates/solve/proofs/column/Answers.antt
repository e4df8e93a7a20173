-- A column is one of the definition, which goes on or gives up.
use mathlib.Core.Path.{refl, sym}
use Rattle.solve.proofs.Laws.{goes_on, leaves, past_last}
use Rattle.solve.proofs.column.Goals as goal

pub returns-then-col : goal.returns-then-col
returns-then-col g c = past_last g.row.N c.args.tol c.args.scale c.args.col _ c.if-col.true

pub returns-then-gives_up : goal.returns-then-gives_up
returns-then-gives_up g c =
    sym (leaves g.row.N c.args.tol c.args.scale c.args.col c.args.m c.args.b.now c.if-col.false refl c.pivot-pivot.ensures.is c.swap_in.ensures c.swap_in-2.ensures c.gives_up.ensures c.if-gives_up.true)

pub returns : goal.returns
returns g c =
    sym (goes_on g.row.N c.args.tol c.args.scale c.args.col c.args.m c.args.b.now c.if-col.false refl c.pivot-pivot.ensures.is c.swap_in.ensures c.swap_in-2.ensures c.gives_up.ensures c.if-gives_up.false c.eliminate.ensures)
