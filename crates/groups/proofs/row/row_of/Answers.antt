use mathlib.Core.Path.{ap, ◌∙◌}
use mathlib.Core.List.{List}
use Prim.Native.Nat.{◌/◌}
use lib.Ieee.{Float}
use lib.ListN.{length}
use borrow.Author.Tests.{le-ltb}
use Rattle.groups.specs.Groups.{width}
use Rattle.groups.specs.Row.{row_from, row_of}
use Rattle.groups.proofs.Rows.{length_groups, row_listed}
use Rattle.groups.proofs.row.row_of.Goals as goal

pub returns-in-Some : goal.returns-in-Some
returns-in-Some c =
    let l = c.args.points.now in
    let n = length l / width in
    let h = rw (c.rows.ensures, length_groups width n l) at c.in-Some.ensures.lookup.3.0 in
    let e = rw c.rows.ensures at c.in-Some.ensures.lookup.1 in
    c.from.ensures ∙ ap (λ (m : List Float). row_from m 0) e ∙ row_listed l c.args.i _ h

pub returns-in-None : goal.returns-in-None
unfolding row_of
returns-in-None c =
    let l = c.args.points.now in
    let h = rw (c.rows.ensures, length_groups width (length l / width) l) at c.in-None.ensures.lookup.3 in
    rw (le-ltb c.args.i (length l / width) h)
