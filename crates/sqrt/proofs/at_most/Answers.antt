-- `far` and `near` of `AtMost`, or the root itself.
use Rattle.std.proofs.Common.{sym}
use denote.Floats.{passes}
use Rattle.sqrt.proofs.AtMost.{far, near}
use Rattle.sqrt.proofs.at_most.Goals as goal

pub returns-then-square-x : goal.returns-then-square-x
returns-then-square-x c = sym (far c.args.x c.args.c (passes _ c.well_formed.0.1) (passes _ c.well_formed.1.0.1) (passes _ c.if-c.true) (passes _ c.if-square-x.true))

pub returns-then-x-square : goal.returns-then-x-square
returns-then-x-square c =
    sym (near c.args.x c.args.c (passes _ c.well_formed.0.1) (passes _ c.well_formed.1.0.1) (passes _ c.if-c.true)
    (passes _ c.if-x.true) (passes _ c.if-square.true) (passes _ c.if-x-square.true))
