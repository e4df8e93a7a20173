-- The loop's invariant: the halvings left give what all of them give.
use mathlib.Core.Path.{◌≡◌}
use Rattle.step.specs.Shorten.{halvings, most_halvings, stride_of}
use Rattle.step.proofs.shorten.shorten.Given as goal

abbrev pub invariant-loop : goal.invariant-loop
invariant-loop l = halvings l.a l.b l.tol l.dir l.w l.counter most_halvings l.h ≡ stride_of l.a l.b l.tol l.dir l.w l.initial.h
