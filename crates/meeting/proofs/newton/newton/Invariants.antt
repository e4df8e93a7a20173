-- The loop's invariant: the rounds left give what all of them give.
use mathlib.Core.Path.{◌≡◌}
use Rattle.meeting.specs.Newton.{rounds_from}
use Rattle.meeting.proofs.newton.newton.Given as goal

abbrev pub invariant-loop-i : goal.invariant-loop-i
invariant-loop-i l = rounds_from l.a l.b l.target l.confusion l.i l.s ≡ rounds_from l.a l.b l.target l.confusion 0 l.initial.s
