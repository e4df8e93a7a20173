-- The loop's invariant: the trials left give what all of them give.
use mathlib.Core.Path.{◌≡◌}
use Rattle.meeting.specs.Newton.{trials_from, trials_of}
use Rattle.meeting.proofs.newton.trials.Given as goal

abbrev pub invariant-loop : goal.invariant-loop
invariant-loop l = trials_from l.a l.b l.target l.s l.d l.counter l.scale ≡ trials_of l.a l.b l.target l.s l.d
