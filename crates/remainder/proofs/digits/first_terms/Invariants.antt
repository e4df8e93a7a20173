-- Each iteration sets a term.
use mathlib.Core.Path.{◌≡◌}
use Rattle.loops.specs.Loop.{ranged}
use Rattle.remainder.specs.Kernel.{term_set, first_terms}
use Rattle.remainder.proofs.digits.first_terms.Given as goal

abbrev pub invariant-loop-i : goal.invariant-loop-i
invariant-loop-i l = ranged (term_set l.x l.f l.jx) l.i 5 l.q ≡ first_terms l.x l.f l.jx l.initial.q
