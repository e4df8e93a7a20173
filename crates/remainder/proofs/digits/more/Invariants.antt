-- Each iteration sets a digit and a term.
use mathlib.Core.Path.{◌≡◌}
use Prim.Native.Nat.{◌+◌}
use Rattle.loops.specs.Loop.{ranged}
use Rattle.remainder.specs.Kernel.{term_more, more_of, terms}
use Rattle.remainder.proofs.digits.more.Given as goal

abbrev pub invariant-loop-i : goal.invariant-loop-i
invariant-loop-i l =
    ranged (term_more l.x l.jx l.jv) l.i (l.jz + l.k + 1) (terms l.f l.q l.jz) ≡ more_of l.x l.jx l.jv l.k (terms l.initial.f l.initial.q l.jz)
