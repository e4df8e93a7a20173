-- Each iteration adds a product.
use mathlib.Core.Path.{◌≡◌}
use Prim.Native.Nat.{◌+◌}
use Rattle.loops.specs.Loop.{ranged}
use Rattle.remainder.specs.Kernel.{product_added, term_of}
use Rattle.remainder.proofs.digits.term.Given as goal

abbrev pub invariant-loop-j : goal.invariant-loop-j
invariant-loop-j l = ranged (product_added l.x l.f l.jx l.i) l.j (l.jx + 1) l.fw ≡ term_of l.x l.f l.jx l.i
