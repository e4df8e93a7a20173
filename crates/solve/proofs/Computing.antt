-- For evaluation: what has to unfold so that the solvers' definitions compute on given numbers.
use lib.Ieee as Ieee
use Rattle.loops.specs.Loop.{iterated, exits}
use Rattle.number.specs.Helpers.{abs_of, max_of}
use Rattle.solve.specs.Cramer.{solve2_of}
use Rattle.solve.specs.Solve.{solve_of}

-- an example says `unfolding computing` and `refl`
unfoldable pub computing : Unit {0}
unfolding solve2_of solve_of iterated exits abs_of max_of Ieee.is_nan Ieee.of_bits Ieee.add Ieee.sub Ieee.mul Ieee.div Ieee.lt Ieee.le
computing = tt
