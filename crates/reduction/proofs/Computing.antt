-- `computing` opens all that a closed term of the reduction needs.
use Rattle.number.specs.Helpers.{abs_of}
use Rattle.remainder.proofs.Computing as remainder
use Rattle.reduction.specs.Reduction.{rem_pio2, taken_of, above_of, below_of, first_difference, next_difference, careful_of, refined_of, medium_of, negated_of}

unfoldable pub computing : Unit {0}
unfolding remainder.computing abs_of rem_pio2 taken_of above_of below_of first_difference next_difference careful_of refined_of medium_of negated_of
computing = tt
