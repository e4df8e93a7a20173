-- `computing` opens all that a closed term of the reduction of a large angle needs.
use lib.Ieee.{add, sub, mul, neg, of_bits, to_bits, of_int, to_unsigned, le, eq}
use Rattle.loops.specs.Loop.{iterated, exits}
use Rattle.remainder.specs.Kernel.{digit_of, term_of, distill_of, trimmed_of, opposite_of, carried_of, complement_of, flipped_of, turned_of, pass_of}
use Rattle.remainder.specs.Kernel.{joined_of, needed_of, more_of, chop_of, break_of, values_of, part_of, parts_of, down_of, up_of}
use Rattle.remainder.specs.Kernel.{compressed_of, chopped_of, finish_of, kernel_of}
use Rattle.remainder.specs.Large.{scaled_of, pieces_of, jx_of, large_of}

unfoldable pub computing : Unit {0}
unfolding add sub mul neg of_bits to_bits of_int to_unsigned le eq iterated exits digit_of term_of distill_of trimmed_of opposite_of carried_of complement_of
    flipped_of turned_of pass_of joined_of needed_of more_of chop_of break_of values_of part_of parts_of down_of up_of compressed_of chopped_of finish_of
    kernel_of scaled_of pieces_of jx_of large_of
computing = tt
