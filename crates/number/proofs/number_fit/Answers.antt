-- That of the comparison with 2^20.
use Rattle.number.specs.Helpers.{number_fit}
use Rattle.number.proofs.number_fit.Goals as goal

pub returns : goal.returns
unfolding number_fit
returns c = rw c.magnitude_at_most.ensures
