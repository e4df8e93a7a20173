use mathlib.Core.Path.{◌∙◌}
use Rattle.probe.proofs.Rows.{numbers_taken}
use Rattle.probe.proofs.numbers.Goals as goal

pub returns : goal.returns
returns g c = c.copy_from_slice.ensures.after ∙ numbers_taken g.row.N c.args.at c.args.input.now c.requires
