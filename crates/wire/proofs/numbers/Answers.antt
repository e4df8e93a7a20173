use mathlib.Core.Path.{ap, ◌∙◌}
use lib.Ieee.{binary64, of_bits}
use Rattle.std.proofs.lemmas.List.{length-replicate}
use Rattle.wire.specs.Wire.{numbers_from}
use Rattle.wire.proofs.numbers.Goals as goal

pub returns : goal.returns
returns g c = c.fill.ensures ∙ ap (numbers_from c.args.bytes.now c.args.at) (length-replicate g.row.N (of_bits binary64 0))
