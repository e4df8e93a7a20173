use mathlib.Core.List.{append_assoc}
use Rattle.answer.specs.Line.{refused_line}
use Rattle.answer.proofs.line.refused_line.Goals as goal

pub returns : goal.returns
unfolding refused_line
returns c =
    rw (c.push_str-2.ensures.bytes, c.push_number.ensures.text, c.push_str.ensures.bytes, c.new-refusal.ensures) (simp append_assoc)
