use mathlib.Core.List.{append_assoc}
use Rattle.answer.specs.Line.{trace_line}
use Rattle.answer.proofs.line.trace_line.Goals as goal

pub returns : goal.returns
unfolding trace_line
returns c =
    rw (
      c.push_str-4.ensures.bytes,
      c.push_number-3.ensures.text,
      c.push_str-3.ensures.bytes,
      c.push_number-2.ensures.text,
      c.push_str-2.ensures.bytes,
      c.push_number.ensures.text,
      c.push_str.ensures.bytes,
      c.new-trace.ensures,
    ) (simp append_assoc)
