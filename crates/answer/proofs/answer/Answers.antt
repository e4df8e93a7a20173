use mathlib.Core.Path.{◌≡◌, ap}
use mathlib.Core.List.{List}
use Prim.Native.Nat.{ℕ}
use lib.ListN.{length}
use Rattle.loops.specs.Over.{written}
use Rattle.answer.specs.Answer.{job_answer}
use Rattle.answer.proofs.Told.{line_tells}
use Rattle.answer.proofs.answer.Goals as goal

pub returns : goal.returns
unfolding job_answer written
returns c =
    let e : c.as_bytes-bytes.result.now ≡ job_answer c.args.input.now = rw (c.as_bytes-bytes.ensures.value, c.as_str.ensures.value, c.line_of-text.ensures, c.answer_of.ensures) in
    record { answer = ap length e; line = rw (c.copy_from_slice.ensures.after, e); passes = line_tells _ }
