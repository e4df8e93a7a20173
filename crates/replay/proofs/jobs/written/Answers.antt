use Rattle.answer.proofs.Text.{line_holds, line_count}
use Rattle.replay.proofs.jobs.written.Goals as goal

-- the line's bytes are there to be lent on
pub slice_bounds-line-end : goal.slice_bounds-line-end
slice_bounds-line-end g c = let e = c.answer-count.ensures in line_holds _ _ _ _ (e.answer, e.line)

pub slice_bounds-write_all-end : goal.slice_bounds-write_all-end
slice_bounds-write_all-end g c = let e = c.answer-count.ensures in line_count _ _ _ _ (e.answer, e.line)
