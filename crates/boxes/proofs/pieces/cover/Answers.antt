use Rattle.boxes.specs.Bounds.{cover_of}
use Rattle.boxes.proofs.pieces.cover.Goals as goal

pub returns : goal.returns
unfolding cover_of
returns c = rw (c.new-2.ensures, c.max-3.ensures, c.max-2.ensures, c.max.ensures, c.new.ensures, c.min-3.ensures, c.min-2.ensures, c.min.ensures)
