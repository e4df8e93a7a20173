use Rattle.example_nine.proofs.moved_frame.Goals as goal

pub returns : goal.returns
returns c = rw (c.new-3.ensures, c.new-2.ensures, c.new.ensures, c.add.ensures, c.new-origin.ensures)
