use mathlib.Core.Path.{◌∙◌}
use Rattle.geometry.specs.Tolerance.{default_tolerance}
use Rattle.example_nine.proofs.nine.Goals as goal

pub returns : goal.returns
unfolding default_tolerance
returns c = c.trace.ensures ∙ rw (c.square_plane-a.ensures, c.unit_frame.ensures, c.square_plane-b.ensures, c.moved_frame.ensures)
