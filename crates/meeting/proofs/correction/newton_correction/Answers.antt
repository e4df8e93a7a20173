use Rattle.meeting.specs.Correction.{correction_of}
use Rattle.meeting.proofs.correction.newton_correction.Goals as goal

pub returns-in-Free : goal.returns-in-Free
unfolding correction_of
returns-in-Free c = rw (c.free_correction.ensures, c.columns-c.ensures, c.in-Free.is)

pub returns-in-Plane : goal.returns-in-Plane
unfolding correction_of
returns-in-Plane c = rw (c.plane_correction.ensures, c.columns-c.ensures, c.in-Plane.is)

pub returns-in-Pin : goal.returns-in-Pin
unfolding correction_of
returns-in-Pin c = rw (c.pin_correction.ensures, c.columns-c.ensures, c.in-Pin.is)
