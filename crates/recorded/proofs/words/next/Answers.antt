-- Where the input had bytes enough, it gave them; else nothing is said.
use Rattle.recorded.proofs.words.next.Goals as goal

pub returns-in-Ok : goal.returns-in-Ok
returns-in-Ok g c = c.in-Ok.ensures.bytes

pub returns-in-Err : goal.returns-in-Err
returns-in-Err g c = tt
