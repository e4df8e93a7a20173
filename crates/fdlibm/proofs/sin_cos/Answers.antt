-- Both come from one call.
use Rattle.fdlibm.proofs.sin_cos.Goals as goal

pub returns : goal.returns
returns c = (c.both-at.ensures.0, c.both-at.ensures.1)
