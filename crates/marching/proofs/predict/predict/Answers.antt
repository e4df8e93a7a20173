use Rattle.marching.specs.Predict.{shift_of, predict_of}
use Rattle.marching.proofs.predict.predict.Goals as goal

pub returns : goal.returns
unfolding predict_of shift_of
returns c = rw (c.shift-2.ensures, c.eval_d1-2.ensures, c.shift.ensures, c.eval_d1.ensures)
