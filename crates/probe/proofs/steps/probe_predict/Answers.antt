use mathlib.Core.Path.{◌≡◌}
use Rattle.probe.specs.Call.{vector_from}
use Rattle.probe.specs.Steps.{probe_predict}
use Rattle.probe.proofs.Read.{vector_of_three}
use Rattle.probe.proofs.steps.probe_predict.Goals as goal

pub returns : goal.returns
unfolding probe_predict
returns c =
    let d : c.from-d.result ≡ vector_from c.args.input.now 48 = rw (c.from-d.ensures, c.numbers.ensures) (vector_of_three c.args.input.now 48) in
    rw (← c.read-c.ensures, ← d, ← c.predict-y.ensures, ← c.put_parameters.ensures)
