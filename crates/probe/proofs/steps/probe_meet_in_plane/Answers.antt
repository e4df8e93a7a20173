use mathlib.Core.Path.{◌≡◌}
use Rattle.probe.specs.Call.{point_from, vector_from}
use Rattle.probe.specs.Steps.{probe_meet_in_plane}
use Rattle.probe.proofs.Read.{point_of_three, vector_of_three}
use Rattle.probe.proofs.steps.probe_meet_in_plane.Goals as goal

pub returns : goal.returns
unfolding probe_meet_in_plane
returns c =
    let s = c.args.input.now in
    let origin : c.from-origin.result ≡ point_from s 48 = rw (c.from-origin.ensures, c.numbers.ensures) (point_of_three s 48) in
    let normal : c.from-normal.result ≡ vector_from s 51 = rw (c.from-normal.ensures, c.numbers-2.ensures) (vector_of_three s 51) in
    rw (← c.read-c.ensures, ← origin, ← normal, ← c.meet_in_plane.ensures.answer) c.put_met.ensures
