use mathlib.Core.Path.{◌≡◌}
use Prim.Native.Nat.{◌+◌}
use Rattle.probe.specs.Call.{point_from, vector_from, frame_from}
use Rattle.probe.proofs.Read.{point_of_three, vector_of_three}
use Rattle.probe.proofs.call.frame.Goals as goal

pub returns : goal.returns
unfolding frame_from
returns c =
    let s = c.args.input.now in
    let at = c.args.at in
    let origin : c.from-origin.result ≡ point_from s at = rw (c.from-origin.ensures, c.numbers.ensures) (point_of_three s at) in
    let x : c.from-x.result ≡ vector_from s (at + 3) = rw (c.from-x.ensures, c.numbers-2.ensures) (vector_of_three s (at + 3)) in
    let y : c.from-y.result ≡ vector_from s (at + 6) = rw (c.from-y.ensures, c.numbers-3.ensures) (vector_of_three s (at + 6)) in
    let z : c.from-z.result ≡ vector_from s (at + 9) = rw (c.from-z.ensures, c.numbers-4.ensures) (vector_of_three s (at + 9)) in
    rw (origin, x, y, z)
