use mathlib.Core.Path.{◌≡◌}
use Rattle.job.specs.File.{origin_at, direction_at, frame_at}
use Rattle.job.proofs.Parts.{origin_of_three, direction_of_three}
use Rattle.job.proofs.file.frame.Goals as goal

pub returns : goal.returns
unfolding frame_at
returns c =
    let s = c.args.bytes.now in
    let origin : c.from-origin.result ≡ origin_at s 2 = rw (c.from-origin.ensures, c.numbers.ensures) (origin_of_three s 2) in
    let x : c.from-x.result ≡ direction_at s 26 = rw (c.from-x.ensures, c.numbers-2.ensures) (direction_of_three s 26) in
    let y : c.from-y.result ≡ direction_at s 50 = rw (c.from-y.ensures, c.numbers-3.ensures) (direction_of_three s 50) in
    let z : c.from-z.result ≡ direction_at s 74 = rw (c.from-z.ensures, c.numbers-4.ensures) (direction_of_three s 74) in
    rw (origin, x, y, z)
