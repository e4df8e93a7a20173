use Rattle.std.proofs.Common.{◌≡◌, ap, length}
use borrow.Author.Tests.{le-leb, lt-leb}
use lib.ListN.{replicate, take, drop}
use Prim.Native.Nat.{◌-◌, ◌*◌}
use Rattle.number.specs.Helpers.{positive_zero}
use Rattle.groups.specs.Groups.{width, least_points}
use Rattle.groups.specs.Traced.{outcome}
use Rattle.walk.specs.Trace.{finished_of}
use Rattle.walk.proofs.Lists.{zeros_from}
use Rattle.walk.proofs.line.finish.Goals as goal

pub returns-then-found-lt-LEAST_POINTS : goal.returns-then-found-lt-LEAST_POINTS
unfolding finished_of
returns-then-found-lt-LEAST_POINTS c =
    let e : c.fill.new.self ≡ replicate (length c.args.points.now) positive_zero = c.fill.ensures.after (λ y h. h) in
    rw (lt-leb least_points c.args.found.count c.if-found-lt-LEAST_POINTS.true) (ap (outcome _) e)

pub returns : goal.returns
unfolding finished_of
returns c =
    let l = c.args.points.now in
    let a = width * c.args.found.count in
    let e : c.fill-2.new.self ≡ replicate (length (take (length l - a) (drop a l))) positive_zero = c.fill-2.ensures.after (λ y h. h) in
    rw (le-leb least_points c.args.found.count c.if-found-lt-LEAST_POINTS.false) (ap (outcome _) (zeros_from a l positive_zero c.requires e))
