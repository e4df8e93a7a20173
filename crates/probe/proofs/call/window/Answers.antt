use Rattle.std.proofs.Common.{◌≡◌, ◌+◌}
use native.Mathlib.Omega.{arith}
use Rattle.probe.specs.Call.{window_from}
use Rattle.probe.proofs.call.window.Goals as goal

pub returns : goal.returns
unfolding window_from
returns c =
    let third : c.args.at + 1 + 1 ≡ c.args.at + 2 = omega arith in
    rw (c.numbers.ensures, third)
