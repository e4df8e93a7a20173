use Rattle.std.proofs.Common.{◌≡◌, ◌+◌}
use native.Mathlib.Omega.{arith}
use Rattle.probe.specs.Call.{parameters_from}
use Rattle.probe.proofs.call.parameters.Goals as goal

pub returns : goal.returns
unfolding parameters_from
returns c =
    let third : c.args.at + 1 + 1 ≡ c.args.at + 2 = omega arith in
    let fourth : c.args.at + 1 + 1 + 1 ≡ c.args.at + 3 = omega arith in
    rw (c.numbers.ensures, fourth, third)
