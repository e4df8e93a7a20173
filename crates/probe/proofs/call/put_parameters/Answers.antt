use Rattle.std.proofs.Common.{◌≡◌, length}
use native.Mathlib.Omega.{arith}
use Rattle.probe.proofs.Front.{four_put}
use Rattle.probe.proofs.call.put_parameters.Goals as goal

pub returns : goal.returns
returns c =
    let size : length c.args.output.now ≡ 4 = omega arith in
    four_put c.args.output.now c.args.x size
