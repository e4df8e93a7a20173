use Rattle.std.proofs.Common.{◌≡◌, rules}
use Rattle.std.specs.Prelude.{option_map}
use Rattle.marching.specs.Leaving.{exit_of, leaving_of}
use Rattle.marching.proofs.leaving.leaving.Goals as goal

pub returns : goal.returns
unfolding leaving_of
returns c =
    let e : c.map.result ≡ option_map exit_of c.first_exit.result = search rules in
    rw (e, c.first_exit.ensures)
