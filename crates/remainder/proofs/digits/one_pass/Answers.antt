use mathlib.Core.Path.{refl, ◌∙◌}
use mir.Syntax.{w32}
use Rattle.std.proofs.lemmas.Int.{to_z-of_z}
use Rattle.remainder.specs.Kernel.{pass_of}
use Rattle.remainder.proofs.digits.one_pass.Goals as goal

pub returns : goal.returns
unfolding pass_of
returns c =
    let fit = to_z-of_z w32 _ c.ranges.q0 in
    c.turned.ensures ∙ rw (c.cut-at.ensures.is, fit, c.int-n.ensures.is, c.trimmed-whole.ensures, fit, ← c.distill-rest.ensures) refl
