use Rattle.std.proofs.Common.{◌≡◌, sym}
use native.Mathlib.Omega.{arith}
use borrow.Author.Tests.{ne_eqb, lt-ltb, le-ltb}
use Rattle.job.proofs.Parts.{number_at_most, surface_by_number}
use Rattle.probe.specs.Surface.{asked_surface, probe_surface}
use Rattle.probe.proofs.surface.probe_surface.Goals as goal
use Rattle.probe.proofs.surface.probe_surface.Goals.{After-surface-s}

asked : (c : After-surface-s) → c.surface-s.result ≡ asked_surface c.args.kind c.args.numbers.now
unfolding asked_surface
asked c = rw (c.surface-s.ensures, c.frame.ensures, ← c.in-Ok.ensures) (sym (surface_by_number c.in-Ok.kind _ _ _))

pub returns-in_default : goal.returns-in_default
unfolding probe_surface
returns-in_default c = rw (lt-ltb 4 c.args.kind c.in_default.ensures)

pub returns-then-numbers-lt14 : goal.returns-then-numbers-lt14
unfolding probe_surface
returns-then-numbers-lt14 c = rw (← c.in-Ok.ensures, le-ltb 4 _ (number_at_most c.in-Ok.kind), lt-ltb _ 14 c.if-numbers-lt14.true)

pub returns-in-0 : goal.returns-in-0
unfolding probe_surface
returns-in-0 c =
    let a = asked (goal.at.returns-in-0 c).After-surface-s in
    rw (c.probe_point.ensures, a, c.in-0.is, ← c.in-Ok.ensures, le-ltb 4 _ (number_at_most c.in-Ok.kind), le-ltb _ 14 c.if-numbers-lt14.false)

pub returns-in-1 : goal.returns-in-1
unfolding probe_surface
returns-in-1 c =
    let a = asked (goal.at.returns-in-1 c).After-surface-s in
    rw (c.probe_derivatives.ensures, a, c.in-1.is, ← c.in-Ok.ensures, le-ltb 4 _ (number_at_most c.in-Ok.kind), le-ltb _ 14 c.if-numbers-lt14.false)

pub returns-in_default-what : goal.returns-in_default-what
unfolding probe_surface
returns-in_default-what c =
    let no_point : (c.args.what ≡ 0 → ⊥) = λ e. omega arith in
    let no_derivatives : (c.args.what ≡ 1 → ⊥) = λ e. omega arith in
    rw (← c.in-Ok.ensures, le-ltb 4 _ (number_at_most c.in-Ok.kind), le-ltb _ 14 c.if-numbers-lt14.false)
    (rw (ne_eqb c.args.what 0 no_point, ne_eqb c.args.what 1 no_derivatives))
