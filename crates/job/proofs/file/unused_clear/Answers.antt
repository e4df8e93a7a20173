use mathlib.Core.Logic.{⊎_elim}
use mathlib.Core.Path.{◌≡◌}
use borrow.Author.Tests.{eq-eqb, ne_eqb}
use Rattle.analytic.specs.declared.kind.Kind.TheVariants.{Cylinder, Cone, Sphere, Torus}
use Rattle.job.specs.File.{unused_clear}
use Rattle.job.proofs.file.unused_clear.Goals as goal

pub returns-then-first-eq0 : goal.returns-then-first-eq0
unfolding unused_clear
returns-then-first-eq0 c = rw (c.in-Plane.is, eq-eqb _ _ c.if-first-eq0.true)

pub returns-else-first-eq0 : goal.returns-else-first-eq0
unfolding unused_clear
returns-else-first-eq0 c = rw (c.in-Plane.is, ne_eqb _ _ c.if-first-eq0.false)

pub returns-in-Cylinder : goal.returns-in-Cylinder
unfolding unused_clear
returns-in-Cylinder c = ⊎_elim (λ (e : c.args.kind ≡ Cylinder). rw e) (λ (e : c.args.kind ≡ Sphere). rw e) c.in-Cylinder.is

pub returns-in-Cone : goal.returns-in-Cone
unfolding unused_clear
returns-in-Cone c = ⊎_elim (λ (e : c.args.kind ≡ Cone). rw e) (λ (e : c.args.kind ≡ Torus). rw e) c.in-Cone.is
