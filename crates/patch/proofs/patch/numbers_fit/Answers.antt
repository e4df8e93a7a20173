use Rattle.std.proofs.Common.{inl, inr}
use Rattle.loops.proofs.Choice.{and_taken, and_left}
use Rattle.patch.specs.Patch.{numbers_fit, one_fits, both_fit}
use Rattle.patch.proofs.patch.numbers_fit.Goals as goal

pub returns-in-Plane : goal.returns-in-Plane
unfolding numbers_fit
returns-in-Plane c = rw c.in-Plane.is c.frame_fit.ensures

pub returns-then-frame_fit-2 : goal.returns-then-frame_fit-2
unfolding numbers_fit one_fits
returns-then-frame_fit-2 c =
    let fits = and_taken c.frame_fit-in-Cylinder.ensures c.if-frame_fit-2.true c.number_fit-then-frame_fit-2.ensures in
    elim c.in-Cylinder.is [
      | inl e ↦ rw e fits
      | inr e ↦ rw e fits
    ]

pub returns-else-frame_fit-2 : goal.returns-else-frame_fit-2
unfolding numbers_fit one_fits
returns-else-frame_fit-2 c = elim c.in-Cylinder.is [
  | inl e ↦ rw e (and_left _ c.frame_fit-in-Cylinder.ensures c.if-frame_fit-2.false)
  | inr e ↦ rw e (and_left _ c.frame_fit-in-Cylinder.ensures c.if-frame_fit-2.false)
]

pub returns-then-number_fit : goal.returns-then-number_fit
unfolding numbers_fit both_fit
returns-then-number_fit c =
    let fits = and_taken c.frame_fit-in-Cone.ensures c.if-frame_fit.true (and_taken c.number_fit.ensures c.if-number_fit.true c.number_fit-then-number_fit.ensures) in
    elim c.in-Cone.is [
      | inl e ↦ rw e fits
      | inr e ↦ rw e fits
    ]

pub returns-else-number_fit : goal.returns-else-number_fit
unfolding numbers_fit both_fit
returns-else-number_fit c = elim c.in-Cone.is [
  | inl e ↦ rw e (and_taken c.frame_fit-in-Cone.ensures c.if-frame_fit.true (and_left _ c.number_fit.ensures c.if-number_fit.false))
  | inr e ↦ rw e (and_taken c.frame_fit-in-Cone.ensures c.if-frame_fit.true (and_left _ c.number_fit.ensures c.if-number_fit.false))
]

pub returns-else-frame_fit : goal.returns-else-frame_fit
unfolding numbers_fit both_fit
returns-else-frame_fit c = elim c.in-Cone.is [
  | inl e ↦ rw e (and_left _ c.frame_fit-in-Cone.ensures c.if-frame_fit.false)
  | inr e ↦ rw e (and_left _ c.frame_fit-in-Cone.ensures c.if-frame_fit.false)
]
