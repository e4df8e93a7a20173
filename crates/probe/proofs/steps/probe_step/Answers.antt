use Rattle.std.proofs.Common.{◌≡◌, ℕ, ◌<◌}
use native.Mathlib.Omega.{arith}
use borrow.Author.Tests.{ne_eqb, lt-ltb, le-ltb}
use Rattle.std.proofs.lemmas.List.{take-append-drop}
use Rattle.probe.specs.Steps.{probe_step}
use Rattle.probe.proofs.Beside.{tangent_whole, predict_whole, leaving_whole, meet_whole, meet_in_plane_whole, land_whole}
use Rattle.probe.proofs.steps.probe_step.Goals as goal

pub returns-in_default : goal.returns-in_default
unfolding probe_step
returns-in_default c = rw (lt-ltb _ 54 c.in_default.ensures.cases)

pub returns-in_default-first_chunk_mut : goal.returns-in_default-first_chunk_mut
unfolding probe_step
returns-in_default-first_chunk_mut c = rw (le-ltb _ 54 c.in-Some.ensures.cases.enough, lt-ltb _ 4 c.in_default-first_chunk_mut.ensures.cases)

pub returns-in-0 : goal.returns-in-0
unfolding probe_step
returns-in-0 c =
    let input = c.in-Some.ensures.cases in
    let output = c.in-Some-first_chunk_mut.ensures.cases in
    rw (le-ltb _ 54 input.enough, le-ltb _ 4 output.enough, c.in-0.is)
    (tangent_whole c.args.input.now c.args.output.now output.enough (rw (input.same, output.same) at c.probe_tangent.ensures))

pub returns-in-1 : goal.returns-in-1
unfolding probe_step
returns-in-1 c =
    let input = c.in-Some.ensures.cases in
    let output = c.in-Some-first_chunk_mut.ensures.cases in
    rw (le-ltb _ 54 input.enough, le-ltb _ 4 output.enough, c.in-1.is)
    (predict_whole c.args.input.now c.args.output.now output.enough (rw (input.same, output.same) at c.probe_predict.ensures))

pub returns-in-2 : goal.returns-in-2
unfolding probe_step
returns-in-2 c =
    let input = c.in-Some.ensures.cases in
    let output = c.in-Some-first_chunk_mut.ensures.cases in
    rw (le-ltb _ 54 input.enough, le-ltb _ 4 output.enough, c.in-2.is)
    (leaving_whole c.args.input.now c.args.output.now output.enough (rw (input.same, output.same) at c.probe_leaving.ensures))

pub returns-in-3 : goal.returns-in-3
unfolding probe_step
returns-in-3 c =
    let input = c.in-Some.ensures.cases in
    let output = c.in-Some-first_chunk_mut.ensures.cases in
    rw (le-ltb _ 54 input.enough, le-ltb _ 4 output.enough, c.in-3.is)
    (meet_whole c.args.input.now c.args.output.now output.enough (rw (input.same, output.same) at c.probe_meet.ensures))

pub returns-in-4 : goal.returns-in-4
unfolding probe_step
returns-in-4 c =
    let input = c.in-Some.ensures.cases in
    let output = c.in-Some-first_chunk_mut.ensures.cases in
    rw (le-ltb _ 54 input.enough, le-ltb _ 4 output.enough, c.in-4.is)
    (meet_in_plane_whole c.args.input.now c.args.output.now output.enough (rw (input.same, output.same) at c.probe_meet_in_plane.ensures))

pub returns-in-5 : goal.returns-in-5
unfolding probe_step
returns-in-5 c =
    let input = c.in-Some.ensures.cases in
    let output = c.in-Some-first_chunk_mut.ensures.cases in
    rw (le-ltb _ 54 input.enough, le-ltb _ 4 output.enough, c.in-5.is)
    (land_whole c.args.input.now c.args.output.now output.enough c.args.pin (rw (input.same, output.same) at c.probe_land.ensures))

pub returns-in_default-what : goal.returns-in_default-what
unfolding probe_step
returns-in_default-what c =
    let input = c.in-Some.ensures.cases in
    let output = c.in-Some-first_chunk_mut.ensures.cases in
    let other : (k : ℕ) → k < 6 → (c.args.what ≡ k → ⊥) = λ k h e. omega (arith, c.in_default-what) in
    rw (le-ltb _ 54 input.enough, le-ltb _ 4 output.enough)
    (rw (ne_eqb c.args.what 0 (other 0 (omega arith)), ne_eqb c.args.what 1 (other 1 (omega arith)), ne_eqb c.args.what 2 (other 2 (omega arith)))
    (rw (ne_eqb c.args.what 3 (other 3 (omega arith)), ne_eqb c.args.what 4 (other 4 (omega arith)), ne_eqb c.args.what 5 (other 5 (omega arith)))
    (rw (output.same, take-append-drop 4 c.args.output.now))))
