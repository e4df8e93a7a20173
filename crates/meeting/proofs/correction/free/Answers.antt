use Rattle.std.proofs.Common.{rules, ◌≡◌, ℕ, ◌<◌, slice_index}
use Rattle.meeting.specs.Correction.{free_at}
use Rattle.meeting.proofs.Free.{names_others}
use Rattle.meeting.proofs.correction.free.Goals as goal

pub returns : goal.returns
returns c =
    let each : (i : ℕ) → i < 3 → slice_index c.from_fn.result i ≡ free_at c.args.pin i = λ i h. search (rules, c.from_fn.ensures.items.at i 0 h) in
    record { each = each; names = names_others c.args.pin (slice_index c.from_fn.result) each }
