-- The turn marks of a surface by their number. Definitions only.
use Rattle.std.specs.Prelude.{◌≡◌, ◌<◌, ◌+◌, ℕ, Result, MatchResult}
use Rattle.loops.specs.Loop.{pick}
use Rattle.refusal.specs.declared.Refusal.{Refusal}
use Rattle.refusal.specs.declared.Refusal.TheVariants.{JobFile}
use Rattle.job.specs.declared.marks.Marks.{Marks}
use Rattle.job.specs.Layout.{both_marks}

-- "a mark byte (1 for u, 2 for v, added)"
abbrev pub mark_number : Marks → ℕ
mark_number m = pick m.u 1 0 + pick m.v 2 0

-- the marks that have this number, or 19 for a "mark above 3"
abbrev pub Decodes : ℕ → Result Marks Refusal → Type 0
Decodes n r = MatchResult r (λ m. mark_number m ≡ n) (λ e. (e ≡ JobFile) × (both_marks < n))
