-- The explaining call's word. Definitions only.
use Rattle.std.specs.Prelude.{◌≡◌, List, ℕ, ◌+◌, ◌*◌, ◌^◌, Float, Some, Ok, Err}
use Rattle.refusal.specs.Refusal.{number_of}
use Rattle.geometry.specs.declared.tolerance.Tolerance.{Tolerance}
use Rattle.boxes.specs.declared.boxtree.Aabb.{Aabb}
use Rattle.boxes.specs.Counts.{Fit}
use Rattle.boxes.specs.Crosses.{grown_of}
use Rattle.boxes.specs.Reasons.{Explains}
use Rattle.boxes.specs.declared.explain.Reason.{Reason}
use Rattle.boxes.specs.declared.explain.Reason.TheVariants.{Segment, WholeApart, RunsApart, NoneMet}
use Rattle.boxes.specs.Explain.{Explained}
use Rattle.boxes.specs.Explain.{explain_of, value_of}
use Rattle.capi.specs.Answer.{number_in, kind_in, value_in, crossed_in}
use Rattle.capi.specs.Crossing.{tolerance_in, box_given, on_box, crossing_answer}

-- the kind of reason (include/geomcore.h)
abbrev pub kind_of : Reason → ℕ
kind_of (Segment i) = 1
kind_of (WholeApart axis) = 2
kind_of RunsApart = 3
kind_of (NoneMet n) = 4

-- 2^8 times the kind + 2^32 times the value
unfoldable pub reason_word : Reason → ℕ
reason_word q = kind_of q * 2 ^ 8 + value_of q * 2 ^ 32

-- the reason's word, or the refusal's number
abbrev pub explained_word : Explained → ℕ
explained_word (Ok q) = reason_word q
explained_word (Err r) = number_of r

-- what has to have room in the word
abbrev pub value_beside : Explained → ℕ
value_beside (Ok q) = value_of q
value_beside (Err r) = 0

-- the explanation's word for what C hands over
unfoldable pub explain_answer : Float → Float → List Float → ℕ → List Float → ℕ
explain_answer confusion angular buffer count corners =
    on_box (box_given corners) (λ (b : Aabb). explained_word (explain_of (tolerance_in confusion angular) buffer count b))

-- a word tells the reason that the rule gives, of a box and a tolerance that none of 5, 8, 12, 18, 17 refuses
pub record ReasonTold (tol : Tolerance) (l : List Float) (count : ℕ) (corners : List Float) (w : ℕ) : Type 0 where
  pub box : Aabb
  pub given : box_given corners ≡ Some box
  pub fit : Fit tol l count box
  pub reason : Reason
  pub rule : Explains l count (grown_of box tol.confusion) reason
  pub kind : kind_in w ≡ kind_of reason
  pub value : value_in w ≡ value_of reason

-- the contract of `geomcore_explain`, beside the word of `geomcore_crossing` for the same arguments
pub record ExplainWord (confusion angular : Float) (buffer : List Float) (count : ℕ) (corners : List Float) (w : ℕ) : Type 0 where
  pub answer : w ≡ explain_answer confusion angular buffer count corners
  -- a low byte of 0: the kind and the value read out of the word are those of the reason that the rule gives
  pub rule : number_in w ≡ 0 → ReasonTold (tolerance_in confusion angular) buffer count corners w
  -- the low byte is the crossing's
  pub refused : number_in w ≡ number_in (crossing_answer confusion angular buffer count corners)
  -- a segment is told exactly where the crossing says yes
  pub crosses : kind_in w ≡ 1 → crossed_in (crossing_answer confusion angular buffer count corners) ≡ 1
  pub named : crossed_in (crossing_answer confusion angular buffer count corners) ≡ 1 → kind_in w ≡ 1
