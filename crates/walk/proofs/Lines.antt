-- The line in the buffer: the start, the forward half behind it, the backward half behind that, then joined.
use mathlib.Core.Path.{◌≡◌, refl, ap, sym, ◌∙◌}
use mathlib.Core.Bool.{Bool, true, false}
use mathlib.Core.List.{List, ◌∷◌, ◌++◌, reverse, reverse-reverse}
use Prim.Native.Nat.{ℕ, ◌+◌, ◌*◌, ◌-◌, ◌≤◌}
use native.Mathlib.Omega.{arith}
use lib.Ieee.{Float}
use lib.ListN.{length, take, drop, length-append, length-reverse}
use lib.Seq.{take_at, drop_at, length-take-le, take-append-add}
use Rattle.loops.specs.Loop.{pick}
use Rattle.groups.specs.declared.traced.Closing.{Closing}
use Rattle.groups.specs.declared.traced.Closing.TheVariants as ends
use Rattle.groups.specs.Groups.{width}
use Rattle.groups.specs.declared.row.Row.{Row}
use Rattle.groups.specs.Row.{numbers_of}
use Rattle.geometry.specs.declared.vector.Vector3D.{Vector3D}
use Rattle.geometry.specs.declared.tolerance.Tolerance.{Tolerance}
use Rattle.patch.specs.declared.patch.Patch.{Patch}
use Rattle.patch.specs.declared.patch.Parameters.{Parameters}
use Rattle.walk.specs.Lent.{placed, reversed_of, joined_of, rows_of}
use Rattle.walk.specs.Line.{Half, half_of, Written}
use Rattle.walk.specs.Line as line
use Rattle.walk.specs.Trace.{room, finished_of, settled}
use Rattle.std.proofs.lemmas.List.Edits.{length-between}
use Rattle.walk.proofs.Lists.{back_from, back_from_lem, length_from}
use Rattle.walk.proofs.Rows.{length_put, rows_append, reversed_rows}
use Rattle.walk.proofs.Joining.{joined_front}

-- the part of the list that is lent from number k on
abbrev from : ℕ → List Float → List Float
from k l = take (length l - k) (drop k l)

-- the start's row stands at the front
pub record Started (row : Parameters → Row) (x : Parameters) (n : ℕ) (l : List Float) : Type 0 where
  pub size : length l ≡ room n
  pub front : take width l ≡ numbers_of (row x)

-- and f points of the forward half behind it
pub record Forward (row : Parameters → Row) (x : Parameters) (n : ℕ) (half : Half) (l : List Float) (f : ℕ) : Type 0 where
  pub size : length l ≡ room n
  pub few : f ≤ n
  pub count : 1 + f ≡ length (x ∷ reverse half.points)
  pub front : take (width * (1 + f)) l ≡ rows_of row (x ∷ reverse half.points)

-- and k points of the backward half behind both
pub record Both (row : Parameters → Row) (x : Parameters) (n : ℕ) (forward backward : Half) (l : List Float) (f k : ℕ) : Type 0 where
  pub size : length l ≡ room n
  pub few_forward : f ≤ n
  pub few_backward : k ≤ n
  pub start : k ≡ length backward.points
  pub count : 1 + f + k ≡ length (line.both_halves x forward backward).points
  pub front : take (width * (1 + f + k)) (joined_of f k l) ≡ rows_of row (line.both_halves x forward backward).points

module _ {row : Parameters → Row} {x : Parameters} {n : ℕ} where
  pub started : (l₀ : List Float) {l₁ : List Float} {r : Row} → length l₀ ≡ room n → l₁ ≡ placed l₀ 0 r → r ≡ row x → Started row x n l₁
  started l₀ {l₁} {r} e e₁ er = record {
    size = length_put l₀ 0 r (omega arith) e₁ ∙ e;
    front = ap (take width) e₁ ∙ take_at (numbers_of r) (drop width l₀) width refl ∙ ap numbers_of er;
  }

  module _ {l : List Float} (s : Started row x n l) where
    part₁ : length (from width l) ≡ length l - width
    part₁ = length-between l width (length l) (omega arith)

    pub needs_forward : width * n ≤ length (from width l)
    needs_forward = let e = s.size in let p = part₁ in omega arith

    pub forward_half : {half : Half} {F : List Float} {f : ℕ} {closed : Bool} → length F ≡ length (from width l) → Written row n half F f closed
        → Forward row x n half (back_from width l F) f
    unfolding rows_of
    forward_half {half} {F} {f} lF w =
        let e = s.size in
        let z = length-reverse half.points in
        let h : width ≤ length l = omega arith in
        record {
          size = length_from width l F h (lF ∙ part₁) ∙ e;
          few = w.few;
          count = omega (arith, w.size);
          front =
              ap (take (width * (1 + f))) (back_from_lem width l F h ∙ ap (λ (z : List Float). z ++ F) s.front)
              ∙ ap (λ (k : ℕ). take k (numbers_of (row x) ++ F)) (let g : width * (1 + f) ≡ width + width * f = omega arith in g)
              ∙ take-append-add (numbers_of (row x)) F (width * f)
              ∙ ap (λ (z : List Float). numbers_of (row x) ++ z) w.rows;
        }

  module _ {forward : Half} {l : List Float} {f : ℕ} (s : Forward row x n forward l f) where
    -- the line that closes forward
    pub settled_forward : finished_of (1 + f) 0 ends.Forward l ≡ settled row n (line.closed_forward x forward)
    unfolding finished_of settled
    settled_forward = rw (s.front, s.size, s.count)

    fits : width * (1 + f) ≤ length l
    fits = let e = s.size in let k = s.few in omega arith

    part₂ : length (from (width * (1 + f)) l) ≡ length l - width * (1 + f)
    part₂ = length-between l (width * (1 + f)) (length l) (omega arith)

    pub needs_backward : width * n ≤ length (from (width * (1 + f)) l)
    needs_backward = let e = s.size in let k = s.few in let p = part₂ in omega arith

    pub backward_half : {backward : Half} {B : List Float} {k : ℕ} {closed : Bool} → length B ≡ length (from (width * (1 + f)) l) → Written row n backward B k closed
        → Both row x n forward backward (back_from (width * (1 + f)) l B) f k
    backward_half {backward} {B} {k} l_b w =
        let bw : List Parameters = backward.points in
        let fw : List Parameters = x ∷ reverse forward.points in
        let at : ℕ = width * (1 + f) in
        let m : List Float = back_from at l B in
        let lm : length m ≡ room n = length_from at l B fits (l_b ∙ part₂) ∙ s.size in
        let b = back_from_lem at l B fits in
        let t = length-take-le at l fits in
        let d : drop at m ≡ B = ap (drop at) b ∙ drop_at (take at l) B at t in
        let e : take at m ≡ rows_of row fw = ap (take at) b ∙ take_at (take at l) B at t ∙ s.front in
        record {
          size = lm;
          few_forward = s.few;
          few_backward = w.few;
          start = w.size;
          count = omega (arith, s.count, w.size, length-append bw fw);
          front =
              joined_front f k m (omega (arith, lm, s.few, w.few)) (ap (take (width * k)) d ∙ w.rows) e
              ∙ ap (λ (z : List Float). z ++ rows_of row fw)
              (ap (λ (j : ℕ). reversed_of j (rows_of row (reverse bw))) (w.size ∙ sym (length-reverse bw)) ∙ reversed_rows row (reverse bw) ∙ ap (rows_of row) (reverse-reverse bw))
              ∙ sym (rows_append row bw fw);
        }

  -- the line that does not: open, or closed backward
  pub settled_both : {forward backward : Half} {l m : List Float} {f k : ℕ} {closing : Closing} → Both row x n forward backward l f k → m ≡ joined_of f k l → length m ≡ length l
      → closing ≡ pick backward.closed ends.Backward ends.Open → finished_of (1 + f + k) k closing m ≡ settled row n (line.both_halves x forward backward)
  unfolding finished_of settled
  settled_both {f = f} {k = k} s em lm ec = rw (lm, s.size, em, s.front, ec, s.count, s.start)

-- which halves a line has
module _ (a b : Patch) (tol : Tolerance) (x : Parameters) (t : Vector3D) (n : ℕ) where
  pub closed_forward_lem : (half_of a b tol line.forward x t n).closed ≡ true → line.closed_forward x (half_of a b tol line.forward x t n) ≡ line.line_of a b tol x t n
  unfolding line.line_of
  closed_forward_lem e = rw e

  pub both_halves_lem : (half_of a b tol line.forward x t n).closed ≡ false
      → line.both_halves x (half_of a b tol line.forward x t n) (half_of a b tol line.backward x t n) ≡ line.line_of a b tol x t n
  unfolding line.line_of
  both_halves_lem e = rw e
