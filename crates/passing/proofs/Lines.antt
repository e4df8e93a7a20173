-- What both halves make: a line of good points whose chords but the closing one are at most 0.2.
use mathlib.Core.Path.{◌≡◌, refl, ap, sym, subst, ◌∙◌}
use mathlib.Core.Bool.{Bool, false}
use mathlib.Core.List.{List, [], ◌∷◌, ◌++◌, reverse, reverse-cons}
use Prim.Native.Nat.{ℕ, zero, suc, ◌+◌, ◌-◌, ◌*◌, ◌≤◌, ◌<◌}
use native.Mathlib.Omega.{arith}
use borrow.Author.Tests.{eqb-false}
use lib.Ieee.{Float}
use lib.ListN.{length, get_or, length-append, length-reverse, get_or-append}
use lib.Seq.{get_or-append_seam}
use lib.Dec.{T}
use Rattle.std.specs.List.{All}
use Rattle.std.proofs.lemmas.List.Elements.{All-nil, All-cons, All-tail, All-append, All-push}
use Rattle.loops.specs.Loop.{pick}
use Rattle.geometry.specs.declared.vector.Vector3D.{Vector3D}
use Rattle.geometry.specs.declared.tolerance.Tolerance.{Tolerance}
use Rattle.geometry.specs.Tolerance.{tolerance_fit}
use Rattle.patch.specs.declared.patch.Patch.{Patch}
use Rattle.patch.specs.declared.patch.Parameters.{Parameters}
use Rattle.meeting.specs.Intersection.{IsIntersection}
use Rattle.certificate.specs.Passes.{closing_chord}
use Rattle.groups.specs.declared.traced.Closing.TheVariants as ends
use Rattle.groups.specs.Traced.{code_of}
use Rattle.walk.specs.Line.{half_of, Line, forward, backward, line_of}
use Rattle.passing.proofs.Chains.{all_reversed, Linked, linked_at, linked_join, linked_reversed}
use Rattle.passing.proofs.Halves.{Near, near_swap, Ends, left_open, came_round_lem, HalfFine, half_fine}

-- a closing is so when, on the line's parameters
pub data Round (x : Parameters) (points : List Parameters) (start closing : ℕ) : Type 0 where
  not_round : closing ≡ 0 → Round x points start closing
  round_forward : closing ≡ 1 → start ≡ 0 → get_or points (length points - 1) x ≡ get_or points 0 x → Round x points start closing
  round_back : closing ≡ 2 → 2 ≤ start → get_or points 0 x ≡ get_or points start x → Round x points start closing

pub record LineFine (a b : Patch) (confusion : Float) (x : Parameters) (n : ℕ) (points : List Parameters) (start closing : ℕ) : Type 0 where
  pub few : length points ≤ 2 * n + 1
  pub among : start < length points
  pub good : All (IsIntersection a b confusion) points
  pub closed : Round x points start closing
  pub chords : (j : ℕ) → suc j < length points → closing_chord (length points) closing (suc j) ≡ false → Near a (get_or points (suc j) x) (get_or points j x)

module _ (a b : Patch) (confusion : Float) (x : Parameters) (gx : IsIntersection a b confusion x) (n : ℕ) where
  abbrev Met : Parameters → Type 0
  Met = IsIntersection a b confusion

  abbrev Good : List Parameters → Type 0
  Good = All Met

  abbrev Chain : List Parameters → Type 0
  Chain = Linked (Near a)

  abbrev Fine : List Parameters → ℕ → ℕ → Type 0
  Fine = LineFine a b confusion x n

  -- a chord is measured from the point before
  chord_at : (m : List Parameters) → Chain m → (j : ℕ) → suc j < length m → Near a (get_or m (suc j) x) (get_or m j x)
  chord_at m l j h = near_swap a (get_or m j x) (get_or m (suc j) x) (linked_at (Near a) m x j h l)

  -- ---- closed forward

  chord_before : (m : List Parameters) → Chain m → (j : ℕ) → suc j < length m → Near a (get_or (m ++ (x ∷ [])) (suc j) x) (get_or (m ++ (x ∷ [])) j x)
  chord_before m l j h =
      subst (λ (y : Parameters). Near a y (get_or (m ++ (x ∷ [])) j x)) (sym (get_or-append m (x ∷ []) x (suc j) h))
      (subst (λ (y : Parameters). Near a (get_or m (suc j) x) y) (sym (get_or-append m (x ∷ []) x j (omega arith))) (chord_at m l j h))

  round_line : (r : List Parameters) → length r + 1 ≤ n → Good r → Chain (x ∷ r) → Fine (x ∷ (r ++ (x ∷ []))) 0 1
  round_line r h g l =
      let e = length-append r (x ∷ []) in
      let f : length (x ∷ (r ++ (x ∷ []))) - 1 ≡ length (x ∷ r) = omega (arith, e) in
      record {
        few = omega (arith, e, h);
        among = omega arith;
        good = All-cons Met x (r ++ (x ∷ [])) gx (All-push Met r x g gx);
        closed = round_forward refl refl (ap (λ (k : ℕ). get_or (x ∷ (r ++ (x ∷ []))) k x) f ∙ get_or-append_seam (x ∷ r) x [] x);
        chords = λ j k c. chord_before (x ∷ r) l j (let d = eqb-false (suc j) (length (x ∷ (r ++ (x ∷ []))) - 1) c in omega (arith, d, k, e));
      }

  -- ---- both halves

  open_line : (l r : List Parameters) → length l ≤ n → length r ≤ n → Good l → Good r → Chain (l ++ (x ∷ [])) → Chain (x ∷ r)
      → Fine (l ++ (x ∷ r)) (length l) 0
  open_line l r h k g q p s =
      let e = length-append l (x ∷ r) in
      record {
        few = omega (arith, e, h, k);
        among = omega (arith, e);
        good = All-append Met l (x ∷ r) g (All-cons Met x r gx q);
        closed = not_round refl;
        chords = λ j d c. chord_at (l ++ (x ∷ r)) (linked_join (Near a) l x r p s) j d;
      }

  back_line : (l r : List Parameters) → length l + 1 ≤ n → length r ≤ n → 2 ≤ length l → Good l → Good r → Chain (l ++ (x ∷ [])) → Chain (x ∷ r)
      → Fine (x ∷ (l ++ (x ∷ r))) (length (x ∷ l)) 2
  back_line l r h k m g q p s =
      let e = length-append l (x ∷ r) in
      record {
        few = omega (arith, e, h, k);
        among = omega (arith, e);
        good = All-cons Met x (l ++ (x ∷ r)) gx (All-append Met l (x ∷ r) g (All-cons Met x r gx q));
        closed = round_back refl (omega (arith, m)) (sym (get_or-append_seam (x ∷ l) x r x));
        chords = chord;
      }
    where
      chord : (j : ℕ) → suc j < length (x ∷ (l ++ (x ∷ r))) → closing_chord (length (x ∷ (l ++ (x ∷ r)))) 2 (suc j) ≡ false
          → Near a (get_or (x ∷ (l ++ (x ∷ r))) (suc j) x) (get_or (x ∷ (l ++ (x ∷ r))) j x)
      chord zero d c = absurd (let f = eqb-false 1 1 c in f refl)
      chord (suc j) d c = chord_at (l ++ (x ∷ r)) (linked_join (Near a) l x r p s) j (omega arith)

  -- ---- the line of two halves

  abbrev made : List Parameters → Bool → List Parameters → Bool → Line
  made fp fc bp bc = pick fc (record { points = x ∷ reverse fp; start = 0; closing = ends.Forward }) (record { points = bp ++ (x ∷ reverse fp); start = length bp; closing = pick bc ends.Backward ends.Open })

  abbrev Made : Line → Type 0
  Made m = Fine m.points m.start (code_of m.closing)

  reversed_good : (l : List Parameters) → Good l → Good (reverse l)
  reversed_good l g = all_reversed Met l [] g (All-nil Met)

  closed_made : (kept : List Parameters) → length (x ∷ kept) ≤ n → Good (x ∷ kept) → Chain (kept ++ (x ∷ [])) → Fine (x ∷ reverse (x ∷ kept)) 0 1
  closed_made kept h g l =
      subst (λ (r : List Parameters). Fine (x ∷ r) 0 1) (sym (reverse-cons x kept))
      (round_line (reverse kept) (let e = length-reverse kept in omega (arith, e, h)) (reversed_good kept (All-tail Met x kept g)) (linked_reversed (Near a) (near_swap a) x kept l))

  back_made : (kept r : List Parameters) → length (x ∷ kept) ≤ n → length r ≤ n → 2 ≤ length kept → Good (x ∷ kept) → Good r
      → Chain (kept ++ (x ∷ [])) → Chain (x ∷ r) → Fine ((x ∷ kept) ++ (x ∷ r)) (length (x ∷ kept)) 2
  back_made kept r h k m g q l s = back_line kept r (omega arith) k m (All-tail Met x kept g) q l s

  both_made : (fp bp : List Parameters) (bc : Bool) → length fp ≤ n → Good fp → Chain (fp ++ (x ∷ [])) → length bp ≤ n → Good bp → Ends a x bp bc
      → Fine (bp ++ (x ∷ reverse fp)) (length bp) (code_of (pick bc ends.Backward ends.Open))
  both_made fp bp bc h g l k q (left_open e p) =
      subst (λ (c : Bool). Fine (bp ++ (x ∷ reverse fp)) (length bp) (code_of (pick c ends.Backward ends.Open))) (sym e)
      (open_line bp (reverse fp) k (let f = length-reverse fp in omega (arith, f, h)) q (reversed_good fp g) p (linked_reversed (Near a) (near_swap a) x fp l))
  both_made fp bp bc h g l k q (came_round_lem e kept d m p) =
      subst (λ (c : Bool). Fine (bp ++ (x ∷ reverse fp)) (length bp) (code_of (pick c ends.Backward ends.Open))) (sym e)
      (subst (λ (s : List Parameters). Fine (s ++ (x ∷ reverse fp)) (length s) 2) (sym d)
      (back_made kept (reverse fp) (subst (λ (s : List Parameters). length s ≤ n) d k) (let f = length-reverse fp in omega (arith, f, h)) m
      (subst Good d q) (reversed_good fp g) p (linked_reversed (Near a) (near_swap a) x fp l)))

  line_made : (fp : List Parameters) (fc : Bool) (bp : List Parameters) (bc : Bool) → HalfFine a b confusion x n fp fc → HalfFine a b confusion x n bp bc → Made (made fp fc bp bc)
  line_made fp fc bp bc f r = go f.ends
    where
      go : Ends a x fp fc → Made (made fp fc bp bc)
      go (left_open e p) = subst (λ (c : Bool). Made (made fp c bp bc)) (sym e) (both_made fp bp bc f.few f.good p r.few r.good r.ends)
      go (came_round_lem e kept d m p) =
          subst (λ (c : Bool). Made (made fp c bp bc)) (sym e)
          (subst (λ (s : List Parameters). Fine (x ∷ reverse s) 0 1) (sym d)
          (closed_made kept (subst (λ (s : List Parameters). length s ≤ n) d f.few) (subst Good d f.good) p))

pub line_fine : (a b : Patch) (tol : Tolerance) → T (tolerance_fit tol) → (x : Parameters) → IsIntersection a b tol.confusion x → (t : Vector3D) (n : ℕ)
    → LineFine a b tol.confusion x n (line_of a b tol x t n).points (line_of a b tol x t n).start (code_of (line_of a b tol x t n).closing)
unfolding line_of
line_fine a b tol fit x gx t n =
    line_made a b tol.confusion x gx n
    (half_of a b tol forward x t n).points (half_of a b tol forward x t n).closed
    (half_of a b tol backward x t n).points (half_of a b tol backward x t n).closed
    (half_fine a b tol fit forward x gx n t) (half_fine a b tol fit backward x gx n t)
