-- `IsSquareRoot` settles the result: no number has two square roots, and there is no tie.
use Rattle.std.proofs.Common.{◌≡◌, ℕ, ◌+◌, ◌-◌, ◌*◌, ◌/◌, ◌^◌, ◌<◌, Bool, true, false, T, ◌⊎◌, sym, refl, ap, ◌∙◌, subst, inl, inr, le_of_suc-le-suc, lt_irrefl, eq-zero-or-pos, le_antisymm, lt_of_not-le, arith}
use lib.Ieee.{Float, nan, inf, fin, size}
use lib.Ieee.Scale.{finite}
use Rattle.number.specs.Units.{units_in_one, mag, neg?}
use Rattle.number.proofs.Sign.{bits_apart}
use Rattle.sqrt.specs.SquareRoot.{Farther, AtLeastZero, NearestRoot, Zero, IsSquareRoot}
use Rattle.sqrt.proofs.Pattern.{to_bits_of}
use Rattle.sqrt.proofs.Shape.{own}

-- of two numbers, each farther than the other, none is below the other
not_below : (n g c : ℕ) → Farther n g c → Farther n c g → g < c → ⊥
not_below n g c p q l = omega (arith, p.0 l, q.1 l)

one_nearest : (n g c : ℕ) → Farther n g c → Farther n c g → g ≡ c
one_nearest n g c p q = le_antisymm (le_of_suc-le-suc (lt_of_not-le (not_below n c g q p))) (le_of_suc-le-suc (lt_of_not-le (not_below n g c p q)))

-- no other number is as near: where the exact root is the middle of r and y, in units and doubled and squared, y is r
pub no_tie : (n : ℕ) (r y : Float) → NearestRoot n r → AtLeastZero y → 4 * n ≡ (mag r + mag y) * (mag r + mag y) → mag y ≡ mag r
no_tie n r y p h e = le_antisymm
    (le_of_suc-le-suc (lt_of_not-le (λ (l : mag r < mag y). beyond n (mag r) (mag y) e ((p.farther y h).0 l))))
    (le_of_suc-le-suc (lt_of_not-le (λ (l : mag y < mag r). short n (mag r) (mag y) e ((p.farther y h).1 l))))
  where
    beyond : (n g c : ℕ) → 4 * n ≡ (g + c) * (g + c) → 4 * n < (g + c) * (g + c) → ⊥
    beyond n g c e l = omega arith

    short : (n g c : ℕ) → 4 * n ≡ (g + c) * (g + c) → (g + c) * (g + c) < 4 * n → ⊥
    short n g c e l = omega arith

-- finite binary64 numbers of at least 0 with as many units are one
same_units : (r q : Float) → AtLeastZero r → AtLeastZero q → mag r ≡ mag q → r ≡ q
same_units r q p h e = bits_apart r q p.held h.held
    (to_bits_of r (mag r) (own r p.held p.is_finite p.sign)
    ∙ ap (λ (a : ℕ). (size a - 53) * 2 ^ 52 + a / 2 ^ (size a - 53)) e
    ∙ sym (to_bits_of q (mag q) (own q h.held h.is_finite h.sign)))

one_nearest_root : (n : ℕ) (r q : Float) → NearestRoot n r → NearestRoot n q → r ≡ q
one_nearest_root n r q p h = same_units r q p.at_least h.at_least
    (one_nearest n (mag r) (mag q) (p.farther q h.at_least) (h.farther r p.at_least))

-- a finite number: 0, below 0 or above 0
one_finite_root : (x r q : Float) → T (finite x) → (s : Bool) → neg? x ≡ s → (mag x ≡ 0) ⊎ (0 < mag x) → IsSquareRoot x r → IsSquareRoot x q → r ≡ q
one_finite_root x r q f s n (inl z) p h = p.zeros (f, z) ∙ sym (h.zeros (f, z))
one_finite_root x r q f true n (inr a) p h = p.other_negative n no ∙ sym (h.other_negative n no)
  where
    no : Zero x → ⊥
    no z = lt_irrefl 0 (subst (λ (k : ℕ). 0 < k) z.1 a)
one_finite_root x r q f false n (inr a) p h = one_nearest_root (mag x * units_in_one) r q (p.nearest (f, n, a)) (h.nearest (f, n, a))

-- no number has two square roots
pub one_root : (x r q : Float) → IsSquareRoot x r → IsSquareRoot x q → r ≡ q
one_root nan r q p h = p.no_number refl ∙ sym (h.no_number refl)
one_root (inf true) r q p h = p.other_negative refl (λ z. z.0) ∙ sym (h.other_negative refl (λ z. z.0))
one_root (inf false) r q p h = p.infinite refl ∙ sym (h.infinite refl)
one_root (fin s m e) r q p h = one_finite_root (fin s m e) r q tt s refl (eq-zero-or-pos (mag (fin s m e))) p h
