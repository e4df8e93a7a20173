-- The computed gap of two points: it does not depend on their order, and where it is at most c, for a c from 2 ^ -40 on, the exact squared gap is at most
-- c * c * (1 + 2 ^ -50).
use mathlib.Core.Path.{◌≡◌, refl, sym, ap, ◌∙◌, subst}
use Prim.Native.Nat.{ℕ, ◌+◌, ◌-◌, ◌*◌, ◌^◌, ◌≤◌}
use native.Mathlib.Nat.{le_trans}
use native.Mathlib.Omega.{arith}
use mathlib.Core.Bool.{true, false, ◌&&◌}
use lib.IntN.{nat_abs, ◌-ℤ◌}
use lib.Dec.{T, lit≤}
use lib.Pow.{pow_pos}
use lib.Ieee.{Float, nan, inf, fin, binary64, le, of_bits, fits}
use lib.Ieee.Fits.{add-fits, sub-fits, and_l, and_r}
use lib.Ieee.Scale.{grid, finite}
use Rattle.number.specs.Operators.{bits, ◌⊕◌, ◌⊖◌, ◌⊗◌, ◌≤?◌}
use Rattle.number.specs.Helpers.{one}
use Rattle.number.specs.Units.{units_in_one, mag, neg?, in_units}
use Rattle.number.proofs.Values.{Is, is_own_lem, whole, sum_mag, sub_is, apart}
use Rattle.number.proofs.Rounding.{whole_over}
use Rattle.number.proofs.Finite.{add_finite, sub_finite, mul_finite}
use Rattle.number.proofs.Symmetry.{square_swap}
use Rattle.number.proofs.Sums.{apart_is}
use Rattle.number.proofs.Order.{le→mag}
use Rattle.sqrt.specs.Sqrt.{sqrt_of}
use Rattle.sqrt.proofs.AtMost.{squared, sum_over}
use Rattle.sqrt.proofs.Laws.{UnderRoot, sqrt_le_finite, sqrt_rooted, sqrt_sign}
use Rattle.geometry.specs.declared.point.Point3D.{Point3D}
use Rattle.geometry.specs.declared.tolerance.Tolerance.{Tolerance}
use Rattle.geometry.specs.Tolerance.{least_confusion, tolerance_fit}
use Rattle.geometry.specs.Vector.{square_magnitude_of, magnitude_of}
use Rattle.geometry.specs.Point.{distance_of, difference_of, square_of, exact_square}
use Rattle.gap.specs.Gap.{PointFits, PointFinite, ExactlyWithin}
use Rattle.gap.proofs.Chain.{chain, final}

-- ---- the order of the two points

squares : Float → Float → Float → Float
squares x y z = x ⊗ x ⊕ y ⊗ y ⊕ z ⊗ z

squares_swap : (ax ay az bx by bz : Float) → squares (bx ⊖ ax) (by ⊖ ay) (bz ⊖ az) ≡ squares (ax ⊖ bx) (ay ⊖ by) (az ⊖ bz)
unfolding squares
squares_swap ax ay az bx by bz =
    ap (λ (k : Float). k ⊕ (by ⊖ ay) ⊗ (by ⊖ ay) ⊕ (bz ⊖ az) ⊗ (bz ⊖ az)) (square_swap ax bx)
    ∙ ap (λ (k : Float). (ax ⊖ bx) ⊗ (ax ⊖ bx) ⊕ k ⊕ (bz ⊖ az) ⊗ (bz ⊖ az)) (square_swap ay by)
    ∙ ap (λ (k : Float). (ax ⊖ bx) ⊗ (ax ⊖ bx) ⊕ (ay ⊖ by) ⊗ (ay ⊖ by) ⊕ k) (square_swap az bz)

pub distance_swap : (p q : Point3D) → distance_of p q ≡ distance_of q p
unfolding distance_of squares
distance_swap p q = ap sqrt_of (squares_swap p.x p.y p.z q.x q.y q.z)

-- the magnitude of the difference of two points is their gap
pub magnitude_is_gap : (p q : Point3D) → magnitude_of (difference_of p q) ≡ distance_of p q
unfolding magnitude_of square_magnitude_of difference_of distance_of squares
magnitude_is_gap p q = ap sqrt_of (sym (squares_swap p.x p.y p.z q.x q.y q.z))

-- ---- one coordinate

abbrev between : Float → Float → ℕ
between x y = apart (neg? x) (mag x) (neg? y) (mag y)

-- the exact difference is one part in 2 ^ 53 or less above the computed one
difference_over : (x y : Float) → T (fits binary64 x) → T (fits binary64 y) → T (finite (x ⊖ y)) → between x y * (2 ^ 53 - 1) ≤ mag (x ⊖ y) * 2 ^ 53
difference_over x y fx fy h =
    let f = sub_finite x y h in
    let e = sub_is x y (neg? x) (neg? y) (mag x) (mag y) (whole x fx f.0) (whole y fy f.1) in
    let m : mag (x ⊖ y) ≡ grid binary64 (between x y) units_in_one = ap mag e ∙ sum_mag (neg? x) (neg? y) (mag x) (mag y) (subst (λ (v : Float). T (finite v)) e h) in
    subst (λ (k : ℕ). between x y * (2 ^ 53 - 1) ≤ k * 2 ^ 53) (sym m) (whole_over (between x y) units_in_one (pow_pos 1074))

-- ---- the law on six coordinates

not_neg : (x : Float) (a : ℕ) → Is x false a → neg? x ≡ false
not_neg x a v = (is_own_lem x false a v).0

eighth : (E C : ℕ) → E * 2 ^ 53 ≤ C * (2 ^ 53 + 8) → 2 ^ 50 * E ≤ (2 ^ 50 + 1) * C
eighth E C h = omega arith

module _ (ax ay az bx by bz c : Float) (hc : T (finite c)) (l : T (sqrt_of (squares (ax ⊖ bx) (ay ⊖ by) (az ⊖ bz)) ≤? c)) where
  abbrev dx : Float
  dx = ax ⊖ bx

  abbrev dy : Float
  dy = ay ⊖ by

  abbrev dz : Float
  dz = az ⊖ bz

  abbrev s1 : Float
  s1 = dx ⊗ dx ⊕ dy ⊗ dy

  abbrev s : Float
  s = s1 ⊕ dz ⊗ dz

  under : UnderRoot s
  unfolding squares
  under = sqrt_le_finite s c hc l

  last_two : T (finite s1) × T (finite (dz ⊗ dz))
  last_two = add_finite s1 (dz ⊗ dz) under.finite_x

  first_two : T (finite (dx ⊗ dx)) × T (finite (dy ⊗ dy))
  first_two = add_finite (dx ⊗ dx) (dy ⊗ dy) last_two.0

  -- each difference, and so each coordinate, is finite
  finite_x : T (finite ax) × T (finite bx)
  finite_x = sub_finite ax bx (mul_finite dx dx first_two.0).0

  finite_y : T (finite ay) × T (finite by)
  finite_y = sub_finite ay by (mul_finite dy dy first_two.1).0

  finite_z : T (finite az) × T (finite bz)
  finite_z = sub_finite az bz (mul_finite dz dz last_two.1).0

  module _ (fax : T (fits binary64 ax)) (fay : T (fits binary64 ay)) (faz : T (fits binary64 az))
      (fbx : T (fits binary64 bx)) (fby : T (fits binary64 by)) (fbz : T (fits binary64 bz)) (big : 2 ^ 1034 ≤ mag c)
    where
      law : 2 ^ 50 * (square_of (between ax bx) + square_of (between ay by) + square_of (between az bz)) ≤ (2 ^ 50 + 1) * (mag c * mag c)
      unfolding squares
      law =
          let px = squared dx (sub-fits binary64 ax bx) first_two.0 in
          let py = squared dy (sub-fits binary64 ay by) first_two.1 in
          let pz = squared dz (sub-fits binary64 az bz) last_two.1 in
          let e1 = sum_over (dx ⊗ dx) (dy ⊗ dy) (mag (dx ⊗ dx)) (mag (dy ⊗ dy)) px.is py.is last_two.0 in
          let e2 = sum_over s1 (dz ⊗ dz) (mag s1) (mag (dz ⊗ dz)) e1.0 pz.is under.finite_x in
          let ns = not_neg s (mag s) e2.0 in
          let fs = add-fits binary64 s1 (dz ⊗ dz) in
          let g = sqrt_rooted s fs under.finite_x ns in
          let total = square_of (between ax bx) + square_of (between ay by) + square_of (between az bz) in
          eighth total (mag c * mag c)
          (final total (mag c) big
          (chain (between ax bx) (between ay by) (between az bz) (mag dx) (mag dy) (mag dz) (mag (dx ⊗ dx)) (mag (dy ⊗ dy)) (mag (dz ⊗ dz))
          (mag s1) (mag s) (mag (sqrt_of s)) (mag c) (2 ^ 53) (2 ^ 53 - 1) units_in_one (2 ^ 52)
          (lit≤ tt)
          (difference_over ax bx fax fbx (mul_finite dx dx first_two.0).0)
          (difference_over ay by fay fby (mul_finite dy dy first_two.1).0)
          (difference_over az bz faz fbz (mul_finite dz dz last_two.1).0)
          px.over py.over pz.over e1.1 e2.1 g.over (le→mag (sqrt_of s) c under.finite_root hc (sqrt_sign s fs under.finite_x ns) l)))

-- ---- for two points

exact_is : (p q : Point3D) → exact_square p q ≡ square_of (between p.x q.x) + square_of (between p.y q.y) + square_of (between p.z q.z)
unfolding exact_square
exact_is p q =
    let units : (a b : Float) → nat_abs (in_units a -ℤ in_units b) ≡ between a b = λ a b. apart_is (neg? a) (neg? b) (mag a) (mag b) in
    rw (units p.x q.x, units p.y q.y, units p.z q.z)

exchanged : (p q : Point3D) (c : Float) → T (distance_of p q ≤? c) → T (sqrt_of (squares (p.x ⊖ q.x) (p.y ⊖ q.y) (p.z ⊖ q.z)) ≤? c)
unfolding distance_of squares
exchanged p q c l = subst (λ (k : Float). T (k ≤? c)) (distance_swap p q) l

-- Where the computed gap is at most a finite number, all six coordinates are finite.
pub gap_finite : (p q : Point3D) (c : Float) → T (finite c) → T (distance_of p q ≤? c) → PointFinite p × PointFinite q
gap_finite p q c h l =
    let t = exchanged p q c l in
    let x = finite_x p.x p.y p.z q.x q.y q.z c h t in
    let y = finite_y p.x p.y p.z q.x q.y q.z c h t in
    let z = finite_z p.x p.y p.z q.x q.y q.z c h t in
    (record { x_finite = x.0; y_finite = y.0; z_finite = z.0 }, record { x_finite = x.1; y_finite = y.1; z_finite = z.1 })

-- a number between 2 ^ -40 and 1 is finite, and has 2 ^ 1034 whole units at least and `unit` at most, whatever its format
pub finite_between : (c : Float) → T (least_confusion ≤? c) → T (c ≤? one) → T (finite c)
finite_between nan a b = unfold le in absurd b
finite_between (inf true) a b = unfold of_bits le in absurd a
finite_between (inf false) a b = unfold of_bits le in absurd b
finite_between (fin t m e) a b = tt

pub least_under : (c : Float) → T (finite c) → T (least_confusion ≤? c) → 2 ^ 1034 ≤ mag c
least_under c h low = le_trans least (le→mag least_confusion c (unfold of_bits in tt) h (unfold of_bits in refl) low)
  where
    least : 2 ^ 1034 ≤ mag least_confusion
    least = unfold of_bits in lit≤ tt

pub under_one : (c : Float) → T (finite c) → neg? c ≡ false → T (c ≤? one) → mag c ≤ units_in_one
under_one c h s high = le_trans (le→mag c one h (unfold of_bits in tt) s high) most
  where
    most : mag one ≤ units_in_one
    most = unfold of_bits in lit≤ tt

-- THE EXACT-GAP THEOREM. Take any two points with coordinates of binary64, and any c from 2 ^ -40 to 1. If the gap that the computer works out is at most c,
-- then 2 ^ 50 times the exact squared gap is at most 2 ^ 50 + 1 times c squared, all as whole numbers of units of 2 ^ -1074 (squared):
-- however the nine roundings fall, the true gap exceeds c by less than one part in 2 ^ 51.
pub exact_gap : (p q : Point3D) (c : Float) → PointFits p → PointFits q → T (least_confusion ≤? c) → T (c ≤? one) → T (distance_of p q ≤? c)
    → ExactlyWithin p q c
exact_gap p q c fp fq low high l =
    let h = finite_between c low high in
    subst (λ (k : ℕ). 2 ^ 50 * k ≤ (2 ^ 50 + 1) * (mag c * mag c)) (sym (exact_is p q))
    (law p.x p.y p.z q.x q.y q.z c h (exchanged p q c l) fp.x_fits fp.y_fits fp.z_fits fq.x_fits fq.y_fits fq.z_fits (least_under c h low))

-- ---- refusal 5, taken apart
pub fit_tolerance : (t : Tolerance) → T (tolerance_fit t) → T (least_confusion ≤? t.confusion) × T (t.confusion ≤? one)
unfolding tolerance_fit
fit_tolerance t h =
    let least = least_confusion ≤? t.confusion in
    let most = t.confusion ≤? one in
    let angular = bits 0 ≤? t.angular && t.angular ≤? one in
    (and_l least (most && angular) h, and_l most angular (and_r least (most && angular) h))
