-- Equal in bits is equal as values of the logic, for numbers of binary64; a point worked out afresh is made of such.
use mathlib.Core.Path.{◌≡◌, refl, sym, ap, ◌∙◌, subst}
use mathlib.Core.List.{List, [], ◌∷◌}
use Prim.Native.Nat.{ℕ, ◌+◌, ◌*◌, ◌≤◌}
use lib.Dec.{T}
use lib.ListN.{length, get_or}
use lib.Ieee.{Float, nan, binary64}
use lib.Ieee.Bits.{is_true}
use lib.Ieee.Fits.{add-fits, and_l, and_r, and_i}
use Rattle.number.specs.Helpers.{same_bits}
use Rattle.number.proofs.Binary64.{Binary64, AllFit}
use Rattle.number.proofs.Sign.{same_bits→eq, eq→same_bits}
use Rattle.groups.specs.declared.row.Row.{Row}
use Rattle.groups.specs.Groups.{width}
use Rattle.groups.specs.Row.{numbers_of, row_from, point_in, row_of}
use Rattle.groups.proofs.Rows.{row_there}
use Rattle.geometry.specs.declared.point.Point3D.{Point3D}
use Rattle.geometry.specs.Vector.{scale_of}
use Rattle.geometry.specs.Point.{add_vector_of}
use Rattle.geometry.specs.Frame.{point_at_of}
use Rattle.gap.specs.Gap.{PointFits}
use Rattle.analytic.specs.declared.surface.Surface.{Surface}
use Rattle.analytic.specs.Surface.{eval_point}
use Rattle.certificate.specs.Check.{same_numbers, coordinates_of, same_point, same_row}

-- ---- numbers one by one

same_equal : (l m : List Float) → AllFit l → AllFit m → T (same_numbers l m) → l ≡ m
unfolding same_numbers
same_equal [] [] f g s = refl
same_equal [] (y ∷ m) f g s = absurd s
same_equal (x ∷ l) [] f g s = absurd s
same_equal (x ∷ l) (y ∷ m) f g s =
    ap (λ (t : Float). t ∷ l) (same_bits→eq x y f.0 g.0 (is_true (same_bits x y) (and_l (same_bits x y) (same_numbers l m) s)))
    ∙ ap (λ (t : List Float). y ∷ t) (same_equal l m f.1 g.1 (and_r (same_bits x y) (same_numbers l m) s))

same_self : (l : List Float) → T (same_numbers l l)
unfolding same_numbers
same_self [] = tt
same_self (x ∷ l) = and_i (same_bits x x) (same_numbers l l) (subst T (sym (eq→same_bits x x refl)) tt) (same_self l)

equal_same : (l m : List Float) → l ≡ m → T (same_numbers l m)
equal_same l m e = subst (λ (t : List Float). T (same_numbers l t)) e (same_self l)

-- ---- the coordinates of a point

pub point_fits : (r : Row) → AllFit (numbers_of r) → PointFits (point_in r)
point_fits r f = record { x_fits = f.0; y_fits = f.1.0; z_fits = f.1.1.0 }

pub point_equal : (p q : Point3D) → PointFits p → PointFits q → T (same_point p q) → p ≡ q
point_equal p q f g s =
    ap (λ (l : List Float). record { x = get_or l 0 nan; y = get_or l 1 nan; z = get_or l 2 nan })
    (same_equal (coordinates_of p) (coordinates_of q) (f.x_fits, (f.y_fits, (f.z_fits, tt))) (g.x_fits, (g.y_fits, (g.z_fits, tt))) s)

pub equal_point : (p q : Point3D) → p ≡ q → T (same_point p q)
equal_point p q e = equal_same (coordinates_of p) (coordinates_of q) (ap coordinates_of e)

-- ---- all numbers of a point

-- those of a lent list
pub row_fits : (l : List Float) → Binary64 l → (i : ℕ) → width * (i + 1) ≤ length l → AllFit (numbers_of (row_of l i))
row_fits l b i h = rw (row_there l i h) (b _, (b _, (b _, (b _, (b _, (b _, (b _, tt)))))))

pub row_equal : (p q : Row) → AllFit (numbers_of p) → AllFit (numbers_of q) → T (same_row p q) → p ≡ q
row_equal p q f g s = ap (λ (l : List Float). row_from l 0) (same_equal (numbers_of p) (numbers_of q) f g s)

pub equal_row : (p q : Row) → p ≡ q → T (same_row p q)
equal_row p q e = equal_same (numbers_of p) (numbers_of q) (ap numbers_of e)

-- ---- every coordinate worked out is a sum, and so binary64

pub fresh_fits : (s : Surface) (u v : Float) → PointFits (eval_point s u v)
unfolding eval_point point_at_of add_vector_of scale_of
fresh_fits s u v = record { x_fits = add-fits binary64 _ _; y_fits = add-fits binary64 _ _; z_fits = add-fits binary64 _ _ }
