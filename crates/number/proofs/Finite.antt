-- A finite result comes of finite operands.
use mathlib.Core.Bool.{Bool, true, false, beq, cond}
use lib.Dec.{T, eqb}
use lib.Ieee.{Float, nan, inf, fin, binary64, unlike, neg, add, sub, mul}
use lib.Ieee.Scale.{finite}

pub add_finite : (x y : Float) → T (finite (add binary64 x y)) → T (finite x) × T (finite y)
unfolding add
add_finite nan y h = absurd h
add_finite (inf s) nan h = absurd h
add_finite (inf s) (inf t) h = absurd (no (beq s t) h)
  where
    no : (b : Bool) → T (finite (cond b (inf s) nan)) → ⊥
    no true h = h
    no false h = h
add_finite (inf s) (fin t n d) h = absurd h
add_finite (fin s m e) nan h = absurd h
add_finite (fin s m e) (inf t) h = absurd h
add_finite (fin s m e) (fin t n d) h = (tt, tt)

pub neg_finite : (x : Float) → T (finite (neg x)) → T (finite x)
unfolding neg
neg_finite nan h = h
neg_finite (inf s) h = h
neg_finite (fin s m e) h = tt

pub sub_finite : (x y : Float) → T (finite (sub binary64 x y)) → T (finite x) × T (finite y)
unfolding sub
sub_finite x y h = let a = add_finite x (neg y) h in (a.0, neg_finite y a.1)

-- an infinity times a number
no_product : (b s : Bool) → T (finite (cond b nan (inf s))) → ⊥
no_product true s h = h
no_product false s h = h

pub mul_finite : (x y : Float) → T (finite (mul binary64 x y)) → T (finite x) × T (finite y)
unfolding mul
mul_finite nan y h = absurd h
mul_finite (inf s) nan h = absurd h
mul_finite (inf s) (inf t) h = absurd h
mul_finite (inf s) (fin t n d) h = absurd (no_product (eqb n 0) (unlike s t) h)
mul_finite (fin s m e) nan h = absurd h
mul_finite (fin s m e) (inf t) h = absurd (no_product (eqb m 0) (unlike s t) h)
mul_finite (fin s m e) (fin t n d) h = (tt, tt)
