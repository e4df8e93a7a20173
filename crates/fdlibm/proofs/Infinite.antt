-- Of an infinite angle and of a NaN sine and cosine are NaN: where they are finite, so is the angle.
use mathlib.Core.Path.{◌≡◌, subst}
use lib.Dec.{T}
use lib.Ieee.{Float, nan, inf, fin}
use lib.Ieee.Scale.{finite}
use Rattle.fdlibm.specs.Sine.{sin_of, cos_of}
use Rattle.fdlibm.proofs.Laws.{sin_infinite, cos_infinite, sin_nan, cos_nan}

no_nan : {x : Float} → x ≡ nan → T (finite x) → ⊥
no_nan e h = subst (λ (y : Float). T (finite y)) e h

pub sin_finite : (x : Float) → T (finite (sin_of x)) → T (finite x)
sin_finite nan h = no_nan sin_nan h
sin_finite (inf s) h = no_nan (sin_infinite s) h
sin_finite (fin s m e) h = tt

pub cos_finite : (x : Float) → T (finite (cos_of x)) → T (finite x)
cos_finite nan h = no_nan cos_nan h
cos_finite (inf s) h = no_nan (cos_infinite s) h
cos_finite (fin s m e) h = tt
