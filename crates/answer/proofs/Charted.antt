-- The definitions of the line at values that can be read off: `trace 5 2 0`, `trace 4001 2000 1`, `refused 19`. By evaluation.
use mathlib.Core.Path.{◌≡◌, refl}
use mathlib.Core.List.{[], ◌∷◌}
use Rattle.answer.specs.Line.{spell, decimal_of, trace_line, refused_line}

pub open_line : trace_line 5 2 0 ≡ 116 ∷ 114 ∷ 97 ∷ 99 ∷ 101 ∷ 32 ∷ 53 ∷ 32 ∷ 50 ∷ 32 ∷ 48 ∷ 10 ∷ []
unfolding trace_line decimal_of spell
open_line = refl

pub closed_line : trace_line 4001 2000 1 ≡ 116 ∷ 114 ∷ 97 ∷ 99 ∷ 101 ∷ 32 ∷ 52 ∷ 48 ∷ 48 ∷ 49 ∷ 32 ∷ 50 ∷ 48 ∷ 48 ∷ 48 ∷ 32 ∷ 49 ∷ 10 ∷ []
unfolding trace_line decimal_of spell
closed_line = refl

pub refused_line_lem : refused_line 19 ≡ 114 ∷ 101 ∷ 102 ∷ 117 ∷ 115 ∷ 101 ∷ 100 ∷ 32 ∷ 49 ∷ 57 ∷ 10 ∷ []
unfolding refused_line decimal_of spell
refused_line_lem = refl

-- the greatest number of 64 bits has all twenty digits
pub greatest : decimal_of 18446744073709551615 ≡ 49 ∷ 56 ∷ 52 ∷ 52 ∷ 54 ∷ 55 ∷ 52 ∷ 52 ∷ 48 ∷ 55 ∷ 51 ∷ 55 ∷ 48 ∷ 57 ∷ 53 ∷ 53 ∷ 49 ∷ 54 ∷ 49 ∷ 53 ∷ []
unfolding decimal_of spell
greatest = refl
