-- A finite number as a whole multiple of 2 ^ -1074 ("Exact claims are over whole numbers"). Definitions only.
use Rattle.std.specs.Prelude.{ℕ, ◌*◌, ◌/◌, ◌^◌, Bool, false, cond, ℤ, pos, neg_ℤ, Float}
use Rattle.std.specs.Float.{nan, inf, fin}
use Rattle.std.specs.Float.Ieee.{up, down}

-- how many times 2 ^ -1074 goes into 1
abbrev pub units_in_one : ℕ
units_in_one = 2 ^ 1074

-- the magnitude of m * 2 ^ e in units of 2 ^ -1074: m * (up e / down e) * unit, exact for every finite binary64 (and the whole units below any other)
abbrev pub mag : Float → ℕ
mag nan = 0
mag (inf s) = 0
mag (fin s m e) = m * up e * units_in_one / down e

-- whether the sign bit is set (a NaN has none here)
abbrev pub neg? : Float → Bool
neg? nan = false
neg? (inf s) = s
neg? (fin s m e) = s

-- ±a
abbrev pub signed : Bool → ℕ → ℤ
signed s a = cond s (neg_ℤ (pos a)) (pos a)

-- the number itself, in units: 0 for a NaN and an infinity, of which no exact claim is made
abbrev pub in_units : Float → ℤ
in_units x = signed (neg? x) (mag x)
