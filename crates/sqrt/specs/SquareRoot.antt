-- What the square root of a binary64 number is, whatever way it is worked out: IEEE 754's squareRoot (5.4.1), over whole numbers.
-- A finite number x is mag x units of 2 ^ -1074, and `unit` of them make 1: its exact root, in units, is the root of mag x * unit.
-- Definitions only.
use Rattle.std.specs.Prelude.{◌≡◌, ℕ, ◌+◌, ◌*◌, ◌<◌, true, false, T, Float}
use Rattle.std.specs.Float.{nan, inf, binary64}
use Rattle.std.specs.Float.Ieee.{fits}
use Rattle.std.specs.Float.Ieee.Scale.{finite}
use Rattle.number.specs.Units.{units_in_one, mag, neg?}

-- c is farther from the root of n than g is: the root lies below the middle of g and a c above it, and above the middle of g and a c
-- below it. Doubled and squared, the root is 4 * n and the middle (g + c) ^ 2
abbrev pub Farther : ℕ → ℕ → ℕ → Type 0
Farther n g c = (g < c → 4 * n < (g + c) * (g + c)) × (c < g → (g + c) * (g + c) < 4 * n)

-- a finite binary64 number of at least 0
pub record AtLeastZero (y : Float) : Type 0 where
  pub held : T (fits binary64 y)
  pub is_finite : T (finite y)
  pub sign : neg? y ≡ false

-- r is the binary64 number nearest to the root of n, in units: "rounded to nearest, ties to even". Every other one is farther, none as
-- near, so that there is no tie (a number below 0 is farther than 0 is)
pub record NearestRoot (n : ℕ) (r : Float) : Type 0 where
  pub at_least : AtLeastZero r
  pub above : 0 < mag r
  pub farther : (y : Float) → AtLeastZero y → Farther n (mag r) (mag y)

-- a finite number above 0
abbrev pub AboveZero : Float → Type 0
AboveZero x = T (finite x) × (neg? x ≡ false) × (0 < mag x)

-- 0 of either sign
abbrev pub Zero : Float → Type 0
Zero x = T (finite x) × (mag x ≡ 0)

-- r is the square root of x, a binary64 number of any kind
pub record IsSquareRoot (x r : Float) : Type 0 where
  -- "rounded to nearest, ties to even"
  pub nearest : AboveZero x → NearestRoot (mag x * units_in_one) r
  -- "that of negative zero is negative zero", and of positive zero positive zero
  pub zeros : Zero x → r ≡ x
  -- "of any other negative NaN": of negative infinity too
  pub other_negative : neg? x ≡ true → (Zero x → ⊥) → r ≡ nan
  -- of positive infinity positive infinity
  pub infinite : x ≡ inf false → r ≡ inf false
  -- of NaN NaN
  pub no_number : x ≡ nan → r ≡ nan
