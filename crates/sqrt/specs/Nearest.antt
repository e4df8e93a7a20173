-- What the inner functions of the square root give. Definitions only.
use Rattle.std.specs.Prelude.{◌≡◌, ℕ, zero, suc, ◌+◌, ◌*◌, ◌^◌, ◌<◌, ◌≤◌}

-- g is nearest to the root of n: n lies between the squares of g - 1/2 and of g + 1/2, which are g * g - g and g * g + g and a quarter more
pub record Nearest (n g : ℕ) : Type 0 where
  pub low : g * g < n + g
  pub high : n ≤ g * g + g

-- w is one binary digit longer than q, and s what is left, where q * q + r goes on with two more digits
pub record IsDigit (q r two w s : ℕ) : Type 0 where
  pub is : w * w + s ≡ (q * q + r) * 4 + two
  pub longer : w < 2 * q + 2

-- how many units a finite number has, by its exponent field and its fraction field
unfoldable pub units_of : ℕ → ℕ → ℕ
units_of zero t = t
units_of (suc e) t = (2 ^ 52 + t) * 2 ^ e
