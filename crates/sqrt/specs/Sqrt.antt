-- IEEE 754's squareRoot at binary64, worked out; what it is says `IsSquareRoot`. A number is a whole multiple of 2 ^ -1074, here called a unit.
-- Definitions only.
use Rattle.std.specs.Prelude.{◌≡◌, ℕ, zero, suc, ◌+◌, ◌-◌, ◌*◌, ◌/◌, ◌^◌, true, false, cond, nat_le, Float}
use Prim.Native.Nat.{compare}
use Rattle.std.specs.Float.{nan, inf, fin, binary64}
use Rattle.std.specs.Float.Ieee.{size, nearest, units}
use Rattle.number.specs.Units.{units_in_one, mag}
use Rattle.sqrt.specs.SquareRoot.{IsSquareRoot}

-- the largest whole number whose square is at most n, for an n below 4 ^ d: one binary digit at a time
unfoldable pub root_in : ℕ → ℕ → ℕ
root_in zero n = 0
root_in (suc d) n = let r = 2 * root_in d (n / 4) in cond (nat_le ((r + 1) * (r + 1)) n) (r + 1) r

-- the largest whole number whose square is at most n (`size n` is how many binary digits n has)
unfoldable pub floor_root : ℕ → ℕ
unfolding root_in size
floor_root n = root_in (suc (size n) / 2) n

-- the number nearest to the root of n, that many units: "rounded to nearest, ties to even". Of the digits of the root's whole part w the format keeps
-- the 53 leading ones, q, and drops k. The root is compared with the middle between q and q + 1, both doubled and squared.
unfoldable pub round_root : ℕ → Float
unfolding floor_root size units
round_root n =
    let w = floor_root n in
    let k = size w - 53 in
    let q = w / 2 ^ k in
    units binary64 false (nearest q (compare (4 * n) ((2 * q + 1) * (2 * q + 1) * (2 ^ k * 2 ^ k)))) k

-- "that of negative zero is negative zero, of any other negative NaN"; of infinity it is infinity, of a number of a units the root of a * unit, in units
unfoldable pub sqrt_of : Float → Float
unfolding round_root
sqrt_of nan = nan
sqrt_of (inf true) = nan
sqrt_of (inf false) = inf false
sqrt_of (fin s zero e) = fin s zero e
sqrt_of (fin true (suc m) e) = nan
sqrt_of (fin false (suc m) e) = round_root (mag (fin false (suc m) e) * units_in_one)

-- what `sqrt` gives at x: the definition's number, and that number is the square root of x
pub record SqrtGives (x r : Float) : Type 0 where
  pub answer : r ≡ sqrt_of x
  pub root : IsSquareRoot x r
