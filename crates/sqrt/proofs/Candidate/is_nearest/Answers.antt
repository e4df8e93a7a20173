-- The two differences do not wrap where the test passes, and together they are that of the squares.
use Rattle.std.proofs.Common.{◌≡◌, ℕ, ◌+◌, ◌-◌, ◌*◌, ◌/◌, ◌%◌, ◌^◌, ◌<◌, ◌≤◌, le_of_lt, mul-le-mul, arith, ltb-true}
use Rattle.sqrt.specs.Nearest.{Nearest}
use Rattle.sqrt.proofs.Candidate.is_nearest.Goals as goal

-- a - b, modulo 2 ^ 64
abbrev less : ℕ → ℕ → ℕ
less a b = (a + (2 ^ 64 - b)) % 2 ^ 64

-- where it and b together are below 2 ^ 64 it did not wrap
unwrapped : (a b : ℕ) → a < 2 ^ 64 → b ≤ 2 ^ 64 → less a b + b < 2 ^ 64 → less a b + b ≡ a
unwrapped a b h k l = omega arith

-- a is 4 * h * h + d, so the number a * 2 ^ 52 is the candidate's square and (w + 1 - h) * 2 ^ 27 more, less the part of l * l that was cut off
tested : (a h l d w : ℕ) → d + 4 * h * h ≡ a → w + (2 * h * l + l * l / 2 ^ 27 + 1) ≡ d * 2 ^ 25 + h
    → w < 2 * h + (l + l * l % 2 ^ 27) / 2 ^ 27 → Nearest (a * 2 ^ 52) (h * 2 ^ 27 + l)
tested a h l d w e f g = record { low = omega arith; high = omega arith }

pub returns : goal.returns
returns c e =
    let s = c.args.self in
    let h = s.high in
    let l = s.low in
    let hh : h * h ≤ 2 ^ 27 * 2 ^ 27 = mul-le-mul (le_of_lt s.high_in) (le_of_lt s.high_in) in
    let hl : h * l ≤ 2 ^ 27 * 2 ^ 28 = mul-le-mul (le_of_lt s.high_in) (le_of_lt s.low_in) in
    let ll : l * l ≤ 2 ^ 28 * 2 ^ 28 = mul-le-mul (le_of_lt s.low_in) (le_of_lt s.low_in) in
    let u = 2 * h * l + l * l / 2 ^ 27 + 1 in
    let d = less c.args.a (4 * h * h) in
    let w = less (d * 2 ^ 25 + h) u in
    let f : d < 2 ^ 38 = c.if-rest.false in
    let g : w < 2 * h + (l + l * l % 2 ^ 27) / 2 ^ 27 = ltb-true w (2 * h + (l + l * l % 2 ^ 27) / 2 ^ 27) e in
    tested c.args.a h l d w (unwrapped c.args.a (4 * h * h) (omega arith) (omega arith) (omega arith))
    (unwrapped (d * 2 ^ 25 + h) u (omega arith) (omega arith) (omega arith)) g
