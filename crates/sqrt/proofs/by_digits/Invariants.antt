-- The invariant: the digits found and those left make up the number, before each iteration.
use Rattle.std.proofs.Common.{◌≡◌, ℕ, ◌+◌, ◌-◌, ◌*◌, ◌^◌, ◌<◌, ◌≤◌}
use Rattle.sqrt.proofs.by_digits.Given as goal

-- N are the number's first digits and x the next ones, as a fraction of 2 ^ 64; k pairs of digits are left
abbrev pub Left : ℕ → ℕ → ℕ → ℕ → Type 0
Left a N x k = (N * 2 ^ 64 + x) * 4 ^ k ≡ a * 2 ^ 10 * 4 ^ 53

abbrev pub invariant-loop : goal.invariant-loop
invariant-loop l =
    let q = l.found.0 in
    let r = l.found.1.0 in
    Left l.a (q * q + r) l.x (53 - l.counter) × (r ≤ 2 * q) × (q < 2 ^ l.counter) × (l.x < 2 ^ 64) × (l.counter ≤ 53)
