-- The digits and the halved exponent are the bits of the root.
use Rattle.std.proofs.Common.{ℕ, ◌*◌, ◌/◌, ◌%◌, ◌^◌, ◌<◌, ◌≤◌, sym, ap, ◌∙◌, arith}
use Rattle.std.proofs.lemmas.Float.{not_nan_f64_bits}
use Rattle.sqrt.specs.Sqrt.{round_root}
use Rattle.sqrt.proofs.Rounded.{rounded, digits_lo, digits_hi}
use Rattle.sqrt.proofs.Pattern.{bits_units}
use Rattle.sqrt.proofs.Scale.{split, doubled, in_range}
use Rattle.sqrt.proofs.Significand.root.Goals as goal
use Rattle.sqrt.proofs.Significand.root.Goals.{After-nearest}

module _ (c : After-nearest) where
  abbrev m : ℕ
  m = c.args.self.m

  abbrev g : ℕ
  g = c.args.self.g

  abbrev M : ℕ
  M = m * 2 ^ (g % 2) * 2 ^ 52

  abbrev q : ℕ
  q = c.nearest.result

  range : (2 ^ 104 ≤ M) × (M < 2 ^ 106)
  range = in_range (m * 2 ^ (g % 2)) (doubled m (g % 2) c.args.self.leading c.args.self.digits (omega arith))

  half_le : g / 2 ≤ 1533
  half_le = omega arith

  q_lo : 2 ^ 52 ≤ q
  q_lo = digits_lo M (g / 2) q range.0 range.1 c.nearest.ensures

  q_hi : q ≤ 2 ^ 53
  q_hi = digits_hi M (g / 2) q range.0 range.1 c.nearest.ensures

pub float_from_bits-result : goal.float_from_bits-result
float_from_bits-result c = not_nan_f64_bits _ (omega (arith, half_le c, q_hi c))

pub returns : goal.returns
returns c = bits_units (q c) (g c / 2) (q_lo c) (q_hi c) (half_le c) ∙ sym (ap round_root (split (m c) (g c)) ∙ rounded (M c) (g c / 2) (q c) (range c).0 (range c).1 c.nearest.ensures)
