-- The candidate where the test passes it, else the digits one by one.
use Rattle.std.proofs.Common.{◌≡◌, ℕ, ◌*◌, ◌%◌, ◌^◌, ◌<◌, ◌≤◌, arith, lit≤}
use Rattle.sqrt.proofs.Scale.{doubled, shift_is}
use Rattle.sqrt.proofs.Significand.nearest.Goals as goal
use Rattle.sqrt.proofs.Significand.nearest.Goals.{Start}

module _ (c : Start) where
  abbrev a : ℕ
  a = c.args.self.m * 2 ^ (c.args.self.g % 2)

  in_54 : (2 ^ 52 ≤ a) × (a < 2 ^ 54)
  in_54 = doubled c.args.self.m (c.args.self.g % 2) c.args.self.leading c.args.self.digits (omega arith)

  same : a % 2 ^ 64 ≡ a
  same = shift_is c.args.self.m (c.args.self.g % 2) 54 (lit≤ tt) in_54.1

pub is_nearest-requires : goal.is_nearest-requires
is_nearest-requires c = let d = (goal.at.is_nearest-requires c).Start in omega (arith, same d, in_54 d)

pub by_digits-requires : goal.by_digits-requires
by_digits-requires c = let d = (goal.at.by_digits-requires c).Start in (omega (arith, same d, in_54 d), omega (arith, same d, in_54 d))
