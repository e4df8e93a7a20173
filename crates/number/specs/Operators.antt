-- The operations of IEEE 754's binary64, each rounded once, under the usual signs of rounded arithmetic. Definitions only.
use Rattle.std.specs.Prelude.{ℕ, Bool, Float}
use Rattle.std.specs.Float.Ieee as Ieee
use Rattle.std.specs.Float.{binary64}

infixl 65 ◌⊕◌ ◌⊖◌
infixl 70 ◌⊗◌ ◌⊘◌
infix 50 ◌<?◌ ◌≤?◌ ◌==?◌
-- x + y of the Rust (01, "Every operation rounds once")
abbrev pub ◌⊕◌ : Float → Float → Float
x ⊕ y = Ieee.add binary64 x y

-- x - y
abbrev pub ◌⊖◌ : Float → Float → Float
x ⊖ y = Ieee.sub binary64 x y

-- x * y
abbrev pub ◌⊗◌ : Float → Float → Float
x ⊗ y = Ieee.mul binary64 x y

-- x / y
abbrev pub ◌⊘◌ : Float → Float → Float
x ⊘ y = Ieee.div binary64 x y

-- x < y of the Rust: false where one is a NaN
abbrev pub ◌<?◌ : Float → Float → Bool
x <? y = Ieee.lt x y

-- x <= y: false where one is a NaN, and -0 is at most and at least +0
abbrev pub ◌≤?◌ : Float → Float → Bool
x ≤? y = Ieee.le x y

-- x == y: likewise, -0 equals +0
abbrev pub ◌==?◌ : Float → Float → Bool
x ==? y = Ieee.eq x y

-- the number with these bits: how a constant is written
abbrev pub bits : ℕ → Float
bits b = Ieee.of_bits binary64 b
