use borrow.Author.Tests.{ne_eqb}
use Rattle.arctangent.specs.Arctangent.{atan2_of}
use Rattle.arctangent.proofs.atan2.Goals as goal

pub returns-then-is_nan : goal.returns-then-is_nan
unfolding atan2_of
returns-then-is_nan c = rw (← c.is_nan.ensures.value, c.if-is_nan.true)

pub returns-then-is_nan-2 : goal.returns-then-is_nan-2
unfolding atan2_of
returns-then-is_nan-2 c = rw (← c.is_nan.ensures.value, ← c.is_nan-2.ensures.value, c.if-is_nan.false, c.if-is_nan-2.true)

pub returns-then-to_bits-eq4607182418800017408 : goal.returns-then-to_bits-eq4607182418800017408
unfolding atan2_of
returns-then-to_bits-eq4607182418800017408 c =
    rw (
      c.atan.ensures,
      ← c.is_nan.ensures.value,
      ← c.is_nan-2.ensures.value,
      c.if-is_nan.false,
      c.if-is_nan-2.false,
      ← c.to_bits.ensures,
      c.if-to_bits-eq4607182418800017408.true,
    )

pub returns : goal.returns
unfolding atan2_of
returns c =
    rw (
      c.angle.ensures,
      ← c.is_nan.ensures.value,
      ← c.is_nan-2.ensures.value,
      c.if-is_nan.false,
      c.if-is_nan-2.false,
      ← c.to_bits.ensures,
      ne_eqb _ _ c.if-to_bits-eq4607182418800017408.false,
    )
