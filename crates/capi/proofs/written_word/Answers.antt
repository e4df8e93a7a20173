use native.Mathlib.Omega.{arith}
use Rattle.capi.specs.File.{written_word}
use Rattle.capi.proofs.Files.{bytes_small}
use Rattle.capi.proofs.written_word.Goals as goal

pub overflow_mul-result : goal.overflow_mul-result
overflow_mul-result c = let h = bytes_small c.in-Ok.is c.requires in omega (arith, h)

pub returns-in-Ok : goal.returns-in-Ok
unfolding written_word
returns-in-Ok c = rw c.in-Ok.is (omega arith)

pub returns-in-Err : goal.returns-in-Err
unfolding written_word
returns-in-Err c = rw (c.in-Err.is, ← c.number.ensures) (omega arith)
