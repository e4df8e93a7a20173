-- The file's head, written and read.
use mathlib.Core.Path.{◌≡◌, refl, sym, ap, ◌∙◌}
use mathlib.Core.List.{List, ◌++◌}
use Prim.Native.Nat.{ℕ, ◌*◌, ◌≤◌}
use native.Mathlib.Omega.{arith}
use lib.Ieee.{Float}
use lib.ListN.{length, take, drop, length-append}
use lib.Seq.{length-take-le, take-add}
use Rattle.loops.specs.Over.{over, written}
use Rattle.loops.proofs.Over.{over_next, over_front, written_over}
use Rattle.wire.specs.Wire.{byte_at, uint_at, one_byte, uint_bytes, numbers_bytes, AllBytes}
use Rattle.wire.proofs.Laws.{uint_length, byte_back, uint_back, byte_again, uint_again}
use Rattle.trace_file.specs.Layout.{version_place, numbers_place, file_bytes, following}
use Rattle.trace_file.specs.File.{header_of, file_of, count_in, start_in, code_in}
use Rattle.wire.proofs.Several.{numbers_length}

pub header_length : (version w count start code : ℕ) → length (header_of version w count start code) ≡ numbers_place
unfolding header_of uint_bytes
header_length version w count start code = refl

-- put down part by part
pub header_put : (l : List ℕ) (version w count start code : ℕ) → numbers_place ≤ length l → {a b c d e : List ℕ} → a ≡ over l 0 (uint_bytes 4 (following w count))
    → b ≡ over a 4 (one_byte version) → c ≡ over b 5 (uint_bytes 2 count) → d ≡ over c 7 (uint_bytes 2 start) → e ≡ over d 9 (one_byte code)
    → e ≡ written (header_of version w count start code) l
unfolding header_of
header_put l version w count start code h p q r s t =
    let four = uint_bytes 4 (following w count) in
    let one = one_byte version in
    let two = uint_bytes 2 count in
    let n4 = uint_length 4 (following w count) in
    let n5 : length (four ++ one) ≡ 5 = length-append four one ∙ omega arith in
    let n2 = uint_length 2 count in
    let n7 : length (four ++ one ++ two) ≡ 7 = length-append (four ++ one) two ∙ omega arith in
    let m2 = uint_length 2 start in
    let n9 : length (four ++ one ++ two ++ uint_bytes 2 start) ≡ 9 = length-append (four ++ one ++ two) (uint_bytes 2 start) ∙ omega arith in
    over_next l 0 9 (four ++ one ++ two ++ uint_bytes 2 start) (one_byte code) n9 (omega arith)
    (over_next l 0 7 (four ++ one ++ two) (uint_bytes 2 start) n7 (omega arith)
    (over_next l 0 5 (four ++ one) two n5 (omega arith) (over_next l 0 4 four one n4 (omega arith) p q) r) s) t
    ∙ over_front l _

-- and the numbers behind it
pub file_put : (s : List ℕ) (version w : ℕ) (l : List Float) (count start code : ℕ) {a b : List ℕ} → a ≡ written (header_of version w count start code) s
    → b ≡ over a numbers_place (numbers_bytes (take (w * count) l)) → b ≡ written (file_of version w l count start code) s
unfolding file_of
file_put s version w l count start code e f =
    let h = header_of version w count start code in
    let n = numbers_bytes (take (w * count) l) in
    f ∙ ap (λ (z : List ℕ). over z numbers_place n) e ∙ ap (λ (k : ℕ). over (written h s) k n) (sym (header_length version w count start code)) ∙ written_over h n s

-- what was written is read
module _ (version w : ℕ) (l : List Float) (count start code : ℕ) where
  abbrev file : List ℕ
  file = file_of version w l count start code

  pub version_back : byte_at file version_place ≡ version
  unfolding file_of header_of uint_bytes
  version_back = byte_back file (drop 5 file) version_place version refl

  pub count_back : count_in file ≡ count
  unfolding file_of header_of uint_bytes
  count_back = uint_back 1 count file (drop 7 file) 5 refl

  pub start_back : start_in file ≡ start
  unfolding file_of header_of uint_bytes
  start_back = uint_back 1 start file (drop 9 file) 7 refl

  pub code_back : code_in file ≡ code
  unfolding file_of header_of uint_bytes
  code_back = byte_back file (drop 10 file) 9 code refl

  pub length_back : uint_at 4 file 0 ≡ following w count
  unfolding file_of header_of uint_bytes
  length_back = uint_back 3 (following w count) file (drop 4 file) 0 refl

  pub behind_header : drop numbers_place file ≡ numbers_bytes (take (w * count) l)
  unfolding file_of header_of uint_bytes
  behind_header = refl

  pub file_length : w * count ≤ length l → length file ≡ file_bytes w count
  unfolding file_of
  file_length h =
      length-append (header_of version w count start code) (numbers_bytes (take (w * count) l))
      ∙ (let a = header_length version w count start code in let b = numbers_length (take (w * count) l) in let c = length-take-le (w * count) l h in omega arith)

-- what was read is written again
pub header_again : (s : List ℕ) (w : ℕ) → AllBytes s → numbers_place ≤ length s → uint_at 4 s 0 ≡ following w (count_in s)
    → header_of (byte_at s version_place) w (count_in s) (start_in s) (code_in s) ≡ take numbers_place s
unfolding header_of
header_again s w d h e =
    rw (
      ← e,
      uint_again 4 s 0 d (omega arith),
      byte_again s 4 (omega arith),
      uint_again 2 s 5 d (omega arith),
      uint_again 2 s 7 d (omega arith),
      byte_again s 9 (omega arith),
      ← take-add 4 1 s,
      ← take-add 5 2 s,
      ← take-add 7 2 s,
      ← take-add 9 1 s,
    )
