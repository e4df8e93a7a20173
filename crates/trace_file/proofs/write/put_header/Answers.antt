use mathlib.Core.Path.{ap, ◌∙◌}
use Prim.Native.Nat.{ℕ}
use native.Mathlib.Omega.{arith}
use lib.ListN.{set, length-set}
use Rattle.wire.specs.Wire.{one_byte, uint_bytes}
use Rattle.wire.proofs.Laws.{byte_put}
use Rattle.loops.specs.Over.{over}
use Rattle.groups.specs.Traced.{code_of}
use Rattle.trace_file.proofs.Header.{header_put}
use Rattle.trace_file.proofs.write.put_header.Goals as goal

pub returns : goal.returns
returns c =
    let file = c.args.file.now in
    let format = c.args.format in
    let head = c.args.head in
    let a = c.put_uint.new.bytes in
    let b = set a 4 format.version in
    let d = c.put_uint-2.new.bytes in
    let e = c.put_uint-3.new.bytes in
    header_put file format.version format.width head.count head.start (code_of head.closing) c.requires
    (c.put_uint.ensures ∙ ap (λ (x : ℕ). over file 0 (uint_bytes 4 x)) (c.from.ensures ∙ c.following.ensures))
    (byte_put a 4 format.version (omega arith))
    (c.put_uint-2.ensures ∙ ap (λ (x : ℕ). over b 5 (uint_bytes 2 x)) c.from-2.ensures)
    (c.put_uint-3.ensures ∙ ap (λ (x : ℕ). over d 7 (uint_bytes 2 x)) c.from-3.ensures)
    (byte_put e 9 c.code.result (omega (arith, length-set a 4 format.version)) ∙ ap (λ (x : ℕ). over e 9 (one_byte x)) c.code.ensures)
