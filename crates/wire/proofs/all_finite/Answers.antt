use mathlib.Core.Path.{ap, ◌∙◌}
use mathlib.Core.List.{List, map}
use Prim.Native.Nat.{ℕ, ◌-◌, ◌/◌}
use native.Mathlib.Omega.{arith}
use lib.Ieee.Scale.{finite}
use lib.ListN.{length, drop, length-drop}
use Rattle.std.specs.List.{list_all}
use Rattle.std.specs.Simd.{first_chunks}
use Rattle.std.proofs.Common.{rules}
use Rattle.std.proofs.lemmas.Iterator.{YieldsList-from_slice, YieldsList-from_map}
use Rattle.std.proofs.lemmas.Iterator.Consumers.{YieldsList-at}
use Rattle.std.proofs.lemmas.Iterator.Search.{all_from_yields_List}
use Rattle.std.proofs.lemmas.List.{take_all}
use Rattle.wire.specs.Wire.{number_at}
use Rattle.wire.proofs.Several.{numbers_chunked}
use Rattle.wire.proofs.all_finite.Goals as goal

pub returns : goal.returns
returns c =
    let s = c.args.bytes.now in
    let at = c.args.at in
    let size = length-drop at s in
    let f = λ (b : List ℕ). number_at b 0 in
    let a =
    all_from_yields_List finite _ _ _ c.all.ensures.ran
    (YieldsList-from_map _ f (YieldsList-at c.map.ensures.source (YieldsList-from_slice c.as_chunks.result.0.now c.iter.ensures.rest)) c.map.ensures.closure (λ x r q k. search rules))
    (λ x b q k. search rules) in
    a
    ∙ ap (λ (g : List (List ℕ)). list_all finite (map f g)) c.as_chunks.ensures.front
    ∙ ap (λ (t : List ℕ). list_all finite (map f (first_chunks 8 (length t / 8) t))) (take_all (length s - at) (drop at s) (omega (arith, size)))
    ∙ ap (λ (n : ℕ). list_all finite (map f (first_chunks 8 (n / 8) (drop at s)))) size
    ∙ ap (list_all finite) (numbers_chunked s at ((length s - at) / 8))
