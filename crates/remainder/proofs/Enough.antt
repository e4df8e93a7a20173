-- A pass that leaves no fraction leaves digits enough, or asks for terms up to the seventh after the first at most: with seven it never asks for more.
use mathlib.Core.Path.{◌≡◌, subst}
use mathlib.Core.List.{List}
use mathlib.Core.Logic.{◌⊎◌, ⊎_elim}
use Prim.Native.Nat.{ℕ, suc, ◌+◌, ◌-◌, ◌*◌, ◌%◌, ◌^◌, ◌≤◌}
use native.Mathlib.Nat.{le_trans}
use native.Mathlib.Omega.{arith}
use lib.Pow.{pow_mono}
use Rattle.std.specs.Prelude.{Some}
use Rattle.remainder.specs.Kernel.{joined_of, needed_of}
use Rattle.remainder.proofs.Far.{jv, raised_q0}
use Rattle.remainder.proofs.Weighing.{Digits, value_of, sum_of_terms, joined_value, needed_within}
use Rattle.remainder.proofs.Distance.{Parts, term_at, one_at, gap_at, terms_apart}

-- what a pass leaves, a remainder t or what is missing from it to w, is at least l
left_over : (v t w l : ℕ) → (l ≤ t) × (t + l ≤ w) → (v ≡ t) ⊎ (v + t ≡ w) → l ≤ v
left_over v t w l h o = ⊎_elim (λ e. omega (arith, h, e)) (λ e. omega (arith, h, e)) o

-- For an angle of exponent field e, in its pieces: the digits iq are what a pass over the terms 0 to jz leaves.
pub enough : (e : ℕ) → 1043 ≤ e → e ≤ 2046 → {m X0 X1 X2 : ℕ} → Parts m X0 X1 X2 → (jz : ℕ) → 4 ≤ jz → jz ≤ 7 → (iq : List ℕ) → Digits iq jz
    → (let t = sum_of_terms (term_at (jv e) X0 X1 X2) (suc jz) % one_at e jz in (value_of iq jz ≡ t) ⊎ (value_of iq jz + t ≡ one_at e jz))
    → joined_of iq jz ≡ 0 → (k : ℕ) × (needed_of iq ≡ Some k) × (1 ≤ k) × (jz + k ≤ 7)
enough e h l {X0 = X0} {X1 = X1} {X2 = X2} p jz j0 j1 iq d o z =
    let t = sum_of_terms (term_at (jv e) X0 X1 X2) (suc jz) % one_at e jz in
    let g : gap_at e jz ≤ value_of iq jz = left_over (value_of iq jz) t (one_at e jz) (gap_at e jz) (terms_apart e h l p jz j0 j1) o in
    let b : 2 ^ (24 * (jz - 3)) ≤ gap_at e jz = pow_mono {i = 24 * (jz - 3)} {j = 24 * jz + 960 - raised_q0 e} (omega arith) in
    let q : 2 ^ (24 * (jz - 3)) ≤ value_of iq 4 = subst (λ (x : ℕ). 2 ^ (24 * (jz - 3)) ≤ x) (joined_value iq jz j0 z) (le_trans b g) in
    let r = needed_within iq (jz - 3) (λ i l. d i (omega arith)) q in
    (r.0, r.1, r.2, omega (arith, r.3))
