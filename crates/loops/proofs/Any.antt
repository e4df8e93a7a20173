-- The laws of a search: its iterations, and that it finds exactly what there is.
use mathlib.Core.Path.{◌≡◌, refl, sym, ◌∙◌}
use mathlib.Core.Bool.{Bool, true, false}
use Prim.Native.Nat.{ℕ, zero, suc, ◌+◌, ◌-◌, ◌≤◌, ◌<◌}
use native.Mathlib.Omega.{arith}
use Rattle.loops.specs.Any.{stop_at, not_found, any_in}
use Rattle.loops.proofs.Loop.{searched_again, searched_leave, searched_done}

module _ (test : ℕ → Bool) (a b : ℕ) where
  -- an iteration whose test fails, one whose test holds, and the end
  pub any_again : {u : Bool} → a < b → test a ≡ false → any_in test a b ≡ u → any_in test (a + 1) b ≡ u
  any_again h e i = searched_again (stop_at test) not_found a b h (rw e) i

  pub any_leave : {u : Bool} → a < b → test a ≡ true → any_in test a b ≡ u → true ≡ u
  any_leave h e i = searched_leave (stop_at test) not_found a b {s = tt} h (rw e) i

  pub any_done : {u : Bool} → b ≤ a → any_in test a b ≡ u → false ≡ u
  any_done h i = searched_done (stop_at test) not_found a b {s = tt} h i

-- by cases of a test
pub cases : {P : Type 0} (t : Bool) → (t ≡ true → P) → (t ≡ false → P) → P
cases true f g = f refl
cases false f g = g refl

-- where the search says yes, the test holds at an index of the range
pub any_found : (test : ℕ → Bool) (a b : ℕ) → any_in test a b ≡ true → (i : ℕ) × (a ≤ i) × (i < b) × (test i ≡ true)
any_found test a b = go (b - a) a refl
  where
    go : (k a : ℕ) → b - a ≡ k → any_in test a b ≡ true → (i : ℕ) × (a ≤ i) × (i < b) × (test i ≡ true)
    go zero a e y =
        let no : ◌≡◌ {A = Bool} false true = any_done test a b (omega arith) y in
        let z : ◌≡◌ {A = ℕ} 0 1 = cc in
        absurd (omega arith)
    go (suc k) a e y =
        cases (test a) (λ h. (a, omega arith, omega arith, h))
        (λ h.
        let r = go k (a + 1) (omega arith) (any_again test a b (omega arith) h y) in
        (r.0, omega (arith, r.1), r.2, r.3))

-- and where the test holds at an index of the range, the search says yes
pub any_at : (test : ℕ → Bool) (a b i : ℕ) → a ≤ i → i < b → test i ≡ true → any_in test a b ≡ true
any_at test a b i = go (b - a) a refl
  where
    go : (k a : ℕ) → b - a ≡ k → a ≤ i → i < b → test i ≡ true → any_in test a b ≡ true
    go zero a e h l y = absurd (omega arith)
    go (suc k) a e h l y =
        cases (test a) (λ t. sym (any_leave test a b (omega arith) t refl))
        (λ t.
        let apart : (a ≡ i → ⊥) = λ q. (let z : ◌≡◌ {A = ℕ} 0 1 = cc in omega arith) in
        sym (any_again test a b (omega arith) t refl) ∙ go k (a + 1) (omega arith) (omega arith) l y)

pub unlike : {t : Bool} → t ≡ true → t ≡ false → ⊥
unlike p q = let z : ◌≡◌ {A = ℕ} 0 1 = cc in omega arith

-- it says no exactly when the test fails all along
pub any_fails : (test : ℕ → Bool) (a b : ℕ) → any_in test a b ≡ false → (i : ℕ) → a ≤ i → i < b → test i ≡ false
any_fails test a b n i l h = cases (test i) (λ e. absurd (unlike (any_at test a b i l h e) n)) (λ e. e)

pub any_none : (test : ℕ → Bool) (a b : ℕ) → ((i : ℕ) → a ≤ i → i < b → test i ≡ false) → any_in test a b ≡ false
any_none test a b f =
    cases (any_in test a b) (λ e. let r = any_found test a b e in absurd (unlike r.3 (f r.0 r.1 r.2))) (λ e. e)
