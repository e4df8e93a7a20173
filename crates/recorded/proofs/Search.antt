-- A search over the items of a list with their places is a search over the places.
use Rattle.std.proofs.Common.{◌≡◌, refl, ◌∙◌, ℕ, zero, suc, ◌+◌, ◌<◌, Bool, ◌||◌, List, length, get_or, drop, arith, add-one, drop-cons}
use Rattle.std.proofs.Math.Seq.{drop-length}
use Rattle.std.specs.List.{list_any, enumerate_from}
use Rattle.loops.specs.Any.{any_in}
use Rattle.loops.proofs.Any.{any_again, any_leave, any_done, cases}

module _ {X : Type 0} (d : X) (p : ℕ × X → Bool) (t : List X) where
  from_place : (m k : ℕ) → k + m ≡ length t → list_any p (enumerate_from k (drop k t)) ≡ any_in (λ i. p (i, get_or t i d)) k (length t)
  from_place zero k e =
      let z : k ≡ length t = omega arith in
      rw (z, drop-length t) (any_done (λ i. p (i, get_or t i d)) (length t) (length t) (omega arith) refl)
  from_place (suc m) k e =
      let h : k < length t = omega arith in
      let test : ℕ → Bool = λ i. p (i, get_or t i d) in
      let s : list_any p (enumerate_from k (drop k t)) ≡ (test k || list_any p (enumerate_from (k + 1) (drop (k + 1) t))) = rw (drop-cons t k d, add-one k) in
      cases (test k)
      (λ y. s ∙ rw y (any_leave test k (length t) h y refl))
      (λ n. s ∙ rw n (from_place m (k + 1) (let f : (k + 1) + m ≡ length t = omega arith in f) ∙ any_again test k (length t) h n refl))

  pub any_over : list_any p (enumerate_from 0 t) ≡ any_in (λ i. p (i, get_or t i d)) 0 (length t)
  any_over = from_place (length t) 0 (omega arith)
