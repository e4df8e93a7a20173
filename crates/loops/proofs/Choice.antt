-- The laws of choices: what a way out of nested tests gives, from the facts that it passed.
use Rattle.std.specs.Prelude.{Option, Some, None}
use mathlib.Core.Path.{◌≡◌, refl, sym, ap, subst}
use mathlib.Core.Bool.{Bool, true, false, ◌&&◌}
use lib.Dec.{T}
use Rattle.loops.specs.Loop.{pick}

-- where the test holds, the first part is chosen
pub pick_taken : {A : Type 0} {t : Bool} {r x : A} (y : A) → t ≡ true → r ≡ x → r ≡ pick t x y
pick_taken y e h = rw e h

-- where it fails, the second
pub pick_left : {A : Type 0} {t : Bool} {r y : A} (x : A) → t ≡ false → r ≡ y → r ≡ pick t x y
pick_left x e h = rw e h

-- a conjunction whose first part holds is its second
pub and_taken : {a b r s : Bool} → r ≡ a → r ≡ true → s ≡ b → s ≡ a && b
and_taken p e h = rw (← p, e) h

-- and its first part, where that fails
pub and_left : {a r : Bool} (b : Bool) → r ≡ a → r ≡ false → r ≡ a && b
and_left b p e = rw (← p, e)

-- what both ways of a choice have, the choice has
pub pick_is : {A : Type 0} (P : A → Type 0) (b : Bool) {u v : A} → P u → P v → P (pick b u v)
pick_is P true p q = p
pick_is P false p q = q

abbrev there : {A : Type 0} → Option A → Bool
there None = false
there (Some x) = true

abbrev or : {A : Type 0} → A → Option A → A
or y None = y
or y (Some x) = x

none_some : {A B : Type 0} {x : A} → None ≡ Some x → B
none_some e = absurd (subst T (sym (ap there e)) tt)

-- a value that a test lets through is there only where the test holds, and is that value
pub let_through : {A : Type 0} (t : Bool) {y x : A} → pick t (Some y) None ≡ Some x → (t ≡ true) × (y ≡ x)
let_through true {y} e = (refl, ap (or y) e)
let_through false e = none_some e

pub stopped_by : {A : Type 0} (t : Bool) (y : A) → pick t (Some y) None ≡ None → t ≡ false
stopped_by true y e = none_some (sym e)
stopped_by false y e = refl
