-- The laws of the numbers of one point.
use mathlib.Core.Path.{◌≡◌, refl, sym, ap, ap₂, ◌∙◌}
use mathlib.Core.List.{List, [], ◌∷◌, ◌++◌, map}
use Prim.Native.Nat.{ℕ, zero, suc, ◌+◌, ◌-◌, ◌*◌, ◌/◌, ◌≤◌, ◌<◌}
use native.Mathlib.Omega.{arith}
use borrow.Author.Tests.{lt-ltb}
use lib.ListN.{length, take, drop, get_or, length-drop}
use lib.Seq.{get_or-drop, get_or-take, drop-drop, take-take, take-add, length-take-le, ext_get_or}
use Rattle.std.proofs.lemmas.List.{length-map, get_or-map, drop-take}
use lib.Ieee.{Float, nan}
use Rattle.std.specs.Simd.{first_chunks}
use Rattle.groups.specs.Groups.{width, from_group}
use Rattle.geometry.specs.declared.point.Point3D.{Point3D}
use Rattle.groups.specs.Row.{numbers_of, point_in, row_from, row_at, row_of, point_at}

-- a point that is there is read as it stands
pub row_there : (l : List Float) (i : ℕ) → width * (i + 1) ≤ length l → row_of l i ≡ row_at l i
unfolding row_of
row_there l i h = rw (lt-ltb i (length l / width) (omega arith))

-- number j of point i, by its place in the list
pub row_number : (l : List Float) (i j : ℕ) → j < width → get_or (numbers_of (row_at l i)) j nan ≡ get_or l (width * i + j) nan
row_number l i zero h = ap (λ (n : ℕ). get_or l n nan) (let e : width * i ≡ width * i + zero = omega arith in e)
row_number l i (suc zero) h = refl
row_number l i (suc (suc zero)) h = refl
row_number l i (suc (suc (suc zero))) h = refl
row_number l i (suc (suc (suc (suc zero)))) h = refl
row_number l i (suc (suc (suc (suc (suc zero))))) h = refl
row_number l i (suc (suc (suc (suc (suc (suc zero)))))) h = refl
row_number l i (suc (suc (suc (suc (suc (suc (suc j))))))) h = absurd (omega arith)

number_from : (l : List Float) (a b c : ℕ) → a + b ≡ c → get_or (drop a l) b nan ≡ get_or l c nan
number_from l a b c e = rw get_or-drop (ap (λ (n : ℕ). get_or l n nan) e)

-- point k of what is left from point f on is point f + k of the whole
pub point_from_lem : (l : List Float) (f k : ℕ) → point_at (from_group width f l) k ≡ point_at l (f + k)
point_from_lem l f k =
    rw (number_from l (width * f) (width * k) (width * (f + k)) (omega arith), number_from l (width * f) (width * k + 1) (width * (f + k) + 1) (omega arith), number_from l (width * f) (width * k + 2) (width * (f + k) + 2) (omega arith))

-- the first n groups of a list, and group i of them
pub length_groups : {A : Type 0} (w n : ℕ) (l : List A) → length (first_chunks w n l) ≡ n
length_groups w zero l = refl
length_groups w (suc n) l = ap suc (length_groups w n (drop w l))

pub group_of : {A : Type 0} (w n i : ℕ) (l : List A) (d : List A) → i < n → get_or (first_chunks w n l) i d ≡ take w (drop (w * i) l)
group_of w zero i l d h = absurd (omega arith)
group_of w (suc n) zero l d h = rw (let e : w * 0 ≡ 0 = omega arith in e)
group_of w (suc n) (suc i) l d h =
    group_of w n i (drop w l) d (omega arith) ∙ ap (take w) (drop-drop (w * i) w l ∙ ap (λ (k : ℕ). drop k l) (let e : w + w * i ≡ w * suc i = omega arith in e))

-- its numbers are those of point i
pub row_group : (l : List Float) (i : ℕ) → row_from (take width (drop (width * i) l)) 0 ≡ row_at l i
row_group l i =
    let e : (j k : ℕ) → j < width → width * i + j ≡ k → get_or (take width (drop (width * i) l)) j nan ≡ get_or l k nan =
    λ j k h f. get_or-take width (drop (width * i) l) j nan h ∙ number_from l (width * i) j k f in
    rw (e 0 (width * i) (omega arith) (omega arith), e 1 _ (omega arith) refl, e 2 _ (omega arith) refl, e 3 _ (omega arith) refl, e 4 _ (omega arith) refl, e 5 _ (omega arith) refl, e 6 _ (omega arith) refl)

-- and the part that holds point i has its numbers; the part that holds the next too has those of both
pub row_part : (l : List Float) (i : ℕ) → width * (i + 1) ≤ length l → take width (from_group width i l) ≡ numbers_of (row_at l i)
row_part l i h =
    let left = length-drop (width * i) l in
    let long : length (take width (from_group width i l)) ≡ width = length-take-le width (from_group width i l) (omega arith) in
    ext_get_or nan (take width (from_group width i l)) (numbers_of (row_at l i)) long
    (λ j k. get_or-take width (from_group width i l) j nan (omega arith) ∙ number_from l (width * i) j (width * i + j) refl ∙ sym (row_number l i j (omega arith)))

pub rows_part : (l : List Float) (i : ℕ) → width * (i + 2) ≤ length l → take (width * 2) (from_group width i l) ≡ numbers_of (row_at l i) ++ numbers_of (row_at l (i + 1))
rows_part l i h =
    let two : width * 2 ≡ width + width = omega arith in
    ap (λ (k : ℕ). take k (from_group width i l)) two
    ∙ take-add width width (from_group width i l)
    ∙ ap₂ ◌++◌ (row_part l i (omega arith))
    (ap (take width) (drop-drop width (width * i) l ∙ ap (λ (k : ℕ). drop k l) (let e : width * i + width ≡ width * (i + 1) = omega arith in e)) ∙ row_part l (i + 1) (omega arith))

-- so group i of all that the list has is point i
pub row_listed : (l : List Float) (i : ℕ) (d : List Float) → i < length l / width → row_from (get_or (first_chunks width (length l / width) l) i d) 0 ≡ row_of l i
row_listed l i d h =
    ap (λ (g : List Float). row_from g 0) (group_of width (length l / width) i l d h) ∙ row_group l i ∙ sym (row_there l i (omega arith))

-- the first n points of a list
abbrev pub points_of : List Float → ℕ → List Point3D
points_of l n = map (λ (g : List Float). point_in (row_from g 0)) (first_chunks width n l)

pub length_points : (l : List Float) (n : ℕ) → length (points_of l n) ≡ n
length_points l n = length-map (first_chunks width n l) (λ (g : List Float). point_in (row_from g 0)) ∙ length_groups width n l

-- point i is among them
pub point_among : (l : List Float) (n i : ℕ) (d : Point3D) → i < n → get_or (points_of l n) i d ≡ point_at l i
point_among l n i d h =
    get_or-map (λ (g : List Float). point_in (row_from g 0)) (first_chunks width n l) i [] d (let e = length_groups width n l in omega arith)
    ∙ ap (λ (g : List Float). point_in (row_from g 0)) (group_of width n i l [] h) ∙ ap point_in (row_group l i)

groups_front : {A : Type 0} (w n m : ℕ) (l : List A) → w * n ≤ m → first_chunks w n (take m l) ≡ first_chunks w n l
groups_front w zero m l h = refl
groups_front w (suc n) m l h =
    let k : w * suc n ≡ w + w * n = omega arith in
    let e : w + (m - w) ≡ m = omega arith in
    ap₂ ◌∷◌ (take-take w m l (omega arith))
    (ap (first_chunks w n) (ap (λ (j : ℕ). drop w (take j l)) (sym e) ∙ drop-take w (m - w) l) ∙ groups_front w n (m - w) (drop w l) (omega arith))

-- a part of the list that has them has the same
pub points_front : (l : List Float) (n m : ℕ) → width * n ≤ m → points_of (take m l) n ≡ points_of l n
points_front l n m h = ap (map (λ (g : List Float). point_in (row_from g 0))) (groups_front width n m l h)

-- a list cut to its first n points
pub count_taken : {A : Type 0} (l : List A) (n : ℕ) → width * n ≤ length l → length (take (width * n) l) / width ≡ n
count_taken l n h = let e = length-take-le (width * n) l h in omega arith

pub points_taken : (l : List Float) (n : ℕ) → width * n ≤ length l → points_of (take (width * n) l) (length (take (width * n) l) / width) ≡ points_of l n
points_taken l n h = ap (points_of (take (width * n) l)) (count_taken l n h) ∙ points_front l n (width * n) (omega arith)

-- and point i of it is point i of the whole
pub row_taken : (l : List Float) (n i : ℕ) → width * n ≤ length l → i < n → row_of (take (width * n) l) i ≡ row_of l i
row_taken l n i h k =
    let e : (j : ℕ) → j < width → get_or (take (width * n) l) (width * i + j) nan ≡ get_or l (width * i + j) nan =
    λ j f. get_or-take (width * n) l (width * i + j) nan (omega arith) in
    let all : row_at (take (width * n) l) i ≡ row_at l i = rw (e 1 (omega arith), e 2 (omega arith), e 3 (omega arith), e 4 (omega arith), e 5 (omega arith), e 6 (omega arith), get_or-take (width * n) l (width * i) nan (omega arith)) in
    row_there (take (width * n) l) i (let m = length-take-le (width * n) l h in omega arith) ∙ all ∙ sym (row_there l i (omega arith))
