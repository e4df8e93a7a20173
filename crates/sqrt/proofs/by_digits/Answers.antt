-- The invariant: the digits found and those left make up the number, before each iteration.
use Rattle.std.proofs.Common.{◌≡◌, ℕ, suc, ◌+◌, ◌-◌, ◌*◌, ◌/◌, ◌%◌, ◌^◌, ◌<◌, sym, ap, ◌∙◌, subst, mod-lt, mul_assoc, mul_comm, mul-pos, pow-suc, mul-one, arith, lit<, pow-add}
use Rattle.sqrt.proofs.Root.{nearest_up, nearest_down}
use Rattle.sqrt.proofs.by_digits.Goals as goal
use Rattle.sqrt.proofs.by_digits.Invariants.{Left}
use Rattle.sqrt.proofs.by_digits.Goals.{After-loop}

two_more : (a N x k : ℕ) → Left a N x (suc k) → Left a (N * 4 + x / 2 ^ 62) ((x * 2 ^ 2) % 2 ^ 64) k
two_more a N x k h = ap (λ (y : ℕ). y * 4 ^ k) (moved N x) ∙ mul_assoc (N * 2 ^ 64 + x) 4 (4 ^ k) ∙ ap (λ (y : ℕ). (N * 2 ^ 64 + x) * y) (mul_comm 4 (4 ^ k) ∙ sym (pow-suc 4 k)) ∙ h
  where
    moved : (N x : ℕ) → (N * 4 + x / 2 ^ 62) * 2 ^ 64 + (x * 2 ^ 2) % 2 ^ 64 ≡ (N * 2 ^ 64 + x) * 4
    moved N x = omega arith

one_less : (i : ℕ) → i < 53 → 53 - i ≡ suc (53 - (i + 1))
one_less i h = omega arith

doubles : (q w i : ℕ) → q < 2 ^ i → w < 2 * q + 2 → w < 2 ^ (i + 1)
doubles q w i a b = omega (arith, pow-add 2 i 1)

none_left : (a N x : ℕ) → x < 2 ^ 64 → Left a N x 0 → N ≡ a * 2 ^ 52
none_left a N x l h = whole N x (a * 2 ^ 52) l (sym (mul-one (N * 2 ^ 64 + x)) ∙ h ∙ sorted)
  where
    whole : (N x K : ℕ) → x < 2 ^ 64 → N * 2 ^ 64 + x ≡ K * 2 ^ 64 → N ≡ K
    whole N x K l e = omega arith

    sorted : a * 2 ^ 10 * 4 ^ 53 ≡ a * 2 ^ 52 * 2 ^ 64
    sorted = mul_assoc a (2 ^ 10) (4 ^ 53) ∙ sym (mul_assoc a (2 ^ 52) (2 ^ 64))

pub loop-preserved : goal.loop-preserved
loop-preserved c =
    let s = c.loop in
    let q = s.found.0 in
    let n = q * q + s.found.1.0 in
    let w = c.digit-found.result in
    let d = c.digit-found.ensures in
    let k = 53 - (s.counter + 1) in
    let l = subst (Left c.args.a n s.x) (one_less s.counter c.loop-test.true) s.invariant.0 in (
      subst (λ (N : ℕ). Left c.args.a N ((s.x * 2 ^ 2) % 2 ^ 64) k) (sym d.is) (two_more c.args.a n s.x k l),
      w.whole,
      doubles q w.root s.counter s.invariant.2 d.longer,
      mod-lt (s.x * 2 ^ 2) (omega arith),
      omega arith,
    )

-- the whole number's root, with its remainder
whole_root : (c : After-loop) → let s = c.loop in
    s.found.0 * s.found.0 + s.found.1.0 ≡ c.args.a * 2 ^ 52
whole_root c =
    let s = c.loop in
    let z : s.counter ≡ 53 = omega (arith, c.loop-test.false, s.invariant.4) in
    let n = s.found.0 * s.found.0 + s.found.1.0 in
    none_left c.args.a n s.x s.invariant.3 (subst (λ (k : ℕ). Left c.args.a n s.x (53 - k)) z s.invariant.0)

pub returns-then-root-rest : goal.returns-then-root-rest
returns-then-root-rest c =
    let w = whole_root (goal.at.returns-then-root-rest c).After-loop in
    let q = c.loop.found in
    nearest_up (c.args.a * 2 ^ 52) q.0 q.1.0 w c.loop.invariant.1 c.if-root-rest.true

pub returns-else-root-rest : goal.returns-else-root-rest
returns-else-root-rest c =
    let w = whole_root (goal.at.returns-else-root-rest c).After-loop in
    let q = c.loop.found in
    nearest_down (c.args.a * 2 ^ 52) q.0 q.1.0 (mul-pos c.requires.0 (lit< tt)) w c.if-root-rest.false
