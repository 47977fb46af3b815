-- The cheapest stride: a scan over the strides turn by turn, and that a row's choices are the recurrence's.
use mathlib.Core.Path.{◌≡◌, refl, ap, ap₂, sym, ◌∙◌}
use mathlib.Core.Bool.{Bool, true, false, cond}
use Prim.Native.Nat.{ℕ, zero, suc, pred, max, ◌+◌, ◌-◌, ◌^◌, ◌≤◌, ◌<◌}
use native.Mathlib.Nat.{le_refl, one-mul}
use native.Mathlib.Numerals.{add-one}
use native.Mathlib.Omega.{arith}
use lib.Dec.{leb}
use borrow.Author.Tests.{leb-true, leb-false}
use Rattle.strides.specs.Trie.{Trie, node, depth, sum_below}
use Rattle.strides.specs.Recurrence.{keeps, scan, with_first, opt_by, pick_by}
use Rattle.strides.proofs.Capped.{sum_capped, opt_capped}
use Rattle.choosers.specs.Limits.{cost_cap}
use Rattle.choosers.specs.Costs.{held, price, best_cost, best_stride}

-- ---- the scan

pub scan_next : (g : ℕ → ℕ) (n : ℕ) {bc bp c rc rp : ℕ} → bc ≡ (scan g n).1 → bp ≡ (scan g n).0 → c ≡ g (n + 1)
    → (bc ≤ c → (rc ≡ bc) × (rp ≡ bp)) → (c < bc → (rc ≡ c) × (rp ≡ n + 1)) → (rc ≡ (scan g (n + 1)).1) × (rp ≡ (scan g (n + 1)).0)
unfolding scan keeps
scan_next g n {bc} {bp} {c} {rc} {rp} e f h old new = rw (add-one n) (go (leb (scan g n).1 (g (suc n))) refl)
  where
    at : c ≡ g (suc n)
    at = h ∙ ap g (add-one n)

    go : (b : Bool) → leb (scan g n).1 (g (suc n)) ≡ b → (rc ≡ (cond b (scan g n) (suc n, g (suc n))).1) × (rp ≡ (cond b (scan g n) (suc n, g (suc n))).0)
    go true t = let o = old (omega (arith, e, at, leb-true (scan g n).1 (g (suc n)) t)) in (o.0 ∙ e, o.1 ∙ f)
    go false t = let o = new (omega (arith, e, at, leb-false (scan g n).1 (g (suc n)) t)) in (o.0 ∙ at, o.1 ∙ add-one n)

pub scan_same : (g h : ℕ → ℕ) (n : ℕ) → ((j : ℕ) → j ≤ n → g j ≡ h j) → scan g n ≡ scan h n
unfolding scan keeps
scan_same g h zero e = ap (λ (x : ℕ). (0, x)) (e 0 (le_refl 0))
scan_same g h (suc n) e = rw (scan_same g h n (λ j l. e j (omega arith)), e (suc n) (le_refl (suc n)))

-- ---- the choices are the recurrence's

held_sum : (x y : ℕ) → held (x + y) ≡ held (held x + held y)
held_sum x y = omega arith

-- `below` holds what the blocks of a and b cost together on each level, with m + 1 levels left
module _ (a b : Trie) (below : ℕ → ℕ) where
  abbrev pub Below : ℕ → Type 0
  Below m = (j : ℕ) → j ≤ max (depth a) (depth b) → below j ≡ held (sum_below j (opt_by held m) a + sum_below j (opt_by held m) b)

  price_first : (m : ℕ) → Below m → (j : ℕ) → j ≤ max (depth a) (depth b) → price below 1 j ≡ with_first held (opt_by held m) a b j
  unfolding price with_first
  price_first m sum j h =
      let f = opt_by held m in
      let low : (u : Trie) → f u ≡ held (f u) = λ u. omega (arith, opt_capped cost_cap m u) in
      rw (one-mul (held (2 ^ suc j)))
      (ap (λ (s : ℕ). held (held (2 ^ suc j) + s))
      (sum j h ∙ held_sum (sum_below j f a) (sum_below j f b) ∙ ap₂ (λ (x y : ℕ). held (x + y)) (sym (sum_capped cost_cap f f low j a)) (sym (sum_capped cost_cap f f low j b))))

  pub best_cost_lem : (p q r : ℕ) → ((m : ℕ) → r ≡ suc m → Below m) → best_cost below 1 (suc (max (depth a) (depth b))) r ≡ opt_by held r (node p a q b)
  unfolding best_cost opt_by
  best_cost_lem p q zero s = omega (arith, one-mul (held (2 ^ suc (max (depth a) (depth b)))))
  best_cost_lem p q (suc m) s = ap (λ (x : ℕ × ℕ). x.1) (scan_same (price below 1) (with_first held (opt_by held m) a b) (max (depth a) (depth b)) (price_first m (s m refl)))

  pub best_stride_lem : (p q r : ℕ) → ((m : ℕ) → r ≡ suc m → Below m) → best_stride below 1 (suc (max (depth a) (depth b))) r ≡ pick_by held r (node p a q b)
  unfolding best_stride pick_by
  best_stride_lem p q zero s = refl
  best_stride_lem p q (suc m) s = ap (λ (x : ℕ × ℕ). suc x.0) (scan_same (price below 1) (with_first held (opt_by held m) a b) (max (depth a) (depth b)) (price_first m (s m refl)))

-- with more than one level left
pub choice_more : (below : ℕ → ℕ) (n d r : ℕ) → (r ≡ 0 → ⊥)
    → ((scan (price below n) (d - 1)).1 ≡ best_cost below n d r) × ((scan (price below n) (d - 1)).0 + 1 ≡ best_stride below n d r)
unfolding best_cost best_stride
choice_more below n d zero ne = absurd (ne refl)
choice_more below n d (suc q) ne = let f : d - 1 ≡ pred d = omega arith in rw f (refl, add-one (scan (price below n) (pred d)).0)
