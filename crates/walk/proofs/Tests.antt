-- What the tests before the first row say: the facts behind each refusal, and those that are left where none is given.
use Prim.Native.Nat.{ℕ, ◌^◌, ◌≤◌, ◌<◌}
use mathlib.Core.Path.{◌≡◌, refl, ◌∙◌}
use mathlib.Core.Bool.{Bool, true, false, cond, not, ◌&&◌, ◌||◌}
use mathlib.Core.Logic.{◌⊎◌, inl, inr}
use native.Mathlib.Omega.{arith}
use lib.Dec.{leb, ltb, eqb}
use borrow.Author.Tests.{ne_eqb, le-ltb, ltb-true, ltb-false, leb-true, leb-false, eqb-true, eqb-false}
use Rattle.walk.specs.declared.record.Record.{Record}
use Rattle.walk.specs.Limits.{LEVELS, Outside, Within}
use Rattle.table.specs.Limits.{outside}
use Rattle.walk.specs.Rows.{root}
use Rattle.walk.specs.Lookup.{unfit, refusal_of, first_refusal}
use Rattle.walk.specs.Meaning.{Passed}

-- a number is 0 or above its limit, or it is within
pub outside_cases : (x most : ℕ) (P : Bool → Type 0) → (Outside x most → P true) → (Within x most → P false) → P (outside x most)
unfolding outside
outside_cases x most P f g = go (eqb x 0) refl (ltb most x) refl
  where
    go : (t : Bool) → eqb x 0 ≡ t → (u : Bool) → ltb most x ≡ u → P (t || u)
    go true e u d = f (inl (eqb-true _ _ e))
    go false e true d = f (inr (ltb-true _ _ d))
    go false e false d = g (omega (arith, eqb-false x 0 e), ltb-false _ _ d)

pub within_not : {x most : ℕ} → Within x most → Outside x most → ⊥
within_not w (inl z) = omega arith
within_not w (inr g) = omega arith

pub leb_cases : (a b : ℕ) (P : Bool → Type 0) → (a ≤ b → P true) → (b < a → P false) → P (leb a b)
leb_cases a b P f g = go (leb a b) refl
  where
    go : (t : Bool) → leb a b ≡ t → P t
    go true e = f (leb-true _ _ e)
    go false e = g (leb-false _ _ e)

unfit_cases : (e n r : ℕ) (P : Bool → Type 0) → ((n < e) ⊎ ((r ≡ 0) × (0 < e)) → P true) → (e ≤ n → (r ≡ 0 → e ≡ 0) → P false)
    → P (unfit e n r)
unfolding unfit
unfit_cases e n r P f g = go (ltb n e) refl (eqb e 0) refl (eqb r 0) refl
  where
    go : (t : Bool) → ltb n e ≡ t → (u : Bool) → eqb e 0 ≡ u → (v : Bool) → eqb r 0 ≡ v → P (t || (not u && v))
    go true a u b v c = f (inl (ltb-true _ _ a))
    go false a true b v c = g (ltb-false _ _ a) (λ z. eqb-true _ _ b)
    go false a false b true c = f (inr (eqb-true _ _ c, omega (arith, eqb-false e 0 b)))
    go false a false b false c = g (ltb-false _ _ a) (λ z. absurd (eqb-false _ _ c z))

-- the number of the first of the four tests that fails
abbrev first_of : (w k a s : Bool) → ℕ
first_of w k a s = cond w 1 (cond k 2 (cond a 8 (cond s 9 0)))

module _ (most : ℕ) (rec : Record) (n address : ℕ) where
  -- what holds of the first test that fails, and of none
  pub refusal_cases : (P : ℕ → Type 0)
      → (Outside rec.width most → P 1)
      → (Within rec.width most → Outside rec.levels LEVELS → P 2)
      → (Within rec.width most → Within rec.levels LEVELS → 2 ^ rec.width ≤ address → P 8)
      → (Within rec.width most → Within rec.levels LEVELS → address < 2 ^ rec.width
      → (n < rec.elements) ⊎ ((root rec ≡ 0) × (0 < rec.elements)) → P 9)
      → (Passed most rec n address → P 0) → P (refusal_of most rec n address)
  unfolding refusal_of
  refusal_cases P f1 f2 f8 f9 f0 =
      let r9 : ℕ = cond (unfit rec.elements n (root rec)) 9 0 in
      let r8 : ℕ = cond (leb (2 ^ rec.width) address) 8 r9 in
      let r2 : ℕ = cond (outside rec.levels LEVELS) 2 r8 in
      outside_cases rec.width most (λ (t : Bool). P (cond t 1 r2)) f1 (λ w.
      outside_cases rec.levels LEVELS (λ (t : Bool). P (cond t 2 r8)) (f2 w) (λ k.
      leb_cases (2 ^ rec.width) address (λ (t : Bool). P (cond t 8 r9)) (f8 w k) (λ a.
      unfit_cases rec.elements n (root rec) (λ (t : Bool). P (cond t 9 0)) (f9 w k a)
      (λ e r. f0 (record { width = w; levels = k; inside = a; enough = e; rooted = r })))))

  pub tests_passed : refusal_of most rec n address ≡ 0 → Passed most rec n address
  tests_passed =
      refusal_cases (λ (m : ℕ). m ≡ 0 → Passed most rec n address) (λ o e. absurd (omega arith)) (λ w o e. absurd (omega arith))
      (λ w k o e. absurd (omega arith)) (λ w k a d e. absurd (omega arith)) (λ p e. p)

  -- the tests that come before the root's stride: where one fails, it is the first of all; where none does, the root's is left
  pub first_fails : (first_refusal most rec n address ≡ 0 → ⊥) → first_refusal most rec n address ≡ refusal_of most rec n address
  unfolding first_refusal refusal_of unfit
  first_fails = go (outside rec.width most) (outside rec.levels LEVELS) (leb (2 ^ rec.width) address) (ltb n rec.elements) _
    where
      go : (w k a s r : Bool) → (first_of w k a s ≡ 0 → ⊥) → first_of w k a s ≡ first_of w k a (s || r)
      go true k a s r h = refl
      go false true a s r h = refl
      go false false true s r h = refl
      go false false false true r h = refl
      go false false false false r h = absurd (h refl)

  pub first_passes : first_refusal most rec n address ≡ 0 → refusal_of most rec n address ≡ cond (not (eqb rec.elements 0) && eqb (root rec) 0) 9 0
  unfolding first_refusal refusal_of unfit
  first_passes = go (outside rec.width most) (outside rec.levels LEVELS) (leb (2 ^ rec.width) address) (ltb n rec.elements) _
    where
      go : (w k a s r : Bool) → first_of w k a s ≡ 0 → first_of w k a (s || r) ≡ cond r 9 0
      go true k a s r e = absurd (omega arith)
      go false true a s r e = absurd (omega arith)
      go false false true s r e = absurd (omega arith)
      go false false false true r e = absurd (omega arith)
      go false false false false r e = refl

  pub rooted_passes : first_refusal most rec n address ≡ 0 → (root rec ≡ 0 → ⊥) → refusal_of most rec n address ≡ 0
  rooted_passes e z = first_passes e ∙ rw (ne_eqb _ _ z) (go (eqb rec.elements 0))
    where
      go : (t : Bool) → ◌≡◌ {A = ℕ} (cond (not t && false) 9 0) 0
      go true = refl
      go false = refl

-- lists that have E rows pass the tests alike
pub tests_same : (most : ℕ) (rec : Record) (n m address : ℕ) → rec.elements ≤ n → rec.elements ≤ m
    → refusal_of most rec n address ≡ refusal_of most rec m address
unfolding refusal_of unfit
tests_same most rec n m address h g = simp (le-ltb _ _ h, le-ltb _ _ g)
