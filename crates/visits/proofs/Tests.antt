-- What the tests before the first row say: the facts behind each refusal, and those that are left where none is given.
use Prim.Native.Nat.{ℕ, ◌^◌, ◌≤◌, ◌<◌}
use mathlib.Core.Path.{◌≡◌, refl}
use mathlib.Core.Bool.{Bool, true, false, cond, ◌||◌}
use mathlib.Core.Logic.{◌⊎◌, inl, inr}
use native.Mathlib.Omega.{arith}
use lib.Dec.{leb, ltb}
use borrow.Author.Tests.{le-ltb, ltb-true, ltb-false}
use Rattle.walk.specs.Limits.{Outside, Within}
use Rattle.walk.proofs.Tests.{outside_cases, leb_cases}
use Rattle.visits.specs.declared.record.Bitmap.{Bitmap}
use Rattle.visits.specs.Lookup.{lists_short, bitmap_refusal}
use Rattle.visits.specs.Meaning.{BitmapPassed}

short_cases : (rows supernodes places hops : ℕ) (P : Bool → Type 0) → ((rows < supernodes) ⊎ (places < hops) → P true)
    → (supernodes ≤ rows → hops ≤ places → P false) → P (lists_short rows supernodes places hops)
unfolding lists_short
short_cases rows supernodes places hops P f g = go (ltb rows supernodes) refl (ltb places hops) refl
  where
    go : (t : Bool) → ltb rows supernodes ≡ t → (u : Bool) → ltb places hops ≡ u → P (t || u)
    go true a u b = f (inl (ltb-true _ _ a))
    go false a true b = f (inr (ltb-true _ _ b))
    go false a false b = g (ltb-false _ _ a) (ltb-false _ _ b)

module _ (most : ℕ) (rec : Bitmap) (rows places address : ℕ) where
  -- what holds of the first test that fails, and of none
  pub bitmap_refusal_cases : (P : ℕ → Type 0)
      → (Outside rec.width most → P 1)
      → (Within rec.width most → 2 ^ rec.width ≤ address → P 8)
      → (Within rec.width most → address < 2 ^ rec.width → (rows < rec.supernodes) ⊎ (places < rec.hops) → P 9)
      → (BitmapPassed most rec rows places address → P 0) → P (bitmap_refusal most rec rows places address)
  unfolding bitmap_refusal
  bitmap_refusal_cases P f1 f8 f9 f0 =
      let r9 : ℕ = cond (lists_short rows rec.supernodes places rec.hops) 9 0 in
      let r8 : ℕ = cond (leb (2 ^ rec.width) address) 8 r9 in
      outside_cases rec.width most (λ (t : Bool). P (cond t 1 r8)) f1 (λ w.
      leb_cases (2 ^ rec.width) address (λ (t : Bool). P (cond t 8 r9)) (f8 w) (λ a.
      short_cases rows rec.supernodes places rec.hops (λ (t : Bool). P (cond t 9 0)) (f9 w a)
      (λ e h. f0 (record { width = w; inside = a; enough = e; hops_enough = h }))))

  pub bitmap_passed : bitmap_refusal most rec rows places address ≡ 0 → BitmapPassed most rec rows places address
  bitmap_passed =
      bitmap_refusal_cases (λ (m : ℕ). m ≡ 0 → BitmapPassed most rec rows places address) (λ o e. absurd (omega arith)) (λ w o e. absurd (omega arith))
      (λ w a d e. absurd (omega arith)) (λ p e. p)

-- lists that have the counts pass the tests alike
pub bitmap_tests_same : (most : ℕ) (rec : Bitmap) (rows rows' places places' address : ℕ) → rec.supernodes ≤ rows → rec.supernodes ≤ rows'
    → rec.hops ≤ places → rec.hops ≤ places' → bitmap_refusal most rec rows places address ≡ bitmap_refusal most rec rows' places' address
unfolding bitmap_refusal lists_short
bitmap_tests_same most rec rows rows' places places' address a b c d = simp (le-ltb _ _ a, le-ltb _ _ b, le-ltb _ _ c, le-ltb _ _ d)
