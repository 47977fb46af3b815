-- What counts over all tries, and where each begins: sums of the first ones.
use mathlib.Core.Path.{◌≡◌, refl, sym, ◌∙◌}
use mathlib.Core.Logic.{⊎_elim}
use Prim.Native.Nat.{ℕ, zero, suc, ◌+◌, ◌*◌, ◌≤◌, ◌<◌}
use native.Mathlib.Nat.{zero-add, suc-mul, eq-or-lt_of_le, le_of_suc-le-suc}
use native.Mathlib.Decide.{dec_le}
use native.Mathlib.Omega.{arith}
use Rattle.fields.specs.Runs.{sum_first}

pub sum_same : (f g : ℕ → ℕ) (n : ℕ) → ((i : ℕ) → i < n → f i ≡ g i) → sum_first f n ≡ sum_first g n
unfolding sum_first
sum_same f g zero e = refl
sum_same f g (suc n) e = omega (arith, sum_same f g n (λ i h. e i (omega arith)), e n (omega arith))

-- what lies below a sum lies in one of its parts
pub sum_holds : (f : ℕ → ℕ) (n i : ℕ) → i < sum_first f n → (g : ℕ) × (g < n) × (sum_first f g ≤ i) × (i < sum_first f g + f g)
unfolding sum_first
sum_holds f zero i h = absurd (omega arith)
sum_holds f (suc n) i h = elim (dec_le (sum_first f n) i) [
  | yes q ↦ (n, omega arith, q, h)
  | no q ↦ (let p = sum_holds f n i (omega arith) in (p.0, omega (arith, p.1), p.2, p.3))
]

-- none is above `most`
pub sum_few : (f : ℕ → ℕ) (n most : ℕ) → ((g : ℕ) → g < n → f g ≤ most) → sum_first f n ≤ n * most
unfolding sum_first
sum_few f zero most h = omega arith
sum_few f (suc n) most h = omega (arith, sum_few f n most (λ g l. h g (omega arith)), h n (omega arith), suc-mul n most)

-- a part ends before a later sum does
pub sum_mono : (f : ℕ → ℕ) (i j : ℕ) → i < j → sum_first f i + f i ≤ sum_first f j
unfolding sum_first
sum_mono f i zero h = absurd (omega arith)
sum_mono f i (suc j) h =
    ⊎_elim (λ (e : i ≡ j). rw e (omega arith)) (λ (l : i < j). omega (arith, sum_mono f i j l)) (eq-or-lt_of_le (le_of_suc-le-suc h))

-- a sum without its first
pub sum_shift : (f : ℕ → ℕ) (n : ℕ) → sum_first f (suc n) ≡ f 0 + sum_first (λ j. f (suc j)) n
unfolding sum_first
sum_shift f zero = omega arith
sum_shift f (suc n) = omega (arith, sum_shift f n)

-- a sum that grew by one
pub sum_first_lem : (f : ℕ → ℕ) {x : ℕ} → x ≡ f 0 → x ≡ sum_first f 1
unfolding sum_first
sum_first_lem f e = e ∙ sym (zero-add (f 0))

pub sum_on : (f : ℕ → ℕ) (g : ℕ) {x y : ℕ} → x ≡ sum_first f (suc g) → y ≡ f (suc g) → x + y ≡ sum_first f (suc (g + 1))
unfolding sum_first
sum_on f g e d = let one : g + 1 ≡ suc g = omega arith in rw (one, e, d) refl
