-- E is what the strides cost (demand 3): the sum of the levels' rows is the sum of 2 ^ s over the blocks, so that refusal 7
-- tests the chooser's least cost.
use Prim.Native.Nat.{ℕ, zero, suc, pred, ◌+◌, ◌≤◌}
use mathlib.Core.Path.{◌≡◌, refl, ◌∙◌}
use native.Mathlib.Omega.{arith}
use Rattle.strides.specs.Trie.{Trie, none, node}
use Rattle.strides.specs.Strides.{cost_by}
use Rattle.layout.specs.Blocks.{Strides, wide, first_row, row_count}

-- g 0 + .. + g (m - 1)
unfoldable total : ℕ → (ℕ → ℕ) → ℕ
total zero g = 0
total (suc m) g = g 0 + total m (λ n. g (suc n))

total_last : (m : ℕ) (g : ℕ → ℕ) → total (suc m) g ≡ total m g + g m
unfolding total
total_last zero g = omega arith
total_last (suc m) g = omega (arith, total_last m (λ n. g (suc n)))

total_add : (m : ℕ) (f g : ℕ → ℕ) → total m (λ n. f n + g n) ≡ total m f + total m g
unfolding total
total_add zero f g = refl
total_add (suc m) f g = omega (arith, total_add m (λ n. f (suc n)) (λ n. g (suc n)))

total_none : (m : ℕ) → total m (λ n. 0) ≡ 0
unfolding total
total_none zero = refl
total_none (suc m) = omega (arith, total_none m)

module _ (σ : Strides) where
  levels_cost : (t : Trie) (c r m : ℕ) → r ≤ m → total m (λ n. wide σ t c n r) ≡ cost_by σ t c r
  unfolding total wide cost_by
  levels_cost none c r m h = total_none m
  levels_cost (node p a q b) (suc c) r m h =
      total_add m (λ n. wide σ a c n r) (λ n. wide σ b c n r) ∙ omega (arith, levels_cost a c r m h, levels_cost b c r m h)
  levels_cost (node p a q b) zero zero m h = total_none m
  levels_cost (node p a q b) zero (suc r) zero h = absurd (omega arith)
  levels_cost (node p a q b) zero (suc r) (suc m) h =
      let s = pred (σ (suc r) (node p a q b)) in
      omega (
        arith,
        total_add m (λ n. wide σ a s n r) (λ n. wide σ b s n r),
        levels_cost a s r m (omega arith),
        levels_cost b s r m (omega arith),
      )

  first_total : (t : Trie) (k n : ℕ) → first_row σ t k n ≡ total n (λ j. wide σ t 0 j k)
  unfolding total first_row
  first_total t k zero = refl
  first_total t k (suc n) = omega (arith, first_total t k n, total_last n (λ j. wide σ t 0 j k))

  pub count_cost : (t : Trie) (k : ℕ) → row_count σ k t ≡ cost_by σ t 0 k
  unfolding row_count
  count_cost t k = first_total t k k ∙ levels_cost t 0 k k (omega arith)
