-- The entries of a sorted table that start with the d bits q are neighbours, from..to: so the table shows its binary trie, and nothing
-- has to be inserted.
use Rattle.std.specs.Prelude.{◌≡◌, Bool, cond, ◌&&◌, ◌↔◌, ℕ, suc, ◌≤◌, ◌<◌, eqb, ltb}
use Rattle.table.specs.Prefix.{start}
use Rattle.strides.specs.Entries.{with_bit}

-- the entries from..to, of the first n, are exactly those that start with the d bits q
pub record Ranged (W : ℕ) (val len : ℕ → ℕ) (n d q from to : ℕ) : Type 0 where
  pub ordered : from ≤ to
  pub within : to ≤ n
  pub exactly : (i : ℕ) → i < n → ((from ≤ i) × (i < to)) ↔ ((d ≤ len i) × (start W d (val i) ≡ q))

-- whether the entry that is these bits is there: it can only be the first
unfoldable pub exact_first : (ℕ → ℕ) → ℕ → ℕ → ℕ → Bool
exact_first len from to d = ltb from to && eqb (len from) d

-- its mark, and the first entry past it
unfoldable pub first_mark : (ℕ → ℕ) → (ℕ → ℕ) → ℕ → ℕ → ℕ → ℕ
first_mark len mark from to d = cond (exact_first len from to d) (mark from) 0

unfoldable pub past_exact : (ℕ → ℕ) → ℕ → ℕ → ℕ → ℕ
past_exact len from to d = cond (exact_first len from to d) (suc from) from

-- mid is the first entry from `first` on whose next bit is 1, else `to`
pub record Turning (W : ℕ) (val : ℕ → ℕ) (d q first to mid : ℕ) : Type 0 where
  pub low : first ≤ mid
  pub high : mid ≤ to
  pub zeros : (i : ℕ) → first ≤ i → i < mid → start W (suc d) (val i) ≡ with_bit q 0
  pub one : mid < to → start W (suc d) (val mid) ≡ with_bit q 1
