-- Rules of one destination are neighbours: the runs of equal neighbours, and the tables that the tries are built of (02, [6]: "a
-- destination trie whose entries lead to source tries"). Every list has one list of runs (`runs_exist`, `runs_unique`).
use Rattle.std.specs.Prelude.{◌≡◌, Bool, true, not, cond, ◌&&◌, List, [], ◌∷◌, ℕ, zero, suc, ◌+◌, ◌-◌, ◌≤◌, ◌<◌, take, drop, eqb, ltb}
use Rattle.table.specs.Table.{at}
use Rattle.table.specs.Lists.{listed}
use Rattle.table.specs.Prefix.{starts_with}
use Rattle.fields.specs.Rules.{Rules}

-- the m runs of equal neighbours among n: run g begins at `from g` and ends before `from (suc g)`
pub record Runs (val len : ℕ → ℕ) (n m : ℕ) (from : ℕ → ℕ) : Type 0 where
  pub first : from 0 ≡ 0
  pub last : from m ≡ n
  pub some : (g : ℕ) → g < m → from g < from (suc g)
  pub same : (g i : ℕ) → g < m → from g ≤ i → i < from (suc g) → (val i ≡ val (from g)) × (len i ≡ len (from g))
  pub apart : (g : ℕ) → suc g < m → val (from g) ≡ val (from (suc g)) → len (from g) ≡ len (from (suc g)) → ⊥

-- rule i is the first, or has another destination than the rule before: with it a run begins
unfoldable pub begins_run : (val len : ℕ → ℕ) → ℕ → Bool
begins_run val len zero = true
begins_run val len (suc i) = not (eqb (val i) (val (suc i)) && eqb (len i) (len (suc i)))

-- ---- the tables of the tries

-- what `&xs[i..j]` holds
abbrev pub part : (i j : ℕ) → List ℕ → List ℕ
part i j xs = take (j - i) (drop i xs)

-- the three lists of a table
pub record EntryLists : Type 0 where
  pub vals : List ℕ
  pub lens : List ℕ
  pub hops : List ℕ

abbrev pub entry_lists : (vals lens hops : List ℕ) → EntryLists
entry_lists vals lens hops = record { vals = vals; lens = lens; hops = hops }

-- number 0: the m destinations, with the numbers 1 to m of their source tries for hops; number suc g: the sources of run g, with
-- their actions
unfoldable pub trie_table : Rules → (m : ℕ) (from : ℕ → ℕ) → ℕ → EntryLists
trie_table rs m from zero = entry_lists (listed (λ g. at rs.dvals (from g)) m) (listed (λ g. at rs.dlens (from g)) m) (listed suc m)
trie_table rs m from (suc g) =
    entry_lists (part (from g) (from (suc g)) rs.svals) (part (from g) (from (suc g)) rs.slens) (part (from g) (from (suc g)) rs.actions)

-- f 0 + .. + f (n - 1): what counts "over all tries"
unfoldable pub sum_first : (ℕ → ℕ) → ℕ → ℕ
sum_first f zero = 0
sum_first f (suc n) = sum_first f n + f n

-- ---- from one source trie to the next

-- destination j is a start of destination g and shorter: the next trie to visit after g's is that of the longest such,
-- `Wins (starts_shorter W val len g) len m next` (table Longest; next is suc j for j, 0 for none)
unfoldable pub starts_shorter : ℕ → (val len : ℕ → ℕ) → (g j : ℕ) → Bool
starts_shorter W val len g j = starts_with W (val j) (len j) (val g) && ltb (len j) (len g)

-- the number of the greatest j below g at which P holds, 0 where there is none
unfoldable pub last_before : (ℕ → Bool) → ℕ → ℕ
last_before P zero = 0
last_before P (suc g) = cond (P g) (suc g) (last_before P g)

-- "from the longest matching destination down": each is shorter than the one before it, and the first than c
abbrev pub Falls : (len : ℕ → ℕ) → ℕ → List ℕ → Type 0
Falls len c [] = Unit {0}
Falls len c (g ∷ gs) = (len g < c) × Falls len (len g) gs
