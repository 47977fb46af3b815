-- The destinations gathered from the rules, and the links between their tries: what the functions of `grouping` and `linking` give.
use Rattle.std.specs.Prelude.{◌≡◌, true, false, List, ℕ, suc, ◌+◌, ◌≤◌, ◌<◌, length, take, set}
use Rattle.table.specs.Table.{at}
use Rattle.table.specs.Lists.{listed}
use Rattle.fields.specs.Runs.{Runs, begins_run}

-- the first n rules have m destinations: where their runs begin, their values, lengths, and numbers from 1 on
pub record Gathered (dvals dlens : List ℕ) (n m : ℕ) (first vals lens nums : List ℕ) : Type 0 where
  pub runs : Runs (at dvals) (at dlens) n m (at first)
  pub few : m ≤ n
  pub values : take m vals ≡ listed (λ g. at dvals (at first g)) m
  pub lengths : take m lens ≡ listed (λ g. at dlens (at first g)) m
  pub numbers : take m nums ≡ listed suc m

-- the destination of rule i is taken to the m that were found, where a run begins with it
pub data Taken (dvals dlens : List ℕ) (i m : ℕ) (vals lens nums : List ℕ) (m' : ℕ) (vals' lens' nums' : List ℕ) : Type 0 where
  new_run : begins_run (at dvals) (at dlens) i ≡ true → m' ≡ m + 1 → vals' ≡ set vals m (at dvals i) → lens' ≡ set lens m (at dlens i)
      → nums' ≡ set nums m (m + 1) → Taken dvals dlens i m vals lens nums m' vals' lens' nums'
  same_run : begins_run (at dvals) (at dlens) i ≡ false → m' ≡ m → vals' ≡ vals → lens' ≡ lens → nums' ≡ nums
      → Taken dvals dlens i m vals lens nums m' vals' lens' nums'

-- no prefix is longer than the width
abbrev pub Short : ℕ → List ℕ → Type 0
Short W ls = (i : ℕ) → i < length ls → at ls i ≤ W
