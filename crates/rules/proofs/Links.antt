-- The last destination before g that begins it is the longest that is shorter and a start of it: what `next` is.
use mathlib.Core.Path.{◌≡◌}
use Prim.Native.Nat.{ℕ, ◌<◌}
use native.Mathlib.Omega.{arith}
use lib.ListN.{length}
use Rattle.table.specs.Table.{at}
use Rattle.table.specs.Longest.{matches, Wins}
use Rattle.fields.specs.Rules.{Rules, rule_count, GoodRules}
use Rattle.fields.specs.Runs.{Runs, EntryLists, trie_table, starts_shorter, last_before}
use Rattle.fields.proofs.Tables.{dest_lengths, dest_table}
use Rattle.fields.proofs.Nearest.{nearest_wins}

-- the link of destination g
module _ (W : ℕ) (rs : Rules) (good : GoodRules W rs) {m : ℕ} {from : ℕ → ℕ} (r : Runs (at rs.dvals) (at rs.dlens) (rule_count rs) m from) where
  abbrev dests : EntryLists
  dests = trie_table rs m from 0

  pub links_win : (g : ℕ) → g < m → {x : ℕ} → x ≡ last_before (matches W (at dests.vals) (at dests.lens) (at dests.vals g)) g
      → Wins (starts_shorter W (at dests.vals) (at dests.lens) g) (at dests.lens) (length dests.vals) x
  links_win g h e =
      rw e (nearest_wins W (at dests.vals) (at dests.lens) (at dests.hops) (length dests.vals) (dest_table W rs good r).entry g
      (omega (arith, (dest_lengths rs m from).0)))
