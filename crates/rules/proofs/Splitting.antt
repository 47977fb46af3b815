-- The tables of all tries as the build holds them: one of them taken out, and sums that grow by one.
use mathlib.Core.Path.{◌≡◌}
use Prim.Native.Nat.{ℕ, suc, ◌*◌, ◌≤◌, ◌<◌}
use native.Mathlib.Omega.{arith}
use lib.ListN.{length}
use Rattle.strides.specs.Trie.{size}
use Rattle.strides.specs.Cheapest.{Kind}
use Rattle.strides.specs.Recurrence.{plain, least_by}
use Rattle.table.specs.Limits.{entry_limit, width_limit}
use Rattle.choosers.specs.Limits.{cost_cap}
use Rattle.choosers.specs.Scratch.{ROW}
use Rattle.fields.specs.Runs.{sum_first}
use Rattle.fields.specs.Runs.{EntryLists}
use Rattle.layout.specs.Laid.{table_trie}
use Rattle.rules.specs.Splitting.{SplitRules, split_table, split_trie, CanPlan, CanSplit, Roomy}
use Rattle.rules.proofs.Planning.{size_few, least_few}
use Rattle.rules.proofs.Sums.{sum_few}

module _ {W k : ℕ} {s : SplitRules} (can : CanSplit W k s) where
  -- table x, wherever it is held, and scratch for it
  module _ (x : ℕ) (h : x ≤ length s.vals) {t : EntryLists} (e : t ≡ split_table s x) where
    pub table_can : CanPlan W k t.vals t.lens t.hops
    table_can = rw e (can.plans x h)

    pub table_size : {n : ℕ} → n ≡ size (table_trie W t.vals t.lens t.hops) → n ≡ size (split_trie W s x)
    table_size q = rw e at q

    pub table_least : (kind : Kind) {n : ℕ} → n ≡ least_by plain kind k (table_trie W t.vals t.lens t.hops) → n ≡ least_by plain kind k (split_trie W s x)
    table_least kind q = rw e at q

    pub table_roomy : {words lent : ℕ} → lent ≡ words → Roomy W s words → size (table_trie W t.vals t.lens t.hops) * ROW ≤ lent
    table_roomy l r = rw (e, l) (r x h)

  -- the sums stay far below what a word holds
  pub nodes_fit : (n : ℕ) → n ≤ suc (length s.vals) → sum_first (λ g. size (split_trie W s g)) n ≤ n * (entry_limit * width_limit)
  nodes_fit n h = sum_few (λ g. size (split_trie W s g)) n (entry_limit * width_limit) (λ g l. size_few (can.plans g (omega arith)))

  pub costs_fit : (kind : Kind) (n : ℕ) → n ≤ suc (length s.vals) → sum_first (λ g. least_by plain kind k (split_trie W s g)) n ≤ n * cost_cap
  costs_fit kind n h =
      sum_few (λ g. least_by plain kind k (split_trie W s g)) n cost_cap (λ g l. omega (arith, least_few (can.plans g (omega arith)) kind))

  -- and so does what is added to them
  pub size_fits : (x : ℕ) → x ≤ length s.vals → {n : ℕ} → n ≡ size (split_trie W s x) → n ≤ entry_limit * width_limit
  size_fits x h q = rw q (size_few (can.plans x h))

  pub least_fits : (kind : Kind) (x : ℕ) → x ≤ length s.vals → {n : ℕ} → n ≡ least_by plain kind k (split_trie W s x) → n < cost_cap
  least_fits kind x h q = rw q (least_few (can.plans x h) kind)
