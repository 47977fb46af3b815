-- One table, whose tests have passed: what a chooser says of it that is lent no row of scratch, or just enough; and how large its numbers
-- can be.
use mathlib.Core.Path.{◌≡◌, refl, sym, ap, ◌∙◌}
use mathlib.Core.Bool.{Bool, false}
use mathlib.Core.List.{List}
use Prim.Native.Nat.{ℕ, zero, suc, ◌*◌, ◌/◌, ◌^◌, ◌≤◌, ◌<◌}
use native.Mathlib.Nat.{le_refl, le_trans, sub-le, suc-mul, mul-le-mul}
use native.Mathlib.Omega.{arith}
use lib.ListN.{length}
use lib.Pow.{pow_mono}
use Rattle.std.specs.Prelude.{Result, Ok, Err, IsOk}
use Rattle.table.specs.Limits.{outside, entry_limit, width_limit, link_limit}
use Rattle.table.specs.declared.refusal.Refusal.{Refusal}
use Rattle.table.specs.declared.refusal.Refusal.TheVariants.{Scratch}
use Rattle.table.specs.Refusals.{Outcome, outcome, outcome_of}
use Rattle.table.specs.Table.{at, check_of}
use Rattle.table.proofs.Refusals.{refused_not_accepted}
use Rattle.table.proofs.Table.{table_accepted, all_linked}
use Rattle.strides.specs.Trie.{size, depth}
use Rattle.strides.specs.Insertion.{new_after, new_nodes, node_count}
use Rattle.strides.specs.Cheapest.{Kind}
use Rattle.strides.specs.Recurrence.{plain, least_by}
use Rattle.strides.proofs.Capped.{cap_never_bites}
use Rattle.strides.proofs.Counting.{node_count_lem}
use Rattle.strides.proofs.Insertion.{trie_depth_width}
use Rattle.walk.specs.Limits.{WIDTH, Within}
use Rattle.walk.proofs.Tests.{outside_cases, within_not}
use Rattle.layout.specs.Marks.{entry_marks}
use Rattle.layout.specs.Laid.{table_trie}
use Rattle.choosers.specs.Chooser.{choose_tests}
use Rattle.choosers.specs.Limits.{cost_cap}
use Rattle.choosers.specs.Scratch.{ROW}
use Rattle.choosers.proofs.ChooseTests.{table_prefixes, tests_scratch, tests_pass}
use Rattle.rules.specs.Splitting.{CanPlan}

pub within_inside : {x most : ℕ} → Within x most → outside x most ≡ false
within_inside {x} {most} w = outside_cases x most (λ (t : Bool). t ≡ false) (λ o. absurd (within_not w o)) (λ i. refl)

-- the refusal of an outcome, and another where there is none
abbrev refusal_in : Refusal → Outcome → Refusal
refusal_in other (Ok _) = other
refusal_in other (Err x) = x

module _ {W k : ℕ} {vs ls hs : List ℕ} (can : CanPlan W k vs ls hs) where
  count_is : node_count W (at vs) (at ls) (length vs) ≡ size (table_trie W vs ls hs)
  count_is =
      let p = table_prefixes W vs ls hs can.table in
      node_count_lem W (at vs) (at ls) (length vs) p.prefix p.rises (entry_marks ls hs) (length vs) (le_refl (length vs))

  width_inside : outside W WIDTH ≡ false
  width_inside = within_inside (can.table.some_width, can.table.width)

  accepted_table_is : check_of W link_limit vs ls hs ≡ Ok tt
  accepted_table_is = table_accepted W link_limit vs ls hs can.table (λ i h. all_linked (at hs i))

  -- with a row for each node the tests 1 to 6 pass
  pub plan_passes : (words : ℕ) → size (table_trie W vs ls hs) * ROW ≤ words → outcome (choose_tests W k link_limit vs ls hs words) ≡ Ok tt
  plan_passes words h =
      tests_pass W k link_limit vs ls hs words width_inside (within_inside can.levels) accepted_table_is _ refl (omega (arith, count_is))

  -- with fewer, 6 says how many nodes there are
  pub plan_lacks_rows : (words : ℕ) → words / ROW < size (table_trie W vs ls hs) → outcome (choose_tests W k link_limit vs ls hs words) ≡ Err (Scratch (size (table_trie W vs ls hs)))
  plan_lacks_rows words h =
      tests_scratch W k link_limit vs ls hs words width_inside (within_inside can.levels) accepted_table_is _ refl (omega (arith, count_is)) ∙ ap (λ (n : ℕ). Err (Scratch n)) count_is

  -- ---- so a chooser that is lent less than a row says the number of nodes
  pub no_nodes : {o : Outcome} → o ≡ outcome (choose_tests W k link_limit vs ls hs 1) → o ≡ Ok tt → 0 ≡ size (table_trie W vs ls hs)
  no_nodes e a = go (size (table_trie W vs ls hs)) refl
    where
      go : (n : ℕ) → size (table_trie W vs ls hs) ≡ n → 0 ≡ n
      go zero q = refl
      go (suc n) q = absurd (refused_not_accepted (sym (plan_lacks_rows 1 (omega arith)) ∙ sym e ∙ a))

  pub needs_nodes : {o : Outcome} (x : Refusal) → o ≡ outcome (choose_tests W k link_limit vs ls hs 1) → o ≡ Err x → x ≡ Scratch (size (table_trie W vs ls hs))
  needs_nodes x e r = go (size (table_trie W vs ls hs)) refl
    where
      go : (n : ℕ) → size (table_trie W vs ls hs) ≡ n → x ≡ Scratch (size (table_trie W vs ls hs))
      go zero q = absurd (refused_not_accepted (sym r ∙ e ∙ plan_passes 1 (omega arith)))
      go (suc n) q = ap (refusal_in x) (sym r ∙ e ∙ plan_lacks_rows 1 (omega arith))

  -- ---- how large they can be
  few_new : (i : ℕ) → i < length vs → new_nodes W (at vs) (at ls) i ≤ W
  unfolding new_nodes new_after
  few_new zero l = (can.table.entry 0 l).prefix.short
  few_new (suc i) l = le_trans (sub-le (at ls (suc i)) _) (can.table.entry (suc i) l).prefix.short

  few_nodes : (i : ℕ) → i ≤ length vs → node_count W (at vs) (at ls) i ≤ i * W
  unfolding node_count
  few_nodes zero h = omega arith
  few_nodes (suc i) h = omega (arith, few_nodes i (omega arith), few_new i (omega arith), suc-mul i W)

  pub size_few : size (table_trie W vs ls hs) ≤ entry_limit * width_limit
  size_few =
      let w = mul-le-mul can.table.few can.table.width in omega (arith, count_is, few_nodes (length vs) (le_refl (length vs)), w)

  pub least_few : (kind : Kind) → least_by plain kind k (table_trie W vs ls hs) < cost_cap
  least_few kind =
      let d : depth (table_trie W vs ls hs) ≤ WIDTH
      = omega (arith, trie_depth_width W (at vs) (at ls) (entry_marks ls hs) (length vs) (table_prefixes W vs ls hs can.table).prefix, can.table.width) in
      let p : 2 ^ depth (table_trie W vs ls hs) ≤ 2 ^ WIDTH = pow_mono d in
      cap_never_bites cost_cap kind k (table_trie W vs ls hs) (omega (arith, p))

-- a call whose outcome accepts is accepted
pub is_accepted : {A : Type 0} (r : Result A Refusal) → outcome_of r ≡ Ok tt → IsOk r
unfolding outcome_of
is_accepted (Ok x) e = refl
is_accepted (Err y) e = absurd (refused_not_accepted e)
