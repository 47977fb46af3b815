-- The tests 1 to 6 of a chooser: what each return of `tested` says of them, and what is known where all of them pass.
use mathlib.Core.Path.{◌≡◌, ap, sym, ◌∙◌}
use mathlib.Core.Bool.{true, false}
use mathlib.Core.List.{List, [], ◌∷◌, ◌++◌}
use Prim.Native.Nat.{ℕ, ◌/◌, ◌≤◌, ◌<◌}
use native.Mathlib.Nat.{le_refl}
use native.Mathlib.Omega.{arith}
use lib.ListN.{length}
use borrow.Author.Tests.{lt-ltb, le-ltb, ltb-false}
use Rattle.std.specs.Prelude.{Ok, Err}
use Rattle.table.specs.Entry.{hop_refused}
use Rattle.table.specs.Limits.{outside}
use Rattle.table.specs.declared.refusal.Refusal.{Refusal}
use Rattle.table.specs.declared.refusal.Refusal.TheVariants.{Width, Levels, Scratch}
use Rattle.table.specs.Refusals.{Outcome, outcome, Numbered, and_then}
use Rattle.table.specs.Table.{at, width_test, list_tests, table_tests, check_of, Table, Linked}
use Rattle.table.proofs.Refusals.{outcome_fails, outcome_passes, outcome_append, accepted_passes, accepted_parts}
use Rattle.table.proofs.Table.{width_is, accepted_table, accepted_linked, entries_rise}
use Rattle.table.proofs.Numbered.{numbered_append, numbered_lists}
use Rattle.strides.specs.Trie.{size}
use Rattle.strides.specs.Insertion.{node_count}
use Rattle.strides.proofs.Counting.{node_count_lem}
use Rattle.walk.specs.Limits.{WIDTH, LEVELS, Within}
use Rattle.choosers.specs.Scratch.{ROW}
use Rattle.layout.specs.Marks.{entry_marks}
use Rattle.layout.specs.Laid.{table_trie}
use Rattle.choosers.specs.Making.{Prefixes}
use Rattle.choosers.specs.Chooser.{levels_test, scratch_test, choose_tests}
use Rattle.choosers.specs.Plans.{PlanIn}

-- ---- the tests

-- a table's prefixes rise
pub table_prefixes : (W : ℕ) (vs ls hs : List ℕ) → Table W vs ls hs → Prefixes W vs ls
table_prefixes W vs ls hs t = record {
  some_width = t.some_width;
  width = t.width;
  lengths = t.lengths;
  prefix = λ i h. (t.entry i h).prefix;
  rises = entries_rise W (at vs) (at ls) (at hs) (length vs) t.entry;
}

pub within_levels : (k most : ℕ) → outside k most ≡ false → Within k most
unfolding outside
within_levels k most e = width_is most k e

module _ (W k links : ℕ) (vs ls hs : List ℕ) (words : ℕ) where
  pub tests_width : outside W WIDTH ≡ true → outcome (choose_tests W k links vs ls hs words) ≡ Err Width
  unfolding choose_tests outside
  tests_width e = outcome_fails (width_test W) (levels_test k ∷ (list_tests (hop_refused links) W vs ls hs ++ (scratch_test W vs ls hs words ∷ []))) e

  module _ (w : outside W WIDTH ≡ false) where
    pub tests_levels : outside k LEVELS ≡ true → outcome (choose_tests W k links vs ls hs words) ≡ Err Levels
    unfolding choose_tests outside
    tests_levels e =
        outcome_passes (width_test W) (levels_test k ∷ (list_tests (hop_refused links) W vs ls hs ++ (scratch_test W vs ls hs words ∷ []))) w
        ∙ outcome_fails (levels_test k) (list_tests (hop_refused links) W vs ls hs ++ (scratch_test W vs ls hs words ∷ [])) e

    -- past both, the table's tests and then scratch's decide
    module _ (l : outside k LEVELS ≡ false) where
      tests_rest : outcome (choose_tests W k links vs ls hs words) ≡ and_then (check_of W links vs ls hs) (outcome (scratch_test W vs ls hs words ∷ []))
      unfolding choose_tests outside check_of table_tests
      tests_rest =
          outcome_passes (width_test W) (levels_test k ∷ (list_tests (hop_refused links) W vs ls hs ++ (scratch_test W vs ls hs words ∷ []))) w
          ∙ outcome_passes (levels_test k) (list_tests (hop_refused links) W vs ls hs ++ (scratch_test W vs ls hs words ∷ [])) l
          ∙ outcome_append (list_tests (hop_refused links) W vs ls hs) (scratch_test W vs ls hs words ∷ [])
          ∙ ap (λ (o : Outcome). and_then o (outcome (scratch_test W vs ls hs words ∷ []))) (sym (outcome_passes (width_test W) (list_tests (hop_refused links) W vs ls hs) w))

      pub tests_table : {r : Refusal} → check_of W links vs ls hs ≡ Err r → outcome (choose_tests W k links vs ls hs words) ≡ Err r
      unfolding and_then
      tests_table e = tests_rest ∙ rw e

      -- the count from neighbours is the trie's size
      count_size : Table W vs ls hs → (c : ℕ) → c ≡ node_count W (at vs) (at ls) (length vs) → c ≡ size (table_trie W vs ls hs)
      count_size t c e =
          let p = table_prefixes W vs ls hs t in
          e ∙ node_count_lem W (at vs) (at ls) (length vs) p.prefix p.rises (entry_marks ls hs) (length vs) (le_refl (length vs))

      pub tests_scratch : check_of W links vs ls hs ≡ Ok tt → (c : ℕ) → c ≡ node_count W (at vs) (at ls) (length vs) → words / ROW < c
          → outcome (choose_tests W k links vs ls hs words) ≡ Err (Scratch c)
      unfolding and_then outcome
      tests_scratch e c q h = tests_rest ∙ rw (e, ← count_size (accepted_table W links vs ls hs e) c q, lt-ltb (words / ROW) c h)

      pub tests_pass : check_of W links vs ls hs ≡ Ok tt → (c : ℕ) → c ≡ node_count W (at vs) (at ls) (length vs) → c ≤ words / ROW
          → outcome (choose_tests W k links vs ls hs words) ≡ Ok tt
      unfolding and_then outcome
      tests_pass e c q h = tests_rest ∙ rw (e, ← count_size (accepted_table W links vs ls hs e) c q, le-ltb (words / ROW) c h)

pub numbered_choose : (most : ℕ) → 6 ≤ most → (W k links : ℕ) (vs ls hs : List ℕ) (words : ℕ) → Numbered most (choose_tests W k links vs ls hs words)
unfolding choose_tests
numbered_choose most h W k links vs ls hs words =
    let lists = numbered_append most (list_tests (hop_refused links) W vs ls hs) (scratch_test W vs ls hs words ∷ [])
    (numbered_lists most (omega arith) (hop_refused links) W vs ls hs) ((omega arith, omega arith), tt) in
    ((omega arith, omega arith), ((omega arith, omega arith), lists))

-- what acceptance says
pub accepted_levels : (W k links : ℕ) (vs ls hs : List ℕ) (words : ℕ) → outcome (choose_tests W k links vs ls hs words) ≡ Ok tt → Within k LEVELS
unfolding choose_tests
accepted_levels W k links vs ls hs words e =
    let p = accepted_passes (width_test W) (levels_test k ∷ (list_tests (hop_refused links) W vs ls hs ++ (scratch_test W vs ls hs words ∷ []))) e in
    within_levels k LEVELS (accepted_passes (levels_test k) (list_tests (hop_refused links) W vs ls hs ++ (scratch_test W vs ls hs words ∷ [])) p.1).0

module _ (W k links : ℕ) (vs ls hs : List ℕ) (words : ℕ) (e : outcome (choose_tests W k links vs ls hs words) ≡ Ok tt) where
  accepted_check : check_of W links vs ls hs ≡ Ok tt
  unfolding choose_tests check_of table_tests
  accepted_check =
      let p = accepted_passes (width_test W) (levels_test k ∷ (list_tests (hop_refused links) W vs ls hs ++ (scratch_test W vs ls hs words ∷ []))) e in
      let q = accepted_passes (levels_test k) (list_tests (hop_refused links) W vs ls hs ++ (scratch_test W vs ls hs words ∷ [])) p.1 in
      let r = accepted_parts (list_tests (hop_refused links) W vs ls hs) (scratch_test W vs ls hs words ∷ []) q.1 in
      outcome_passes (width_test W) (list_tests (hop_refused links) W vs ls hs) p.0 ∙ r.0

  pub accepted_tests_table : Table W vs ls hs
  accepted_tests_table = accepted_table W links vs ls hs accepted_check

  pub accepted_tests_linked : Linked links hs
  accepted_tests_linked = accepted_linked W links vs ls hs accepted_check

pub accepted_plan : (W k links : ℕ) (vs ls hs scratch : List ℕ) → outcome (choose_tests W k links vs ls hs (length scratch)) ≡ Ok tt
    → PlanIn W k vs ls hs scratch
unfolding choose_tests check_of table_tests
accepted_plan W k links vs ls hs scratch e =
    let p = accepted_passes (width_test W) (levels_test k ∷ (list_tests (hop_refused links) W vs ls hs ++ (scratch_test W vs ls hs (length scratch) ∷ []))) e in
    let q = accepted_passes (levels_test k) (list_tests (hop_refused links) W vs ls hs ++ (scratch_test W vs ls hs (length scratch) ∷ [])) p.1 in
    let r = accepted_parts (list_tests (hop_refused links) W vs ls hs) (scratch_test W vs ls hs (length scratch) ∷ []) q.1 in
    let s = accepted_passes (scratch_test W vs ls hs (length scratch)) [] r.1 in
    record {
      table = accepted_tests_table W k links vs ls hs (length scratch) e;
      levels = within_levels k LEVELS q.0;
      room = omega (arith, ltb-false (length scratch / ROW) (size (table_trie W vs ls hs)) s.0);
    }
