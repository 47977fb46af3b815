-- The build step by step: refused by 7 for elements or for the list, or built; and refused by 6 before that.
use mathlib.Core.Path.{◌≡◌, refl, sym, ap, ◌∙◌}
use mathlib.Core.Bool.{true, false}
use mathlib.Core.List.{List, [], ◌∷◌}
use Prim.Native.Nat.{ℕ, suc, ◌+◌, ◌/◌, ◌≤◌, ◌<◌}
use native.Mathlib.Nat.{le_trans}
use native.Mathlib.Omega.{arith}
use lib.Dec.{ltb}
use lib.ListN.{length, replicate}
use borrow.Author.Tests.{lt-ltb, le-ltb, ltb-false}
use Rattle.std.specs.Prelude.{Ok, Err}
use Rattle.table.specs.declared.refusal.Refusal.{Refusal}
use Rattle.table.specs.declared.refusal.Refusal.TheVariants.{Scratch}
use Rattle.table.specs.Lists.{padded}
use Rattle.table.specs.Refusals.{Outcome, Test, outcome}
use Rattle.table.proofs.Bools.{or_false}
use Rattle.table.proofs.Refusals.{outcome_fails, outcome_passes, accepted_passes, refused_not_accepted}
use Rattle.strides.specs.Trie.{size}
use Rattle.strides.specs.Cheapest.{Kind}
use Rattle.strides.specs.Recurrence.{plain, least_by}
use Rattle.strides.specs.Strides.{chosen_by}
use Rattle.walk.specs.Limits.{WIDTH}
use Rattle.walk.specs.Rows.{Lists, shortest}
use Rattle.walk.specs.declared.record.Record.{Record}
use Rattle.layout.specs.Laid.{Laid}
use Rattle.choosers.specs.Chooser.{if_accepted}
use Rattle.choosers.specs.Scratch.{ROW}
use Rattle.tries.specs.Build.{room_test}
use Rattle.tries.specs.Limits.{ELEMENTS}
use Rattle.fields.specs.Runs.{sum_first}
use Rattle.verdicts.specs.Limits.{trie_row_cells}
use Rattle.verdicts.specs.declared.record.RuleRecord.{RuleRecord}
use Rattle.rules.specs.Build.{all_nodes_test, trie_list_test, NoRuleRecord, rule_record_of}
use Rattle.rules.specs.Splitting.{SplitRules, split_trie, split_nodes, split_costs, CanSplit, Roomy}
use Rattle.rules.specs.Laying.{CanLayAt, LaysAt, source_cost, place_of, CanLaySources, LaidTo}
use Rattle.rules.specs.Building.{CanLayAll, SplitWritten, TriesBuilt, SplitBuilt}
use Rattle.rules.proofs.Standing.{laid_kept, same_shortest}
use Rattle.rules.proofs.Sums.{sum_mono, sum_shift}

-- scratch with a row for each node of all tries has one for each node of each
pub all_roomy : (W : ℕ) (s : SplitRules) (words : ℕ) → split_nodes W s ≤ words / ROW → Roomy W s words
all_roomy W s words h g l =
    let one = sum_mono (λ x. size (split_trie W s x)) g (suc (length s.vals)) (omega arith) in omega (arith, one)

-- ---- refused: nothing is written

pub no_record : (e : Refusal) → NoRuleRecord (rule_record_of (Err e))
unfolding padded
no_record e = record { dest = record { width = refl; levels = refl; elements = refl; floor = refl; strides = refl }; elements = refl }

nothing_written : (kind : Kind) (W k : ℕ) (s : SplitRules) (rows : Lists) (list : List ℕ) (e : Refusal)
    → SplitWritten kind W k s rows list (Err e) (rule_record_of (Err e)) rows list
nothing_written kind W k s rows list e = record {
  laid = λ a. absurd (refused_not_accepted a);
  keeps = record {
    room = record { hops = refl; lens = refl; links = refl; strides = refl };
    long = refl;
    later = λ a. absurd (refused_not_accepted a);
    refused = λ ne. (no_record e, refl, refl);
  };
}

-- ---- all tries laid

module _ (kind : Kind) (W k : ℕ) (s : SplitRules) {words : ℕ} {rows : Lists} {list : List ℕ} (can : CanLayAll kind W k s words rows list) where
  abbrev own : ℕ
  own = least_by plain kind k (split_trie W s 0)

  -- the destination trie and all source tries
  both_costs : split_costs kind W k s ≡ own + sum_first (source_cost kind W k s) (length s.vals)
  both_costs = sum_shift (λ g. least_by plain kind k (split_trie W s g)) (length s.vals)

  pub may_lay_dest : CanLayAt kind W k s.vals s.lens s.nums words 0 rows
  may_lay_dest = record {
    plan = can.split.plans 0 (omega arith);
    roomy = can.roomy 0 (omega arith);
    fits = le_trans (omega (arith, both_costs)) can.fits;
    few = omega (arith, both_costs, can.few);
  }

  module _ {rows1 : Lists} {dest : Record} (l : LaysAt kind W k s.vals s.lens s.nums 0 rows dest rows1) where
    same_place : place_of kind W k s dest.elements (length s.vals) ≡ split_costs kind W k s
    same_place = rw l.count (sym both_costs)

    pub may_lay_sources : CanLaySources kind W k s dest.elements words rows1 list
    may_lay_sources = record {
      split = can.split;
      roomy = can.roomy;
      fits = rw (same_place, same_shortest l.room) can.fits;
      few = rw same_place can.few;
      long = can.long;
    }

    module _ {e : ℕ} {rows2 : Lists} {list2 : List ℕ} (t : LaidTo kind W k s dest.elements rows1 list (length s.vals) e rows2 list2) where
      pub elements_few : e ≤ ELEMENTS
      elements_few = omega (arith, t.reached, same_place, can.few)

      -- the destination's rows stay
      dest_kept : Laid WIDTH W s.vals s.lens s.nums (chosen_by plain kind k (split_trie W s 0)) k dest rows2
      dest_kept = laid_kept 0 rows1 rows2 (same_shortest t.room) (λ i a b. t.before i (omega arith)) l.laid

      pub all_laid : {rec : RuleRecord} → rec.dest ≡ dest → rec.elements ≡ e → SplitWritten kind W k s rows list (Ok tt) rec rows2 list2
      all_laid {rec} d q = record {
        laid = λ a. record {
          dest = rw d dest_kept;
          named = rw d l.named;
          sources = λ g h. rw d (t.stands g h);
          all = rw d (q ∙ t.reached);
          rest = t.rest;
          long = omega (arith, t.long, can.long);
        };
        keeps = record {
          room = record {
            hops = t.room.hops ∙ l.room.hops;
            lens = t.room.lens ∙ l.room.lens;
            links = t.room.links ∙ l.room.links;
            strides = t.room.strides ∙ l.room.strides;
          };
          long = t.long;
          later = λ a i h. t.after i (omega (arith, q)) ∙ l.after i (omega (arith, q, t.reached));
          refused = λ ne. absurd (ne refl);
        };
      }

-- ---- test 7 before that

module _ (kind : Kind) (W k : ℕ) (s : SplitRules) (rows : Lists) (list : List ℕ) {cost : ℕ} (costs : cost ≡ split_costs kind W k s) {o : Outcome}
    (tested : o ≡ outcome (room_test cost (shortest rows) ∷ trie_list_test (length list) (length s.vals) ∷ [])) where
  pub room_lacks : (e : Refusal) → o ≡ Err e → TriesBuilt kind W k s rows list (Err e) (rule_record_of (Err e)) rows list
  room_lacks e f = record { tests = sym f ∙ rw (sym costs) tested; written = nothing_written kind W k s rows list e }

  module _ (passed : o ≡ Ok tt) where
    pub may_lay_all : {words : ℕ} → CanSplit W k s → Roomy W s words → CanLayAll kind W k s words rows list
    may_lay_all split roomy =
        let p = accepted_passes (room_test cost (shortest rows)) (trie_list_test (length list) (length s.vals) ∷ []) (sym tested ∙ passed) in
        let q = accepted_passes (trie_list_test (length list) (length s.vals)) [] p.1 in
        let r = or_false (ltb (shortest rows) cost) (ltb ELEMENTS cost) p.0 in
        record {
          split = split;
          roomy = roomy;
          fits = rw (sym costs) (ltb-false (shortest rows) cost r.0);
          few = rw (sym costs) (ltb-false ELEMENTS cost r.1);
          long = omega (arith, ltb-false (length list / trie_row_cells) (length s.vals) q.0);
        }

    pub tries_built : {rec : RuleRecord} {rows' : Lists} {list' : List ℕ} → SplitWritten kind W k s rows list (Ok tt) rec rows' list'
        → TriesBuilt kind W k s rows list o rec rows' list'
    tries_built w = record { tests = rw (sym costs) tested; written = rw passed w }

-- ---- test 6 before that

module _ (kind : Kind) (W k : ℕ) (s : SplitRules) (scratch : List ℕ) (rows : Lists) (list : List ℕ) where
  abbrev sevens : List Test
  sevens = room_test (split_costs kind W k s) (shortest rows) ∷ trie_list_test (length list) (length s.vals) ∷ []

  module _ {nodes : ℕ} (counted : nodes ≡ split_nodes W s) where
    pub all_scratch_short : length scratch / ROW < nodes
        → SplitBuilt kind W k s scratch rows list (Err (Scratch nodes)) (rule_record_of (Err (Scratch nodes))) scratch rows list
    unfolding outcome if_accepted
    all_scratch_short h =
        let f : ltb (length scratch / ROW) (split_nodes W s) ≡ true = rw (sym counted) (lt-ltb (length scratch / ROW) nodes h) in
        record {
          tests = ap (λ (n : ℕ). Err (Scratch n)) counted ∙ sym (outcome_fails (all_nodes_test (length scratch) (split_nodes W s)) sevens f);
          after = rw f refl;
          written = nothing_written kind W k s rows list (Scratch nodes);
        }

    pub split_built : nodes ≤ length scratch / ROW → {out : Outcome} {rec : RuleRecord} {scratch' : List ℕ} {rows' : Lists} {list' : List ℕ}
        → TriesBuilt kind W k s rows list out rec rows' list' → scratch' ≡ replicate (length scratch) 0 → SplitBuilt kind W k s scratch rows list out rec scratch' rows' list'
    unfolding outcome if_accepted
    split_built h b z =
        let f : ltb (length scratch / ROW) (split_nodes W s) ≡ false = rw (sym counted) (le-ltb (length scratch / ROW) nodes h) in
        record {
          tests = b.tests ∙ sym (outcome_passes (all_nodes_test (length scratch) (split_nodes W s)) sevens f);
          after = z ∙ rw f refl;
          written = b.written;
        }
