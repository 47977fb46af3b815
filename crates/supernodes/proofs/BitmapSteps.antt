-- The build: from the tests to the record and the rows, and what its promise means.
use Prim.Native.Nat.{ℕ, ◌≤◌, ◌<◌}
use mathlib.Core.Path.{◌≡◌, refl, sym, ap, subst, ◌∙◌}
use mathlib.Core.List.{List, [], ◌∷◌}
use native.Mathlib.Omega.{arith}
use lib.ListN.{length, replicate}
use borrow.Author.Tests.{lt-ltb, le-ltb}
use Rattle.table.specs.Limits.{entry_limit}
use Rattle.table.specs.Table.{at}
use Rattle.walk.specs.Limits.{HOPS}
use Rattle.table.specs.Refusals.{Outcome, Test, outcome, Gives, and_then}
use Rattle.table.specs.declared.refusal.Refusal.{Refusal}
use Rattle.table.specs.declared.refusal.Refusal.TheVariants.{Room}
use Rattle.std.specs.Prelude.{Ok, Err}
use Rattle.table.proofs.Refusals.{outcome_fails, outcome_passes, outcome_append, outcome_gives, gives_outcome, refused_not_accepted}
use Rattle.pieces.specs.BinaryTrie.{BinaryTrie, binary_nodes, table_binary}
use Rattle.pieces.specs.Rows.{supernodes_of, bitmap_rows, bitmap_hops}
use Rattle.pieces.proofs.RangeCounts.{hops_are_entries}
use Rattle.visits.specs.declared.record.Bitmap.{Bitmap}
use Rattle.visits.specs.Rows.{RowLists, row_room, HoldRows, HoldHops}
use Rattle.supernodes.specs.Spans.{NODES}
use Rattle.supernodes.specs.Linked.{tree_at}
use Rattle.supernodes.specs.Filing.{FileIn, FileAsk, Filed}
use Rattle.supernodes.specs.Fitting.{FitTable, TableLined}
use Rattle.supernodes.specs.Build.{supernodes_test, hops_test, up_to_scratch, bitmap_room_tests, bitmap_tests, record_of, BitmapWritten, BitmapFilled, BitmapIs, BuildsBitmap}
use Rattle.supernodes.proofs.Lining.{queued_length}
use Rattle.supernodes.proofs.Filing.{LongAs}
use Rattle.supernodes.proofs.Fitting.{table_small, fit_few}

-- ---- refused: nothing is written
pub nothing_kept : (W : ℕ) (vs ls hs : List ℕ) (rows : RowLists) (hops : List ℕ) {out : Outcome} {r : Refusal} → out ≡ Err r
    → BitmapWritten W vs ls hs rows hops out (record_of (Err r)) rows hops
nothing_kept W vs ls hs rows hops e = record {
  laid = λ a. absurd (refused_not_accepted (sym e ∙ a));
  keeps = record {
    internal = refl;
    external = refl;
    first_child = refl;
    first_hop = refl;
    hop_rows = refl;
    later = λ a. absurd (refused_not_accepted (sym e ∙ a));
    later_hop = λ a. absurd (refused_not_accepted (sym e ∙ a));
    refused = λ ne. (record { width = refl; supernodes = refl; hops = refl }, refl, refl);
  };
}

-- ---- past test 6
module _ {W : ℕ} {vs ls hs scratch : List ℕ} (g : FitTable W vs ls hs scratch) (rows : RowLists) (hops : List ℕ) {count : ℕ} {lined : List ℕ}
    (q : TableLined W vs ls hs count lined) where
  abbrev t : BinaryTrie
  t = table_binary W vs ls hs

  count_is : count ≡ length (supernodes_of W t)
  count_is = sym (queued_length (tree_at t) lined 0 count) ∙ ap length q.queue

  hops_count : length hs ≡ length (bitmap_hops W t)
  hops_count = g.table.hops ∙ sym (hops_are_entries W vs ls hs g.table)

  pub count_few : count ≤ NODES
  count_few = omega (arith, q.few, fit_few g)

  pub hops_few : length hs ≤ entry_limit
  hops_few = omega (arith, g.table.hops, g.table.few)

  pub short_rows_lem : {out : Outcome} → row_room rows < count → out ≡ Err (Room count)
      → BitmapFilled W vs ls hs rows hops out (record_of (Err (Room count))) rows hops
  unfolding bitmap_room_tests
  short_rows_lem h e = record {
    tests = e ∙ ap (λ (n : ℕ). Err (Room n)) count_is
        ∙ sym (outcome_fails (supernodes_test W t (row_room rows)) (hops_test W t (length hops) ∷ []) (lt-ltb (row_room rows) (length (supernodes_of W t)) (omega (arith, count_is))));
    written = nothing_kept W vs ls hs rows hops e;
  }

  module _ (h : count ≤ row_room rows) where
    rows_pass : outcome (bitmap_room_tests W t (row_room rows) (length hops)) ≡ outcome (hops_test W t (length hops) ∷ [])
    unfolding bitmap_room_tests
    rows_pass = outcome_passes (supernodes_test W t (row_room rows)) (hops_test W t (length hops) ∷ []) (le-ltb (row_room rows) (length (supernodes_of W t)) (omega (arith, count_is)))

    pub short_hops : {out : Outcome} {n : ℕ} → n ≡ length hs → length hops < n → out ≡ Err (Room n)
        → BitmapFilled W vs ls hs rows hops out (record_of (Err (Room n))) rows hops
    short_hops m l e = record {
      tests = e ∙ ap (λ (n : ℕ). Err (Room n)) (m ∙ hops_count)
          ∙ sym (rows_pass ∙ outcome_fails (hops_test W t (length hops)) [] (lt-ltb (length hops) (length (bitmap_hops W t)) (omega (arith, m, hops_count))));
      written = nothing_kept W vs ls hs rows hops e;
    }

    module _ (l : length hs ≤ length hops) (small : (i : ℕ) → at hs i < HOPS) where
      file_in : FileIn (tree_at t) (binary_nodes t) (supernodes_of W t) lined count rows hops
      unfolding bitmap_hops
      file_in = record {
        held = q;
        small = table_small W vs ls hs small;
        few = fit_few g;
        room = h;
        hop_room = omega (arith, hops_count);
        few_hops = omega (arith, hops_count, hops_few);
      }

      pub fill_ask : FileAsk lined count rows hops
      fill_ask = (tree_at t, binary_nodes t, supernodes_of W t, file_in)

      pub filled : {out : Outcome} {rows' : RowLists} {hops' : List ℕ} (rec : Bitmap) → Filed lined count rows hops rows' hops' → LongAs rows rows'
          → length hops' ≡ length hops → rec.width ≡ W → rec.supernodes ≡ count → rec.hops ≡ length hs → out ≡ Ok tt
          → BitmapFilled W vs ls hs rows hops out rec rows' hops'
      unfolding outcome bitmap_hops bitmap_rows
      filled {rows' = rows'} {hops' = hops'} rec f long long' ew es eh o =
          let w = f (tree_at t) (binary_nodes t) (supernodes_of W t) file_in in
          record {
            tests = o ∙ sym (rows_pass ∙ outcome_passes (hops_test W t (length hops)) [] (le-ltb (length hops) (length (bitmap_hops W t)) (omega (arith, hops_count))));
            written = record {
              laid = λ a. record {
                table = g.table;
                width = ew;
                built = record {
                  width = rw ew (g.table.some_width, g.table.width);
                  supernodes = es ∙ count_is ∙ ap (λ (x : ℕ). length (supernodes_of x t)) (sym ew);
                  hop_count = eh ∙ hops_count ∙ ap (λ (x : ℕ). length (bitmap_hops x t)) (sym ew);
                  room = omega (arith, es, long.internal, long.external, long.first_child, long.first_hop);
                  hop_room = omega (arith, eh, long');
                  row = subst (λ (x : ℕ). HoldRows rows' 0 (bitmap_rows x t)) (sym ew) w.row;
                  hop = subst (λ (x : ℕ). HoldHops hops' 0 (bitmap_hops x t)) (sym ew) w.hop;
                };
              };
              keeps = record {
                internal = long.internal;
                external = long.external;
                first_child = long.first_child;
                first_hop = long.first_hop;
                hop_rows = long';
                later = λ a i k. w.later i (omega (arith, es));
                later_hop = λ a i k. w.later_hop i (omega (arith, eh, hops_count));
                refused = λ ne. absurd (ne o);
              };
            };
          }

-- ---- the whole build
module _ (W links : ℕ) (vs ls hs scratch : List ℕ) (rows : RowLists) (hops : List ℕ) where
  abbrev rest : List Test
  rest = bitmap_room_tests W (table_binary W vs ls hs) (row_room rows) (length hops)

  all_tests : outcome (bitmap_tests W links vs ls hs (length scratch) (row_room rows) (length hops)) ≡ and_then (outcome (up_to_scratch W links vs ls hs (length scratch))) (outcome rest)
  unfolding bitmap_tests
  all_tests = outcome_append (up_to_scratch W links vs ls hs (length scratch)) rest

  -- refused by 1 to 6
  pub early_bitmap : {r : Refusal} → Err r ≡ outcome (up_to_scratch W links vs ls hs (length scratch))
      → BitmapIs W links vs ls hs scratch rows hops (Err r) (record_of (Err r)) scratch rows hops
  unfolding and_then
  early_bitmap e =
      let c = sym e in
      record {
        tests = sym (all_tests ∙ rw c refl);
        zeroed = λ a. absurd (refused_not_accepted (sym c ∙ a));
        untouched = λ ne. refl;
        written = nothing_kept W vs ls hs rows hops refl;
      }

  -- past them
  pub past_scratch : {out : Outcome} {rec : Bitmap} {scratch' : List ℕ} {rows' : RowLists} {hops' : List ℕ}
      → Ok tt ≡ outcome (up_to_scratch W links vs ls hs (length scratch))
      → BitmapFilled W vs ls hs rows hops out rec rows' hops' → scratch' ≡ replicate (length scratch) 0
      → BitmapIs W links vs ls hs scratch rows hops out rec scratch' rows' hops'
  unfolding and_then
  past_scratch e b z =
      let c = sym e in
      record {
        tests = b.tests ∙ sym (all_tests ∙ rw c refl);
        zeroed = λ a. z;
        untouched = λ ne. absurd (ne c);
        written = b.written;
      }

  -- and what it means
  pub bitmap_means : {out : Outcome} {rec : Bitmap} {scratch' : List ℕ} {rows' : RowLists} {hops' : List ℕ} → BitmapIs W links vs ls hs scratch rows hops out rec scratch' rows' hops'
      → BuildsBitmap W links vs ls hs scratch rows hops out rec scratch' rows' hops'
  bitmap_means b =
      let ts = bitmap_tests W links vs ls hs (length scratch) (row_room rows) (length hops) in
      let us = up_to_scratch W links vs ls hs (length scratch) in
      record {
        tested = subst (Gives ts) (sym b.tests) (outcome_gives ts);
        laid = b.written.laid;
        zeroed = λ a. b.zeroed (sym (gives_outcome us (Ok tt) a));
        untouched = λ ne. b.untouched (λ a. ne (subst (Gives us) a (outcome_gives us)));
        keeps = b.written.keeps;
      }
