-- The build: from the tests to the record and the rows, and what its promise means.
use mathlib.Core.Path.{◌≡◌, refl, ap, sym, subst, ◌∙◌}
use mathlib.Core.Bool.{Bool, true, false, cond, ◌&&◌, ◌||◌}
use mathlib.Core.List.{List, [], ◌∷◌}
use mathlib.Core.Logic.{⊎_elim}
use Prim.Native.Nat.{ℕ, zero, suc, ◌-◌, ◌%◌, ◌^◌, ◌≤◌, ◌<◌}
use native.Mathlib.Nat.{le_refl, sub-zero, mod-eq_of_lt}
use native.Mathlib.Omega.{arith}
use lib.Dec.{ltb, eqb}
use lib.ListN.{length, get_or, replicate, take, length-take}
use borrow.Author.Tests.{ne_eqb, ltb-false}
use Rattle.std.specs.Prelude.{Ok, Err}
use Rattle.table.specs.declared.refusal.Refusal.{Refusal}
use Rattle.table.specs.declared.refusal.Refusal.TheVariants.{Room}
use Rattle.table.specs.Refusals.{Outcome, Test, outcome, Gives, Numbered, and_then}
use Rattle.table.specs.Table.{at, Table}
use Rattle.table.proofs.Bools.{or_false}
use Rattle.table.proofs.Refusals.{outcome_fails, outcome_passes, outcome_append, outcome_gives, gives_outcome, refused_not_accepted}
use Rattle.table.proofs.Numbered.{numbered_append}
use Rattle.table.proofs.Starts.{start_none}
use Rattle.table.proofs.Table.{sorted}
use Rattle.table.specs.Lists.{padded}
use Rattle.table.proofs.Lists.{padded_read}
use Rattle.strides.specs.Trie.{Trie, none, node, depth, nodes_at}
use Rattle.strides.specs.Entries.{whole_entry, mark_at, floor_of}
use Rattle.strides.specs.Cheapest.{Kind, fixed, variable, Cheapest}
use Rattle.strides.specs.Recurrence.{plain, least_by, strides_by, fixed_strides, list_by, pick_by}
use Rattle.strides.specs.Strides.{Good, chosen_by, variable_stride, fixed_stride}
use Rattle.strides.proofs.Cheapest.{chosen_good, chosen_follows, least_cheapest, strides_named, cheapest_unique}
use Rattle.strides.proofs.Insertion.{trie_depth_width}
use Rattle.strides.proofs.Follows.{follows_good, follows_cheapest, follows_unique}
use Rattle.walk.specs.declared.record.Record.{Record}
use Rattle.walk.specs.Limits.{WIDTH, LEVELS}
use Rattle.tries.specs.Limits.{ELEMENTS}
use Rattle.walk.specs.Rows.{Lists, shortest}
use Rattle.layout.specs.Blocks.{Strides, stride_of, row_count, Agree}
use Rattle.layout.specs.Marks.{entry_marks}
use Rattle.layout.specs.Laid.{table_trie, table_floor, Laid}
use Rattle.tries.specs.Filling.{LayAsks, LayGives, Lays}
use Rattle.choosers.specs.Chooser.{choose_tests, if_accepted}
use Rattle.choosers.specs.Plans.{PlanIs}
use Rattle.tries.specs.Build.{room_test, build_tests, record_of, RowsAre, BuildIs, Builds}
use Rattle.tries.specs.FromPlan.{PlanFor, RowsBuilt}
use Rattle.layout.proofs.Cost.{count_cost}
use Rattle.layout.proofs.Agreeing.{same_agree, stride_same, laid_agree}
use Rattle.tries.proofs.Laying.{lays_built}
use Rattle.choosers.proofs.Choosing.{plan_made}
use Rattle.choosers.proofs.ChooseTests.{numbered_choose, accepted_levels, accepted_tests_table}

-- ---- the floor: an entry of length 0 can only be the first

later_none : (W : ℕ) {vs ls hs : List ℕ} (t : Table W vs ls hs) (m : ℕ) → suc m ≤ length vs → mark_at W (at vs) (at ls) (at hs) (suc m) 0 0 ≡ mark_at W (at vs) (at ls) (at hs) 1 0 0
unfolding mark_at whole_entry
later_none W t zero h = refl
later_none W {vs} {ls} {hs} t (suc m) h =
    rw (ne_eqb (at ls (suc m)) 0 (λ e. not_first e)) (later_none W t m (omega arith))
  where
    val_zero : at ls (suc m) ≡ 0 → at vs (suc m) ≡ 0
    val_zero e =
        let p = (t.entry (suc m) h).prefix in
        let z : at vs (suc m) % 2 ^ W ≡ 0 = rw sub-zero at (subst (λ (x : ℕ). at vs (suc m) % 2 ^ (W - x) ≡ 0) e p.clear) in
        sym (mod-eq_of_lt p.small) ∙ z

    not_first : at ls (suc m) ≡ 0 → ⊥
    not_first e =
        let v = val_zero e in
        ⊎_elim (λ (l : at vs m < at vs (suc m)). omega arith) (λ (l : (at vs m ≡ at vs (suc m)) × (at ls m < at ls (suc m))). omega (arith, l.1))
        (sorted W (at vs) (at ls) (at hs) (length vs) t.entry m (suc m) (omega arith) h)

first_mark_lem : (W : ℕ) (val len mark : ℕ → ℕ) → val 0 < 2 ^ W → mark_at W val len mark 1 0 0 ≡ cond (eqb (len 0) 0) (mark 0) 0
unfolding mark_at whole_entry
first_mark_lem W val len mark h = rw (start_none W (val 0) h) (go (eqb (len 0) 0))
  where
    go : (b : Bool) → cond (b && true) (mark 0) 0 ≡ cond b (mark 0) 0
    go true = refl
    go false = refl

pub floor_none : (W : ℕ) (vs ls hs : List ℕ) → Table W vs ls hs → length ls ≡ 0 → table_floor W vs ls hs ≡ 0
unfolding floor_of mark_at
floor_none W vs ls hs t e = let z : length vs ≡ 0 = omega (arith, t.lengths) in rw z refl

pub floor_first : (W : ℕ) (vs ls hs : List ℕ) → Table W vs ls hs → 0 < length ls → table_floor W vs ls hs ≡ cond (eqb (at ls 0) 0) (at hs 0) 0
unfolding floor_of
floor_first W [] ls hs t h = absurd (omega (arith, t.lengths))
floor_first W (v ∷ vs) ls hs t h =
    later_none W t (length vs) (le_refl (suc (length vs)))
    ∙ first_mark_lem W (at (v ∷ vs)) (at ls) (at hs) (t.entry 0 (omega arith)).prefix.small

-- ---- the tests

pub early : (W k links : ℕ) (vs ls hs : List ℕ) (words room least : ℕ) {r : Refusal} → outcome (choose_tests W k links vs ls hs words) ≡ Err r
    → outcome (build_tests W k links vs ls hs words room least) ≡ Err r
unfolding build_tests and_then
early W k links vs ls hs words room least e = outcome_append (choose_tests W k links vs ls hs words) (room_test least room ∷ []) ∙ ap (λ (o : Outcome). and_then o (outcome (room_test least room ∷ []))) e

pub late : (W k links : ℕ) (vs ls hs : List ℕ) (words room least : ℕ) → outcome (choose_tests W k links vs ls hs words) ≡ Ok tt
    → outcome (build_tests W k links vs ls hs words room least) ≡ outcome (room_test least room ∷ [])
unfolding build_tests and_then
late W k links vs ls hs words room least e = outcome_append (choose_tests W k links vs ls hs words) (room_test least room ∷ []) ∙ ap (λ (o : Outcome). and_then o (outcome (room_test least room ∷ []))) e

pub numbered_build : (W k links : ℕ) (vs ls hs : List ℕ) (words room least : ℕ) → Numbered 7 (build_tests W k links vs ls hs words room least)
unfolding build_tests
numbered_build W k links vs ls hs words room least =
    numbered_append 7 (choose_tests W k links vs ls hs words) (room_test least room ∷ []) (numbered_choose 7 (omega arith) W k links vs ls hs words) ((omega arith, omega arith), tt)

-- test 7, by the room that was found
pub room_is : (rows : Lists) (e : ℕ) {room : ℕ} {t b : Bool} → room ≡ shortest rows → t ≡ (ltb room e || ltb ELEMENTS e) → t ≡ b
    → (ltb (shortest rows) e || ltb ELEMENTS e) ≡ b
room_is rows e r t b = sym (rw r at t) ∙ b

-- ---- the first stride that the record names is the root's

first_stride : (kind : Kind) (k : ℕ) (t : Trie) → 1 ≤ k → get_or (padded LEVELS (strides_by plain kind k t)) 0 0 ≡ stride_of (chosen_by plain kind k t) k t
unfolding strides_by chosen_by fixed_stride variable_stride padded pick_by fixed_strides list_by depth
first_stride kind zero t h = absurd (omega arith)
first_stride fixed (suc m) none h = no_levels m
  where
    no_levels : (m : ℕ) → get_or (padded LEVELS (list_by plain (λ i. nodes_at i none) m 0 0)) 0 0 ≡ 0
    no_levels zero = refl
    no_levels (suc m) = refl
first_stride fixed (suc m) (node p a q b) h =
    padded_read LEVELS (fixed_strides plain (suc m) (node p a q b)) 0 (omega arith)
    ∙ ap (λ (x : ℕ). get_or (fixed_strides plain (suc m) (node p a q b)) x 0) (let e : 0 ≡ suc m - suc m = omega arith in e)
first_stride variable (suc m) none h = refl
first_stride variable (suc m) (node p a q b) h = refl

-- ---- the rows of a plan: its strides, whichever follow the tie rule, are those that the recurrences find wherever a block begins

module _ {kind : Kind} {W k : ℕ} {vs ls hs : List ℕ} {cost root : ℕ} {strides plan rows : List ℕ} (g : PlanFor kind W k vs ls hs cost strides plan root rows) where
  abbrev trie : Trie
  trie = table_trie W vs ls hs

  abbrev σ : Strides
  σ = g.planned.holds.σ

  depth_width : depth trie ≤ W
  depth_width = trie_depth_width W (at vs) (at ls) (entry_marks ls hs) (length vs) (λ i h. (g.table.entry i h).prefix)

  plan_good : Good σ trie W 0 k
  plan_good = follows_good kind k trie W σ g.levels.0 depth_width g.planned.holds.follows

  plan_agrees : Agree σ (chosen_by plain kind k trie) trie 0 k
  plan_agrees =
      let chosen = chosen_by plain kind k trie in
      same_agree σ chosen trie W 0 k plan_good (follows_unique kind k trie σ chosen g.planned.holds.follows (chosen_follows kind k trie g.levels.0))

  count_cost_is : row_count σ k trie ≡ cost
  count_cost_is =
      count_cost σ trie k
      ∙ cheapest_unique kind k trie (follows_cheapest kind k trie σ g.levels.0 g.planned.holds.follows) (least_cheapest kind k trie g.levels.0)
      ∙ sym g.planned.least

  -- ---- the builder may be called

  pub may_lay : (lent : Lists) → (ltb (shortest lent) cost || ltb ELEMENTS cost) ≡ false → LayAsks σ trie rows (take k plan) root W k lent
  may_lay lent fits =
      let f = or_false (ltb (shortest lent) cost) (ltb ELEMENTS cost) fits in
      let le : length (take k plan) ≡ k = length-take k plan ∙ omega (arith, g.planned.holds.long, g.levels.1) in
      record {
        trunk = record {
          stands = g.planned.holds.stands;
          good = plan_good;
          narrow = g.table.width;
          levels = omega (arith, le, g.levels);
          planned = omega (arith, le, g.levels);
        };
        room = record {
          fits = omega (arith, count_cost_is, ltb-false (shortest lent) cost f.0);
          few = omega (arith, count_cost_is, ltb-false ELEMENTS cost f.1);
        };
      }

  -- the root's stride in the record is that of the root's block
  root_named : get_or strides 0 0 ≡ stride_of σ k trie
  root_named =
      ap (λ (ss : List ℕ). get_or ss 0 0) g.planned.named ∙ first_stride kind k trie g.levels.0
      ∙ sym (stride_same σ (chosen_by plain kind k trie) trie k plan_agrees)

  -- ---- accepted: what `lay` gave, with the record's fields

  accepted_laid : {lent lent' : Lists} {e : ℕ} (rec : Record) → LayAsks σ trie rows (take k plan) root W k lent → LayGives σ trie k lent e lent'
      → shortest lent' ≡ shortest lent → rec.width ≡ W → rec.levels ≡ k → rec.elements ≡ cost → rec.floor ≡ table_floor W vs ls hs → rec.strides ≡ strides
      → Laid WIDTH W vs ls hs (chosen_by plain kind k trie) k rec lent'
  accepted_laid rec asks gives s ew ek ee ef es =
      laid_agree plan_agrees (chosen_good plain kind k trie W g.levels.0 depth_width)
      (record {
        table = g.table;
        width = ew;
        levels = ek;
        floor = ef;
        built = lays_built rec asks gives s g.table.some_width g.levels.0 ew ek (ee ∙ sym count_cost_is ∙ sym gives.count)
            (ap (λ (ss : List ℕ). get_or ss 0 0) es ∙ root_named);
      })

-- ---- the three answers

-- refused: nothing is written
nothing_written : (kind : Kind) (W k : ℕ) (vs ls hs : List ℕ) (lent : Lists) (r : Refusal) → RowsAre kind W k vs ls hs lent (Err r) (record_of (Err r)) lent
nothing_written kind W k vs ls hs lent r = record {
  laid = λ a. absurd (refused_not_accepted a);
  named = λ a. absurd (refused_not_accepted a);
  keeps = record {
    hops = refl;
    lens = refl;
    links = refl;
    strides = refl;
    later = λ a. absurd (refused_not_accepted a);
    refused = λ ne. (record { width = refl; levels = refl; elements = refl; floor = refl; strides = refl }, refl);
  };
}

module _ {kind : Kind} {W k : ℕ} {vs ls hs : List ℕ} {cost root : ℕ} {strides plan rows : List ℕ} (g : PlanFor kind W k vs ls hs cost strides plan root rows)
    (lent : Lists) where
  -- refused by 7
  pub crowded_is : (ltb (shortest lent) cost || ltb ELEMENTS cost) ≡ true
      → RowsBuilt kind W k vs ls hs lent (Err (Room cost)) (record_of (Err (Room cost))) lent
  unfolding outcome
  crowded_is f = record {
    tests = sym (rw (sym g.planned.least) (outcome_fails (room_test cost (shortest lent)) [] f));
    written = nothing_written kind W k vs ls hs lent (Room cost);
  }

  -- built: what `lay` gave, with the record's fields
  pub built_is : {rec : Record} (lent' : Lists) {e : ℕ} → (ltb (shortest lent) cost || ltb ELEMENTS cost) ≡ false → Lays rows (take k plan) root W k lent e lent'
      → length lent'.hop ≡ length lent.hop → length lent'.len ≡ length lent.len → length lent'.link ≡ length lent.link → length lent'.stride ≡ length lent.stride
      → rec.width ≡ W → rec.levels ≡ k → rec.elements ≡ cost → rec.floor ≡ table_floor W vs ls hs → rec.strides ≡ strides
      → RowsBuilt kind W k vs ls hs lent (Ok tt) rec lent'
  unfolding outcome
  built_is {rec} lent' {e} f lays sh se sl ss ew ek ee ef es =
      let asks = may_lay g lent f in
      let gives = lays _ _ asks in
      let same : shortest lent' ≡ shortest lent = omega arith in
      let count : cost ≡ e = sym (count_cost_is g) ∙ sym gives.count in
      record {
        tests = sym (rw (sym g.planned.least) (outcome_passes (room_test cost (shortest lent)) [] f));
        written = record {
          laid = λ a. accepted_laid g rec asks gives same ew ek ee ef es;
          named = λ a. es ∙ g.planned.named;
          keeps = record { hops = sh; lens = se; links = sl; strides = ss; later = λ a i h. gives.after i (omega (arith, count, ee)); refused = λ ne. absurd (ne refl) };
        };
      }

module _ {kind : Kind} {W k links : ℕ} {vs ls hs scratch : List ℕ} {planned : Outcome} {cost root : ℕ} {strides plan rows : List ℕ}
    (p : PlanIs kind W k links vs ls hs scratch planned cost strides plan root rows) where
  -- an accepted plan is one for this table
  pub plan_for : planned ≡ Ok tt → PlanFor kind W k vs ls hs cost strides plan root rows
  plan_for e =
      let a = sym p.chosen.tests ∙ e in
      record { table = accepted_tests_table W k links vs ls hs (length scratch) a; levels = accepted_levels W k links vs ls hs (length scratch) a; planned = plan_made p e }

  module _ (lent : Lists) where
    -- refused by 1 to 6
    pub early_is : {r : Refusal} → planned ≡ Err r → BuildIs kind W k links vs ls hs scratch lent (Err r) (record_of (Err r)) rows lent
    unfolding if_accepted
    early_is {r} f =
        let t = sym p.chosen.tests ∙ f in
        record {
          tests = sym (early W k links vs ls hs (length scratch) (shortest lent) (least_by plain kind k (table_trie W vs ls hs)) t);
          after = (p.refused (λ a. refused_not_accepted (sym f ∙ a))).kept ∙ rw t refl;
          written = nothing_written kind W k vs ls hs lent r;
        }

    -- past them
    pub past_is : {out : Outcome} {rec : Record} {scratch' : List ℕ} {lent' : Lists} → planned ≡ Ok tt → RowsBuilt kind W k vs ls hs lent out rec lent' → scratch' ≡ replicate (length scratch) 0
        → BuildIs kind W k links vs ls hs scratch lent out rec scratch' lent'
    unfolding if_accepted
    past_is f b z =
        let t = sym p.chosen.tests ∙ f in
        record {
          tests = b.tests ∙ sym (late W k links vs ls hs (length scratch) (shortest lent) (least_by plain kind k (table_trie W vs ls hs)) t);
          after = rw t z;
          written = b.written;
        }

-- ---- and what it means

module _ (kind : Kind) (W k links : ℕ) (vs ls hs : List ℕ) where
  -- the tests take no other number than the least cost of all choices
  pub tests_least : (words room least : ℕ) → (1 ≤ k → Cheapest kind k (table_trie W vs ls hs) least)
      → outcome (build_tests W k links vs ls hs words room (least_by plain kind k (table_trie W vs ls hs))) ≡ outcome (build_tests W k links vs ls hs words room least)
  tests_least words room least c = go (outcome (choose_tests W k links vs ls hs words)) refl
    where
      go : (o : Outcome) → outcome (choose_tests W k links vs ls hs words) ≡ o
          → outcome (build_tests W k links vs ls hs words room (least_by plain kind k (table_trie W vs ls hs))) ≡ outcome (build_tests W k links vs ls hs words room least)
      go (Ok tt) e =
          let some = (accepted_levels W k links vs ls hs words e).0 in
          ap (λ (m : ℕ). outcome (build_tests W k links vs ls hs words room m)) (cheapest_unique kind k (table_trie W vs ls hs) (least_cheapest kind k (table_trie W vs ls hs) some) (c some))
      go (Err r) e = early W k links vs ls hs words room (least_by plain kind k (table_trie W vs ls hs)) e ∙ sym (early W k links vs ls hs words room least e)

module _ {kind : Kind} {W k links : ℕ} {vs ls hs scratch : List ℕ} {rows : Lists} {out : Outcome} {rec : Record} {scratch' : List ℕ} {rows' : Lists}
    (b : BuildIs kind W k links vs ls hs scratch rows out rec scratch' rows') where
  abbrev T : Trie
  T = table_trie W vs ls hs

  abbrev tests : List Test
  tests = choose_tests W k links vs ls hs (length scratch)

  some_levels : out ≡ Ok tt → 1 ≤ k
  some_levels e = let l = b.written.laid e in omega (arith, l.levels, l.built.levels.0)

  pub build_means : Builds kind W k links vs ls hs scratch rows out rec scratch' rows'
  unfolding if_accepted
  build_means = record {
    tested = λ least c.
        subst (Gives (build_tests W k links vs ls hs (length scratch) (shortest rows) least)) (sym (b.tests ∙ tests_least kind W k links vs ls hs (length scratch) (shortest rows) least c))
        (outcome_gives (build_tests W k links vs ls hs (length scratch) (shortest rows) least));
    laid = λ e. (chosen_by plain kind k T, chosen_follows kind k T (some_levels e), b.written.laid e);
    named = λ e. (strides_by plain kind k T, strides_named kind k T (some_levels e), b.written.named e);
    zeroed = λ a. b.after ∙ rw (sym (gives_outcome tests (Ok tt) a));
    untouched = λ ne. b.after ∙ kept (outcome tests) refl ne;
    keeps = b.written.keeps;
  }
    where
      kept : (o : Outcome) → outcome tests ≡ o → (Gives tests (Ok tt) → ⊥) → if_accepted o (replicate (length scratch) 0) scratch ≡ scratch
      kept (Ok tt) e ne = absurd (ne (subst (Gives tests) e (outcome_gives tests)))
      kept (Err r) e ne = refl
