-- What a classification finds in tries that are laid as a build of rules leaves them: the chain of source tries comes to its end, and the
-- action where it stops is that of the rule that wins.
use mathlib.Core.Path.{◌≡◌, refl, sym, ap, subst, ◌∙◌}
use mathlib.Core.Bool.{Bool, true, false, cond, ◌&&◌, true≢false}
use mathlib.Core.List.{List, [], ◌∷◌, append-nil, Memᴰ}
use mathlib.Core.Logic.{⊎_elim, ◌↔◌}
use Prim.Native.Nat.{ℕ, zero, suc, ◌+◌, ◌-◌, ◌^◌, ◌≤◌, ◌<◌}
use native.Mathlib.Nat.{add_assoc}
use native.Mathlib.Omega.{arith}
use native.Mathlib.Decide.{dec_le}
use lib.Dec.{ltb}
use lib.ListN.{length}
use borrow.Author.Tests.{ltb-true, ltb-false}
use Rattle.table.specs.Table.{at, Entry}
use Rattle.table.specs.Longest.{matches, NoMatch, of_winner, IsBest, Wins, no_winner, some}
use Rattle.table.proofs.Bools.{and_true, and_both}
use Rattle.table.proofs.Longest.{wins_within, longest_zero, longest_winner}
use Rattle.walk.specs.Limits.{WIDTH}
use Rattle.walk.specs.Rows.{Lists, shortest}
use Rattle.walk.specs.Answers.{number_of, hop_of}
use Rattle.walk.specs.Lookup.{lookup_of}
use Rattle.walk.specs.Meaning.{OnPath}
use Rattle.walk.specs.Cases.{Answer}
use Rattle.walk.specs.Refusals.{passes}
use Rattle.walk.proofs.Looked.{damage_refused}
use Rattle.walk.proofs.Tests.{within_not}
use Rattle.walk.proofs.Unique.{on_path_unique}
use Rattle.walk.proofs.Reading.{rows_on_path, best_path}
use Rattle.layout.specs.Blocks.{Strides, rows_along}
use Rattle.layout.proofs.Laid.{accepted, hop_longest, laid_longest, rows_exactly}
use Rattle.fields.specs.Rules.{Rules, rule_count, GoodRules}
use Rattle.fields.specs.Runs.{EntryLists, trie_table, sum_first, Falls}
use Rattle.fields.proofs.Chain.{visited_from, stops_at, overrun, chain_stops, chain_never_over, chain_visits, chain_falls}
use Rattle.fields.specs.Winning.{matches_rule, TopRule}
use Rattle.fields.proofs.Tables.{dest_lengths, dest_at, source_lengths, source_at}
use Rattle.fields.proofs.Top.{entry_matches, top_found, top_none}
use Rattle.verdicts.specs.Limits.{VISITS}
use Rattle.verdicts.specs.Tries.{trie_row, source_record, from_place, at_place}
use Rattle.verdicts.specs.Meaning.{BadTrie, past_list, past_rows, breaks_rule, SourcePath, action_on, VisitsTries, no_more, matched_in, goes_on}
use Rattle.verdicts.specs.Meaning.{called_first, RuleDamage, short_lists, past_all, breaks_dest, breaks_source, TriesWay, Classified}
use Rattle.verdicts.specs.declared.record.RuleRecord.{RuleRecord}
use Rattle.verdicts.specs.Cases.{Verdict}
use Rattle.verdicts.proofs.Alone.{shortest_from}
use Rattle.verdicts.proofs.Answers.{verdict, verdict_number_lem, verdict_action, verdict_reads_lem, verdict_case}
use Rattle.verdicts.proofs.Unique.{visits_unique, classified_unique}
use Rattle.rules.specs.Build.{RunsOf, rule_trie, TriesLaid}
use Rattle.rules.specs.Deciding.{ActionIs, no_rule, top_rule, Calls, rows_through, rows_on_way}
use Rattle.rules.proofs.Sums.{sum_mono}

-- rows that fit from a place on end in the list, where there are any
to_end : (p e n : ℕ) → 0 < e → e ≤ n - p → p + e ≤ n
to_end p e n z h = omega arith

module _ {W k : ℕ} {rs : Rules} {m : ℕ} {from : ℕ → ℕ} {σ : ℕ → Strides} {rec : RuleRecord} {rows : Lists} {list : List ℕ}
    (laid : TriesLaid W k rs m from σ rec rows list) where
  -- ---- all rows are there

  -- a source trie ends before the E of all tries
  within_all : (g : ℕ) → g < m → (trie_row list g).place + (trie_row list g).elements ≤ rec.elements
  within_all g h = omega (arith, laid.place g h, laid.all, sum_mono (λ j. (trie_row list j).elements) g m h)

  ends_fit : (g : ℕ) → g ≤ m → rec.dest.elements + sum_first (λ j. (trie_row list j).elements) g ≤ shortest rows
  unfolding sum_first
  ends_fit zero h = omega (arith, laid.dest.built.room)
  ends_fit (suc g) h = elim (dec_le (trie_row list g).elements 0) [
    | yes z ↦ omega (arith, ends_fit g (omega arith))
    | no z ↦
        let p = (trie_row list g).place in
        let e = (trie_row list g).elements in
        let q : p + e ≤ shortest rows = to_end p e (shortest rows) (omega arith) (rw (shortest_from p rows) at (laid.source g h).built.room) in
        subst (λ (x : ℕ). x ≤ shortest rows) (ap (λ (x : ℕ). x + e) (laid.place g h) ∙ add_assoc _ _ e) q
  ]

  all_fit : rec.elements ≤ shortest rows
  all_fit = subst (λ (x : ℕ). x ≤ shortest rows) (sym laid.all) (ends_fit m (omega arith))

  -- ---- one source trie

  -- the number of the trie after it
  abbrev next : ℕ → ℕ
  next g = (trie_row list g).next

  module _ (sa : ℕ) (hs : sa < 2 ^ W) where
    -- its lookup, and the rows on the source's path in it
    abbrev found : ℕ → Answer
    found g = lookup_of WIDTH (source_record W k (trie_row list g)) (from_place (trie_row list g).place rows) sa

    abbrev rows_in : ℕ → List ℕ
    rows_in g = rows_along (σ (suc g)) W k (rule_trie W rs m from (suc g)) sa

    source_sound : (g : ℕ) → g < m → BadTrie rec rows list sa g → ⊥
    source_sound g h (past_list q) = omega (arith, laid.listed)
    source_sound g h (past_rows q) = omega (arith, within_all g h)
    source_sound g h (breaks_rule d) =
        let L = laid.source g h in
        let e : number_of (found g) ≡ 9 =
        ap number_of (damage_refused WIDTH _ _ sa L.built.width L.built.levels hs (rw (laid.dest.width, laid.dest.levels) at d)) in
        omega (arith, accepted L sa hs, e)

    source_path : (g : ℕ) → g < m → SourcePath rec rows list sa g (rows_in g)
    source_path g h =
        let L = laid.source g h in
        record {
          sound = source_sound g h;
          path = rw (laid.dest.width, laid.dest.levels, ← rows_exactly L sa hs) (rows_on_path WIDTH _ _ sa (accepted L sa hs));
        }

    action_is : (g : ℕ) → g < m → action_on rec rows list sa g (rows_in g) ≡ hop_of (found g)
    action_is g h = let L = laid.source g h in rw (← rows_exactly L sa hs) (sym (best_path WIDTH _ _ sa (accepted L sa hs)).0)

    -- ---- the chain of source tries

    abbrev hit : ℕ → Bool
    hit g = ltb 0 (hop_of (found g))

    abbrev action_at : ℕ → ℕ
    action_at = of_winner (λ g. hop_of (found g))

    abbrev Visited : (f n : ℕ) → Type 0
    Visited f n =
        VisitsTries rec rows list sa f n (visited_from next hit f n) (rows_through list rows_in (visited_from next hit f n)) (action_at (stops_at next hit f n)) true

    visited : (f n : ℕ) → n ≤ m → overrun next hit f n ≡ false → Visited f n
    unfolding visited_from stops_at overrun rows_through of_winner
    visited zero zero h o = no_more
    visited zero (suc g) h o = absurd (true≢false o)
    visited (suc f) zero h o = no_more
    visited (suc f) (suc g) h o = go (hit g) refl o (visited f (next g) (wins_within (laid.next g h)))
      where
        go : (t : Bool) → hit g ≡ t → cond t false (overrun next hit f (next g)) ≡ false → (overrun next hit f (next g) ≡ false → Visited f (next g))
            → VisitsTries rec rows list sa (suc f) (suc g) (g ∷ cond t [] (visited_from next hit f (next g)))
            (rows_through list rows_in (g ∷ cond t [] (visited_from next hit f (next g)))) (action_at (cond t (suc g) (stops_at next hit f (next g)))) true
        go true e o rest =
            rw (append-nil (at_place (trie_row list g).place (rows_in g)), ← action_is g h)
            (matched_in (source_path g h) (omega (arith, action_is g h, ltb-true 0 (hop_of (found g)) e)))
        go false e o rest = goes_on (source_path g h) (omega (arith, action_is g h, ltb-false 0 (hop_of (found g)) e)) (rest o)

  -- ---- the whole way

  module _ (good : GoodRules W rs) (da sa : ℕ) (hd : da < 2 ^ W) (hs : sa < 2 ^ W) where
    abbrev dests : EntryLists
    dests = trie_table rs m from 0

    abbrev called : ℕ
    called = hop_of (lookup_of WIDTH rec.dest rows da)

    entry : (i : ℕ) → i < m → Entry W (at dests.vals) (at dests.lens) (at dests.hops) i
    entry i h = laid.dest.table.entry i (omega (arith, (dest_lengths rs m from).0))

    -- the destination's lookup finds the number of the longest destination that begins the address
    start_at : Wins (matches W (at dests.vals) (at dests.lens) da) (at dests.lens) m called
    unfolding of_winner
    start_at =
        let w = longest_winner W (at dests.vals) (at dests.lens) (at dests.hops) (length dests.vals) da (laid_longest laid.dest da hd) in
        go w.0 (subst (λ (n : ℕ). Wins (matches W (at dests.vals) (at dests.lens) da) (at dests.lens) n w.0) (dest_lengths rs m from).0 w.1) w.2
      where
        go : (b : ℕ) → Wins (matches W (at dests.vals) (at dests.lens) da) (at dests.lens) m b → called ≡ of_winner (at dests.hops) b
            → Wins (matches W (at dests.vals) (at dests.lens) da) (at dests.lens) m called
        go zero w e = rw e w
        go (suc j) w e = rw (e, (dest_at rs m from j (wins_within w)).2) w

    high : W < VISITS
    high = omega (arith, good.width)

    abbrev stop : ℕ
    stop = stops_at next (hit sa hs) VISITS called

    -- the tries visited
    abbrev pub tries_visited : List ℕ
    tries_visited = visited_from next (hit sa hs) VISITS called

    -- the action where the visiting stops
    abbrev pub action_found : ℕ
    action_found = action_at sa hs stop

    visits_all : Visited sa hs VISITS called
    visits_all =
        visited sa hs VISITS called (wins_within start_at)
        (chain_never_over W (at dests.vals) (at dests.lens) (at dests.hops) m da entry next laid.next (hit sa hs) VISITS called high start_at)

    -- ---- the rows on the way

    abbrev dest_rows : List ℕ
    dest_rows = rows_along (σ 0) W k (rule_trie W rs m from 0) da

    dest_on_path : OnPath rec.dest rows da dest_rows
    dest_on_path = rw (← rows_exactly laid.dest da hd) (rows_on_path WIDTH _ _ da (accepted laid.dest da hd))

    called_is : called_first rec rows list da sa dest_rows ≡ called
    called_is = rw (← rows_exactly laid.dest da hd) (sym (best_path WIDTH _ _ da (accepted laid.dest da hd)).0)

    pub laid_way : TriesWay rec rows list da sa tries_visited (rows_on_way W k rs m from σ list da sa tries_visited) action_found
    laid_way = record {
      dest_rows = dest_rows;
      source_rows = rows_through list (rows_in sa hs) tries_visited;
      dest_path = dest_on_path;
      visits = rw called_is visits_all;
      all_rows = refl;
    }

    -- nothing is damaged
    undamaged : RuleDamage rec rows list da sa → ⊥
    undamaged (short_lists d) = omega (arith, all_fit)
    undamaged (past_all d) = omega (arith, laid.all)
    undamaged (breaks_dest d) =
        let L = laid.dest in
        let e : number_of (lookup_of WIDTH rec.dest rows da) ≡ 9 =
        ap number_of (damage_refused WIDTH _ _ da L.built.width L.built.levels (rw L.width hd) d) in
        omega (arith, accepted L da hd, e)
    undamaged (breaks_source {rs = xs} {ts = ts} {rows = ys} {a = a} o v) =
        let e : xs ≡ laid_way.dest_rows = on_path_unique o laid_way.dest_path in
        let u = subst (λ (zs : List ℕ). VisitsTries rec rows list sa VISITS (called_first rec rows list da sa zs) ts ys a false) e v in
        true≢false (visits_unique laid_way.visits u).3

    -- so the verdict is that of the action found, after as many reads as there are rows on the way
    found_classified : Classified rec rows list da sa WIDTH (verdict action_found (length (rows_on_way W k rs m from σ list da sa tries_visited)))
    found_classified =
        let n = length (rows_on_way W k rs m from σ list da sa tries_visited) in
        let L = laid.dest in
        record {
          tested = rw (verdict_number_lem action_found n) (passes (within_not L.built.width) (passes (within_not L.built.levels)
              (passes (λ o. ⊎_elim (λ (a : 2 ^ rec.dest.width ≤ da). omega (arith, rw L.width at a)) (λ (b : 2 ^ rec.dest.width ≤ sa). omega (arith, rw L.width at b)) o)
              (passes undamaged refl))));
          told = λ z. (tries_visited, rows_on_way W k rs m from σ list da sa tries_visited, rw (verdict_action action_found n) laid_way, verdict_reads_lem action_found n);
          case = verdict_case action_found n;
        }

    pub verdict_found : {v : Verdict} → Classified rec rows list da sa WIDTH v
        → v ≡ verdict action_found (length (rows_on_way W k rs m from σ list da sa tries_visited))
    verdict_found c = classified_unique c found_classified

    -- ---- who wins

    -- destination g begins the one address, and has a source that begins the other
    abbrev matches_both : ℕ → Bool
    matches_both g = matches W (at dests.vals) (at dests.lens) da g && hit sa hs g

    module _ (runs : RunsOf rs m from) where
      -- it stops at the longest such destination
      stops : Wins matches_both (at dests.lens) m stop
      stops = chain_stops W (at dests.vals) (at dests.lens) (at dests.hops) m da entry next laid.next (hit sa hs) VISITS called high start_at

      misses : (g : ℕ) → g < m → hit sa hs g ≡ false
          → NoMatch W (at (trie_table rs m from (suc g)).vals) (at (trie_table rs m from (suc g)).lens) (length (trie_table rs m from (suc g)).vals) sa
      misses g h e =
          let L = laid.source g h in
          let t = trie_table rs m from (suc g) in
          (longest_zero W (at t.vals) (at t.lens) (at t.hops) (length t.vals) sa (λ i l. (L.table.entry i l).some_hop)).0
          (sym (hop_longest L sa hs) ∙ omega (arith, ltb-false 0 (hop_of (found sa hs g)) e))

      -- the rule that wins is one of that destination: the one of the source that is found
      record WinsIn (g : ℕ) : Type 0 where
        rule : ℕ
        top : TopRule W rs da sa rule
        action : hop_of (found sa hs g) ≡ at rs.actions rule
        length_is : at rs.dlens rule ≡ at dests.lens g

      wins_in : (g : ℕ) → IsBest matches_both (at dests.lens) m g → WinsIn g
      unfolding of_winner
      wins_in g r =
          let t = trie_table rs m from (suc g) in
          let w = longest_winner W (at t.vals) (at t.lens) (at t.hops) (length t.vals) sa (laid_longest (laid.source g r.inside) sa hs) in
          go w.0 w.1 w.2
        where
          go : (b : ℕ) → Wins (entry_matches W (trie_table rs m from (suc g)) sa) (at (trie_table rs m from (suc g)).lens) (length (trie_table rs m from (suc g)).vals) b
              → hop_of (found sa hs g) ≡ of_winner (at (trie_table rs m from (suc g)).hops) b → WinsIn g
          go zero w e =
              let t = and_true (matches W (at dests.vals) (at dests.lens) da g) (hit sa hs g) r.marked in
              absurd (omega (arith, e, ltb-true 0 (hop_of (found sa hs g)) t.1))
          go (suc j) (some b) e =
              let l : j < from (suc g) - from g = omega (arith, b.inside, (source_lengths W rs good runs g r.inside).0) in
              record {
                rule = from g + j;
                top = top_found W rs good runs da sa (hit sa hs) misses g j (subst (λ (n : ℕ). IsBest matches_both (at dests.lens) n g) (sym (dest_lengths rs m from).0) r) b;
                action = e ∙ (source_at rs m from g j l).2;
                length_is = (runs.same g (from g + j) r.inside (omega arith) (omega arith)).1 ∙ sym (dest_at rs m from g r.inside).1;
              }

      pub laid_decides : ActionIs W rs da sa action_found
      unfolding of_winner
      laid_decides = go stop stops
        where
          go : (b : ℕ) → Wins matches_both (at dests.lens) m b → ActionIs W rs da sa (action_at sa hs b)
          go zero (no_winner nil) = no_rule (top_none W rs good runs da sa (hit sa hs) misses nil)
          go (suc g) (some r) = let w = wins_in g r in rw w.action (top_rule w.top)

      -- ---- which tries are visited

      visits_exactly : (x : ℕ) → Memᴰ x tries_visited ↔ ((x < m) × (matches W (at dests.vals) (at dests.lens) da x ≡ true)
          × ((j : ℕ) → j < m → matches W (at dests.vals) (at dests.lens) da j ≡ true → hit sa hs j ≡ true → at dests.lens j ≤ at dests.lens x))
      visits_exactly =
          chain_visits W (at dests.vals) (at dests.lens) (at dests.hops) m da entry next laid.next (hit sa hs) VISITS called high start_at

      -- those of destinations that begin the address, where no rule that matches has a longer one
      pub tries_called : (x : ℕ) → Memᴰ x tries_visited ↔ Calls W rs m from da sa x
      unfolding matches
      tries_called x = (
        λ i. let d = (visits_exactly x).0 i in record { inside = d.0; begun = d.1; most = λ j l t. longer stop stops d.2 j l t },
        λ c. (visits_exactly x).1 (c.inside, c.begun, λ j l e t. shorter stop stops c.most j l (and_both _ _ e t)),
      )
        where
          longer : (b : ℕ) → Wins matches_both (at dests.lens) m b
              → ((j : ℕ) → j < m → matches W (at dests.vals) (at dests.lens) da j ≡ true → hit sa hs j ≡ true → at dests.lens j ≤ at dests.lens x)
              → (i : ℕ) → i < rule_count rs → matches_rule W rs da sa i ≡ true → at rs.dlens i ≤ at dests.lens x
          longer zero (no_winner nil) d i l t = absurd (true≢false (sym t ∙ top_none W rs good runs da sa (hit sa hs) misses nil i l))
          longer (suc g) (some r) d i l t =
              let w = wins_in g r in
              let both = and_true (matches W (at dests.vals) (at dests.lens) da g) (hit sa hs g) r.marked in
              let le = d g r.inside both.0 both.1 in
              ⊎_elim (λ (q : at rs.dlens i < at rs.dlens w.rule). omega (arith, q, w.length_is, le))
              (λ (q : (at rs.dlens i ≡ at rs.dlens w.rule) × (at rs.slens i ≤ at rs.slens w.rule)). omega (arith, q.0, w.length_is, le)) (w.top.most i l t)

          shorter : (b : ℕ) → Wins matches_both (at dests.lens) m b
              → ((i : ℕ) → i < rule_count rs → matches_rule W rs da sa i ≡ true → at rs.dlens i ≤ at dests.lens x)
              → (j : ℕ) → j < m → matches_both j ≡ true → at dests.lens j ≤ at dests.lens x
          shorter zero (no_winner nil) c j l t = absurd (true≢false (sym t ∙ nil j l))
          shorter (suc g) (some r) c j l t =
              let w = wins_in g r in omega (arith, r.most j l t, w.length_is, c w.rule w.top.inside w.top.marked)

    -- the lengths of their destinations fall
    pub tries_fall : Falls (at dests.lens) (suc W) tries_visited
    tries_fall =
        chain_falls W (at dests.vals) (at dests.lens) (at dests.hops) m da entry next laid.next (hit sa hs) VISITS called high start_at
