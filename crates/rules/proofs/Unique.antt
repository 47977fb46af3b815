-- What the promise of a build of rules means leaves one result: outcome, record, scratch, element lists and list of tries. From the meaning
-- alone; nothing here knows the recurrences' choice but as one that is cheapest.
use mathlib.Core.Path.{◌≡◌, refl, sym, ap, subst, ◌∙◌}
use mathlib.Core.List.{List, [], ◌∷◌}
use mathlib.Core.Logic.{⊎_elim}
use Prim.Native.Nat.{ℕ, zero, suc, ◌+◌, ◌-◌, ◌*◌, ◌/◌, ◌%◌, ◌≤◌, ◌<◌}
use native.Mathlib.Nat.{add-zero}
use native.Mathlib.Decide.{dec_le}
use native.Mathlib.Omega.{arith}
use lib.ListN.{length}
use lib.Seq.{ext_get_or}
use Rattle.tries.proofs.Laying.{same_rows_one}
use Rattle.tries.proofs.Unique.{record_same}
use Rattle.std.specs.Prelude.{Ok, Err}
use Rattle.table.specs.Table.{at}
use Rattle.table.specs.Refusals.{Outcome, Test, outcome, Gives}
use Rattle.table.specs.Lists.{padded}
use Rattle.table.specs.Longest.{Wins}
use Rattle.table.proofs.Lists.{padded_read}
use Rattle.table.proofs.Refusals.{outcome_gives, gives_unique, gives_outcome, refused_not_accepted, accepted_or}
use Rattle.strides.specs.Trie.{Trie}
use Rattle.strides.specs.Cheapest.{Kind, Named}
use Rattle.strides.specs.Recurrence.{plain, least_by}
use Rattle.strides.specs.Strides.{Good, Follows}
use Rattle.strides.proofs.Cheapest.{least_cheapest, named_unique}
use Rattle.strides.proofs.Follows.{follows_unique}
use Rattle.walk.specs.declared.record.Record.{Record}
use Rattle.walk.specs.Limits.{WIDTH, LEVELS}
use Rattle.walk.specs.Rows.{Lists, shortest, row_at, root}
use Rattle.layout.specs.Blocks.{Strides, stride_of, rows_of, row_count, Hold, Agree}
use Rattle.layout.specs.Laid.{table_trie, Laid}
use Rattle.layout.proofs.Agreeing.{same_agree, laid_agree}
use Rattle.layout.proofs.Blocks.{hold_unique, rows_length}
use Rattle.layout.proofs.Laid.{elements_cost}
use Rattle.fields.specs.Rules.{Rules, rule_count}
use Rattle.fields.specs.Runs.{EntryLists, trie_table, sum_first, starts_shorter}
use Rattle.fields.proofs.Runs.{runs_unique, run_count, run_from, runs_exist}
use Rattle.fields.proofs.Nearest.{next_unique}
use Rattle.fields.proofs.Tables.{dest_lengths, tables_same}
use Rattle.verdicts.specs.Limits.{trie_row_cells}
use Rattle.verdicts.specs.Tries.{trie_row, source_record, from_place}
use Rattle.verdicts.specs.declared.record.RuleRecord.{RuleRecord}
use Rattle.verdicts.proofs.Alone.{row_from}
use Rattle.rules.specs.Build.{RunsOf, rule_trie, rule_scratch_tests, rule_build_tests, TriesLaid, RulesLaid, RuleBuilds}
use Rattle.rules.proofs.Sums.{sum_same, sum_holds}
use Rattle.rules.proofs.Meaning.{rule_trie_same}

-- ---- one trie, laid twice with the same strides

module _ {W : ℕ} {vs ls hs : List ℕ} {σ : Strides} {k : ℕ} {rec rec' : Record} {rows rows' : Lists}
    (l : Laid WIDTH W vs ls hs σ k rec rows) (l' : Laid WIDTH W vs ls hs σ k rec' rows') where
  abbrev t : Trie
  t = table_trie W vs ls hs

  elements_one : rec.elements ≡ rec'.elements
  elements_one = elements_cost l ∙ sym (elements_cost l')

  floor_one : rec.floor ≡ rec'.floor
  floor_one = l.floor ∙ sym l'.floor

  root_one : root rec ≡ root rec'
  root_one = l.built.first ∙ ap (λ (n : ℕ). stride_of σ n t) (l.levels ∙ sym l'.levels) ∙ sym l'.built.first

  held : {rec : Record} {rows : Lists} → Laid WIDTH W vs ls hs σ k rec rows → Hold rows 0 (rows_of σ k t)
  held l = rw l.levels at l.built.rows

  count : rec.elements ≡ row_count σ k t
  count = rw l.levels at l.built.elements

  rows_one : (i : ℕ) → i < rec.elements → row_at rows i ≡ row_at rows' i
  rows_one i h = hold_unique rows rows' 0 (rows_of σ k t) (held l) (held l') i (omega arith) (omega (arith, rows_length σ t k, count))

-- ---- all tries

module _ {W k : ℕ} {rs : Rules} {m : ℕ} {from : ℕ → ℕ} where
  -- their strides can be built
  good_tries : {σ : ℕ → Strides} {rec : RuleRecord} {rows : Lists} {list : List ℕ} → TriesLaid W k rs m from σ rec rows list
      → (g : ℕ) → g ≤ m → Good (σ g) (rule_trie W rs m from g) W 0 k
  good_tries l zero h = rw (l.dest.width, l.dest.levels) at l.dest.built.good
  good_tries l (suc g) h = (l.source g h).built.good

  -- strides that agree lay the same
  tries_agree : {σ τ : ℕ → Strides} {rec : RuleRecord} {rows : Lists} {list : List ℕ} → ((g : ℕ) → g ≤ m → Agree (σ g) (τ g) (rule_trie W rs m from g) 0 k)
      → ((g : ℕ) → g ≤ m → Good (τ g) (rule_trie W rs m from g) W 0 k) → TriesLaid W k rs m from σ rec rows list → TriesLaid W k rs m from τ rec rows list
  tries_agree a good l = record {
    dest = laid_agree (a 0 (omega arith)) (good 0 (omega arith)) l.dest;
    source = λ g h. laid_agree (a (suc g) h) (good (suc g) h) (l.source g h);
    place = l.place;
    all = l.all;
    floor = l.floor;
    next = l.next;
    listed = l.listed;
  }

-- runs that begin at the same places have the same tries
tries_same : {W k : ℕ} {rs : Rules} {m : ℕ} {from from' : ℕ → ℕ} {σ : ℕ → Strides} {rec : RuleRecord} {rows : Lists} {list : List ℕ}
    → ((g : ℕ) → g ≤ m → from g ≡ from' g) → TriesLaid W k rs m from σ rec rows list → TriesLaid W k rs m from' σ rec rows list
tries_same {W} {k} {rs} {m} {from} {from'} {σ} {rec} {rows} {list} e l =
    let tables = tables_same rs m from from' e in
    record {
      dest = subst (λ (t : EntryLists). Laid WIDTH W t.vals t.lens t.hops (σ 0) k rec.dest rows) (tables 0 (omega arith)) l.dest;
      source = λ g h. subst (λ (t : EntryLists). Laid WIDTH W t.vals t.lens t.hops (σ (suc g)) k (source_record W k (trie_row list g))
          (from_place (trie_row list g).place rows)) (tables (suc g) h) (l.source g h);
      place = l.place;
      all = l.all;
      floor = l.floor;
      next = λ g h. subst (λ (t : EntryLists). Wins (starts_shorter W (at t.vals) (at t.lens) g) (at t.lens) m (trie_row list g).next)
          (tables 0 (omega arith)) (l.next g h);
      listed = l.listed;
    }

-- ---- laid twice

module _ {W k : ℕ} {rs : Rules} {m : ℕ} {from : ℕ → ℕ} {σ : ℕ → Strides} {rec rec' : RuleRecord} {rows rows' : Lists} {list list' : List ℕ}
    (l : TriesLaid W k rs m from σ rec rows list) (l' : TriesLaid W k rs m from σ rec' rows' list') where
  abbrev E : ℕ → ℕ
  E g = (trie_row list g).elements

  abbrev E' : ℕ → ℕ
  E' g = (trie_row list' g).elements

  -- the five numbers of a row of the list
  numbers_one : (g : ℕ) → g < m → E g ≡ E' g
  numbers_one g h = elements_one (l.source g h) (l'.source g h)

  sums_one : (g : ℕ) → g ≤ m → sum_first E g ≡ sum_first E' g
  sums_one g h = sum_same E E' g (λ i q. numbers_one i (omega arith))

  place_one : (g : ℕ) → g < m → (trie_row list g).place ≡ (trie_row list' g).place
  place_one g h = omega (arith, l.place g h, l'.place g h, elements_one l.dest l'.dest, sums_one g (omega arith))

  all_one : rec.elements ≡ rec'.elements
  all_one = omega (arith, l.all, l'.all, elements_one l.dest l'.dest, sums_one m (omega arith))

  first_one : (g : ℕ) → g < m → at list (g * trie_row_cells) ≡ at list' (g * trie_row_cells)
  first_one g h = omega (arith, floor_one (l.source g h) (l'.source g h), l.floor g h, l'.floor g h)

  stride_one : (g : ℕ) → g < m → (trie_row list g).root ≡ (trie_row list' g).root
  stride_one g h =
      sym (padded_read LEVELS ((trie_row list g).root ∷ []) 0 (omega arith)) ∙ root_one (l.source g h) (l'.source g h)
      ∙ padded_read LEVELS ((trie_row list' g).root ∷ []) 0 (omega arith)

  next_one : (g : ℕ) → g < m → (trie_row list g).next ≡ (trie_row list' g).next
  next_one g h =
      let t = trie_table rs m from 0 in
      next_unique W (at t.vals) (at t.lens) (at t.hops) m (λ i q. l.dest.table.entry i (omega (arith, (dest_lengths rs m from).0))) g _ _ (l.next g h) (l'.next g h)

  row_one : (g c : ℕ) → g < m → c < trie_row_cells → at list (g * trie_row_cells + c) ≡ at list' (g * trie_row_cells + c)
  row_one g zero h q = rw (add-zero (g * trie_row_cells)) (first_one g h)
  row_one g (suc zero) h q = stride_one g h
  row_one g (suc (suc zero)) h q = place_one g h
  row_one g (suc (suc (suc zero))) h q = numbers_one g h
  row_one g (suc (suc (suc (suc zero)))) h q = next_one g h
  row_one g (suc (suc (suc (suc (suc c))))) h q = absurd (omega arith)

  -- so the rows of the list are one
  list_one : (i : ℕ) → i < m * trie_row_cells → at list i ≡ at list' i
  list_one i h =
      let g = i / trie_row_cells in
      let c = i % trie_row_cells in
      let e : g * trie_row_cells + c ≡ i = omega arith in
      rw e at (row_one g c (omega arith) (omega arith))

  -- and so are the rows of all tries
  rows_all_one : (i : ℕ) → i < rec.elements → row_at rows i ≡ row_at rows' i
  rows_all_one i h = elim (dec_le rec.dest.elements i) [
    | no q ↦ rows_one l.dest l'.dest i (omega arith)
    | yes q ↦ inside q (sum_holds E m (i - rec.dest.elements) (omega (arith, l.all)))
  ]
    where
      inside : rec.dest.elements ≤ i → (g : ℕ) × (g < m) × (sum_first E g ≤ i - rec.dest.elements) × (i - rec.dest.elements < sum_first E g + E g) → row_at rows i ≡ row_at rows' i
      inside q (g, less, above, below) =
          let p = (trie_row list g).place in
          let p' = (trie_row list' g).place in
          let here : p + (i - p) ≡ i = omega (arith, l.place g less) in
          let here' : p' + (i - p) ≡ i = omega (arith, here, place_one g less) in
          ap (row_at rows) (sym here) ∙ sym (row_from p rows (i - p)) ∙ rows_one (l.source g less) (l'.source g less) (i - p) (omega (arith, l.place g less))
          ∙ row_from p' rows' (i - p) ∙ ap (row_at rows') here'

-- ---- what an accepted build laid, spoken of by any runs of the rules

record LaidAt (kind : Kind) (W k : ℕ) (rs : Rules) (list : List ℕ) (m : ℕ) (from : ℕ → ℕ) (rec : RuleRecord) (rows' : Lists) (list' : List ℕ) : Type 0 where
  σ : ℕ → Strides
  follows : (g : ℕ) → g ≤ m → Follows kind k (rule_trie W rs m from g) (σ g)
  tries : TriesLaid W k rs m from σ rec rows' list'
  named : (ss : List ℕ) × Named kind k (rule_trie W rs m from 0) ss × (rec.dest.strides ≡ padded LEVELS ss)
  rest : (i : ℕ) → m * trie_row_cells ≤ i → at list' i ≡ at list i

laid_at : {kind : Kind} {W k : ℕ} {rs : Rules} {list : List ℕ} {m : ℕ} {from : ℕ → ℕ} {rec : RuleRecord} {rows' : Lists} {list' : List ℕ}
    → RulesLaid kind W k rs list rec rows' list' → RunsOf rs m from → LaidAt kind W k rs list m from rec rows' list'
laid_at {kind} {W} {k} {rs} {list} {m} {from} {rec} {rows'} {list'} l r =
    let u = runs_unique l.runs r in
    let same = rule_trie_same W rs l.m l.from from u.1 in
    subst (λ (x : ℕ). LaidAt kind W k rs list x from rec rows' list') u.0 (record {
      σ = l.σ;
      follows = λ g h. subst (λ (t : Trie). Follows kind k t (l.σ g)) (same g h) (l.follows g h);
      tries = tries_same u.1 l.tries;
      named = (l.named.0, subst (λ (t : Trie). Named kind k t l.named.0) (same 0 (omega arith)) l.named.1, l.named.2);
      rest = l.rest;
    })

-- ---- one result

rule_records_same : {d d' : Record} {e e' : ℕ} → d ≡ d' → e ≡ e' → ◌≡◌ {A = RuleRecord} (record { dest = d; elements = e }) (record { dest = d'; elements = e' })
rule_records_same p q = rw (p, q)

module _ (kind : Kind) (W k links : ℕ) (rs : Rules) (scratch : List ℕ) (rows : Lists) (list : List ℕ) where
  abbrev m : ℕ
  m = run_count (at rs.dvals) (at rs.dlens) (rule_count rs)

  abbrev from : ℕ → ℕ
  from = run_from (at rs.dvals) (at rs.dlens) (rule_count rs)

  runs : RunsOf rs m from
  runs = runs_exist (at rs.dvals) (at rs.dlens) (rule_count rs)

  abbrev trie : ℕ → Trie
  trie = rule_trie W rs m from

  abbrev tests : List Test
  tests = rule_scratch_tests W k links rs (length scratch) m from

  module _ {out out' : Outcome} {rec rec' : RuleRecord} {s s' : List ℕ} {rows1 rows2 : Lists} {list1 list2 : List ℕ}
      (c : RuleBuilds kind W k links rs scratch rows list out rec s rows1 list1) (d : RuleBuilds kind W k links rs scratch rows list out' rec' s' rows2 list2) where
    rule_outcome_one : out ≡ out'
    rule_outcome_one =
        let least : ℕ → ℕ = λ g. least_by plain kind k (trie g) in
        gives_unique (rule_build_tests W k links rs (length scratch) (shortest rows) (length list) m from least) out out'
        (c.tested m from least runs (λ g h. least_cheapest kind k (trie g))) (d.tested m from least runs (λ g h. least_cheapest kind k (trie g)))

    rule_scratch_one : s ≡ s'
    rule_scratch_one = go (outcome tests) refl
      where
        go : (o : Outcome) → outcome tests ≡ o → s ≡ s'
        go (Ok tt) e = let a = subst (Gives tests) e (outcome_gives tests) in c.zeroed m from runs a ∙ sym (d.zeroed m from runs a)
        go (Err r) e =
            let ne : Gives tests (Ok tt) → ⊥ = λ a. refused_not_accepted (sym e ∙ sym (gives_outcome tests (Ok tt) a)) in
            c.untouched m from runs ne ∙ sym (d.untouched m from runs ne)

    rules_refused_one : (out ≡ Ok tt → ⊥) → (out' ≡ Ok tt → ⊥) → (rec ≡ rec') × (rows1 ≡ rows2) × (list1 ≡ list2)
    rules_refused_one ne ne' =
        let r = c.keeps.refused ne in
        let r' = d.keeps.refused ne' in
        let z = r.0.dest in
        let z' = r'.0.dest in (
          rule_records_same (record_same rec.dest rec'.dest (z.width ∙ sym z'.width) (z.levels ∙ sym z'.levels) (z.elements ∙ sym z'.elements) (z.floor ∙ sym z'.floor)
              (z.strides ∙ sym z'.strides)) (r.0.elements ∙ sym r'.0.elements),
          r.1 ∙ sym r'.1,
          r.2 ∙ sym r'.2,
        )

    module _ (e : out ≡ Ok tt) (e' : out' ≡ Ok tt) where
      one : LaidAt kind W k rs list m from rec rows1 list1
      one = laid_at (c.laid e) runs

      other : LaidAt kind W k rs list m from rec' rows2 list2
      other = laid_at (d.laid e') runs

      -- the second is laid with the first one's strides
      both : TriesLaid W k rs m from one.σ rec' rows2 list2
      both =
          tries_agree (λ g h. same_agree (other.σ g) (one.σ g) (trie g) W 0 k (good_tries other.tries g h)
          (follows_unique kind k (trie g) (other.σ g) (one.σ g) (other.follows g h) (one.follows g h))) (good_tries one.tries) other.tries

      dest_one : rec.dest ≡ rec'.dest
      dest_one =
          let l = one.tries.dest in
          let l' = both.dest in
          record_same rec.dest rec'.dest (l.width ∙ sym l'.width) (l.levels ∙ sym l'.levels) (elements_one l l') (floor_one l l')
          (one.named.2 ∙ ap (padded LEVELS) (named_unique kind k (trie 0) one.named.0 other.named.0 one.named.1 other.named.1) ∙ sym other.named.2)

      row_at_one : (i : ℕ) → row_at rows1 i ≡ row_at rows2 i
      row_at_one i = elim (dec_le rec.elements i) [
        | yes q ↦ c.keeps.later e i q ∙ sym (d.keeps.later e' i (omega (arith, all_one one.tries both)))
        | no q ↦ rows_all_one one.tries both i (omega arith)
      ]

      number_at_one : (i : ℕ) → at list1 i ≡ at list2 i
      number_at_one i = elim (dec_le (m * trie_row_cells) i) [
        | yes q ↦ one.rest i q ∙ sym (other.rest i q)
        | no q ↦ list_one one.tries both i (omega arith)
      ]

      rules_accepted_one : (rec ≡ rec') × (rows1 ≡ rows2) × (list1 ≡ list2)
      rules_accepted_one =
          let p = c.keeps in
          let q = d.keeps in (
            rule_records_same dest_one (all_one one.tries both),
            same_rows_one (p.room.hops ∙ sym q.room.hops) (p.room.lens ∙ sym q.room.lens) (p.room.links ∙ sym q.room.links)
                (p.room.strides ∙ sym q.room.strides) row_at_one,
            ext_get_or 0 list1 list2 (p.long ∙ sym q.long) (λ i h. number_at_one i),
          )

    pub rule_builds_unique : (out ≡ out') × (rec ≡ rec') × (s ≡ s') × (rows1 ≡ rows2) × (list1 ≡ list2)
    rule_builds_unique =
        let o = rule_outcome_one in
        let rest : (rec ≡ rec') × (rows1 ≡ rows2) × (list1 ≡ list2)
        = ⊎_elim (λ (e : out ≡ Ok tt). rules_accepted_one e (sym o ∙ e)) (λ (ne : out ≡ Ok tt → ⊥). rules_refused_one ne (λ (e : out' ≡ Ok tt). ne (o ∙ e)))
        (accepted_or out) in
        (o, rest.0, rule_scratch_one, rest.1, rest.2)
