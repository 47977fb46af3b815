-- The bureau's three demands, sentence by sentence, as theorems over what the public calls promise: their meaning, not how it is
-- found. A promise stands for its call: Gives for `check_table`, Shares for `shared_length`, Spans for `zone_span`, HandsBack for
-- `zone`, Chooses for the choosers, Builds for `build`, Looked for `lookup`. A list that a call borrows to read cannot change.
use Prim.Native.Nat.{ℕ, suc, ◌+◌, ◌-◌, ◌^◌, ◌≤◌, ◌<◌}
use mathlib.Core.Path.{◌≡◌, refl, sym, ap, subst, ◌∙◌}
use mathlib.Core.Bool.{Bool, true, false, ◌||◌}
use mathlib.Core.List.{List, [], ◌∷◌, Memᴰ}
use mathlib.Core.Logic.Iff
use mathlib.Core.Logic.{◌⊎◌, inl, inr, ⊎_elim, ◌↔◌}
use native.Mathlib.Omega.{arith}
use native.Mathlib.Decide.{dec_le}
use lib.Dec.{ltb}
use lib.ListN.{length, replicate}
use denote.Ref.{Bor}
use borrow.Author.Tests.{lt-ltb, le-ltb}
use Rattle.std.specs.Prelude.{Result, Ok, Err}
use Rattle.table.specs.declared.refusal.Refusal.{Refusal}
use Rattle.table.specs.declared.refusal.Refusal.TheVariants.{Room}
use Rattle.table.specs.Refusals.{Outcome, Test, outcome, outcome_number, outcome_of, Gives}
use Rattle.table.specs.Prefix.{start}
use Rattle.table.specs.Longest.{of_winner, winner_in, NoPrefix, LongestEntry, LongestDiscards}
use Rattle.table.specs.Entry.{unlinked}
use Rattle.table.specs.Table.{at, table_tests, Linked}
use Rattle.table.specs.Zone.{PartOf}
use Rattle.table.specs.Answers.{shared_tests, Shares, zone_tests, Spans, PartFor, HandsBack}
use Rattle.table.specs.declared.zoning.Span.{Span}
use Rattle.table.proofs.Refusals.{outcome_gives, outcome_fails, outcome_passes, gives_outcome, gives_unique, given_exactly, refused_not_accepted}
use Rattle.table.proofs.Numbered.{refused_number}
use Rattle.table.proofs.Unique.{longest_discards, longest_linked}
use Rattle.table.specs.Lists.{padded}
use Rattle.strides.specs.Trie.{Some}
use Rattle.strides.specs.Entries.{SomeStart}
use Rattle.strides.specs.Cheapest.{Kind, Cheapest}
use Rattle.strides.specs.Recurrence.{plain, least_by}
use Rattle.strides.proofs.Entries.{node_begins}
use Rattle.strides.proofs.Cheapest.{least_cheapest, cheapest_unique}
use Rattle.strides.proofs.Marks.{trie_nodes, cheapest_same}
use Rattle.strides.proofs.Follows.{follows_cheapest}
use Rattle.walk.specs.declared.record.Record.{Record}
use Rattle.walk.specs.Cases.{Answer, Discard, NoRoute}
use Rattle.walk.specs.Limits.{WIDTH, LEVELS}
use Rattle.tries.specs.Limits.{ELEMENTS}
use Rattle.walk.specs.Rows.{Lists, shortest, row_at}
use Rattle.walk.specs.Answers.{number_of, hop_of, length_of, reads_of}
use Rattle.walk.specs.Lookup.{lookup_of}
use Rattle.walk.specs.Meaning.{OnPath, Tested, Looked}
use Rattle.layout.specs.Blocks.{link_to, stride_of, block_row, rows_along, Begun, blocks_along, block_count}
use Rattle.layout.specs.PathBlocks.{node_on, BlockAt, row_path}
use Rattle.layout.specs.Marks.{entry_marks}
use Rattle.layout.specs.Laid.{table_trie}
use Rattle.choosers.specs.Chooser.{choose_tests, Chooses}
use Rattle.tries.specs.Build.{room_test, build_tests, NoRecord, Builds}
use Rattle.walk.proofs.Unique.{tested_unique, looked_unique}
use Rattle.walk.proofs.Looked.{looked}
use Rattle.walk.proofs.Answers.{refused_none, discard_by_hop}
use Rattle.walk.proofs.Reading.{path_rows_lem, reads_path, reads_most, lookup_local}
use Rattle.layout.proofs.PathBlocks.{blocks_are, blocks_counted}
use Rattle.layout.proofs.RowRule.{row_rule}
use Rattle.layout.proofs.Laid.{accepted, laid_longest, no_route, rows_exactly, reads_blocks, reads_few, rows_alone, elements_cost, one_answer}
use Rattle.choosers.proofs.ChooseTests.{numbered_choose, accepted_tests_linked}
use Rattle.tries.proofs.BuildSteps.{early, late}

-- ==== demand 1: bad input is refused by number, in a fixed order; the numbers say what is returned and what each list then holds

pub check_first : (W links : ℕ) (vs ls hs : List ℕ) {out : Outcome} → Gives (table_tests W links vs ls hs) out → (o : Outcome)
    → (out ≡ o) ↔ Gives (table_tests W links vs ls hs) o
check_first W links vs ls hs = given_exactly (table_tests W links vs ls hs)

pub shared_first : (W a l b m : ℕ) {r : Result ℕ Refusal} → Shares W a l b m r → (o : Outcome) → (outcome_of r ≡ o) ↔ Gives (shared_tests W a l b m) o
shared_first W a l b m s = given_exactly (shared_tests W a l b m) s.tested

pub span_first : (W links : ℕ) (vs ls hs : List ℕ) (p b : ℕ) {r : Result Span Refusal} → Spans W links vs ls hs p b r → (o : Outcome)
    → (outcome_of r ≡ o) ↔ Gives (zone_tests W links vs ls hs p b) o
span_first W links vs ls hs p b s = given_exactly (zone_tests W links vs ls hs p b) s.tested

-- refused, the part handed back is the empty part at 0
pub zone_refused : (W links : ℕ) (v : Bor (List ℕ)) (ls hs : List ℕ) (p b : ℕ) (e : Refusal) {r : Bor (List ℕ)} → HandsBack W links v ls hs p b r
    → Gives (zone_tests W links v.now ls hs p b) (Err e) → PartOf v r 0 0
unfolding outcome_of
zone_refused W links v ls hs p b e {r} h g = go h.0 (gives_unique (zone_tests W links v.now ls hs p b) _ _ h.1.tested g) h.2
  where
    go : (z : Result Span Refusal) → outcome_of z ≡ Err e → PartFor v r z → PartOf v r 0 0
    go (Ok s) f q = absurd (refused_not_accepted (sym f))
    go (Err x) f q = q

module _ {kind : Kind} {W k links : ℕ} {vs ls hs scratch : List ℕ} {out : Outcome} {cost : ℕ} {strides s : List ℕ}
    (c : Chooses kind W k links vs ls hs scratch out cost strides s) where
  pub choose_first : (o : Outcome) → (out ≡ o) ↔ Gives (choose_tests W k links vs ls hs (length scratch)) o
  choose_first = given_exactly (choose_tests W k links vs ls hs (length scratch)) c.tested

  -- refused, it answers cost 0 and zero strides and changes nothing; accepted, it zeroes all scratch
  pub choose_refused : {r : Refusal} → out ≡ Err r → (cost ≡ 0) × (strides ≡ padded LEVELS []) × (s ≡ scratch)
  choose_refused e = c.refused (λ a. refused_not_accepted (sym e ∙ a))

  pub choose_accepted : out ≡ Ok tt → s ≡ replicate (length scratch) 0
  choose_accepted = c.zeroed

module _ {kind : Kind} {W k links : ℕ} {vs ls hs scratch : List ℕ} {rows : Lists} {out : Outcome} {rec : Record} {s : List ℕ} {rows' : Lists}
    (b : Builds kind W k links vs ls hs scratch rows out rec s rows') where
  abbrev tests : List Test
  tests = choose_tests W k links vs ls hs (length scratch)

  -- where 1 to 6 pass, the least cost is that of all choices of the kind with at most k levels
  pub build_first : (least : ℕ) → (1 ≤ k → Cheapest kind k (table_trie W vs ls hs) least) → (o : Outcome)
      → (out ≡ o) ↔ Gives (build_tests W k links vs ls hs (length scratch) (shortest rows) least) o
  build_first least c = given_exactly (build_tests W k links vs ls hs (length scratch) (shortest rows) least) (b.tested least c)

  passes : Gives tests (Ok tt) → (least : ℕ) → Cheapest kind k (table_trie W vs ls hs) least → out ≡ outcome (room_test least (shortest rows) ∷ [])
  passes g least c =
      gives_outcome (build_tests W k links vs ls hs (length scratch) (shortest rows) least) out (b.tested least (λ h. c))
      ∙ late W k links vs ls hs (length scratch) (shortest rows) least (sym (gives_outcome tests (Ok tt) g))

  -- refusals 1 to 6 change no list
  pub refused_early : {r : Refusal} → Gives tests (Err r) → (out ≡ Err r) × NoRecord rec × (s ≡ scratch) × (rows' ≡ rows)
  refused_early {r} g =
      let least = least_by plain kind k (table_trie W vs ls hs) in
      let e : out ≡ Err r =
      gives_outcome (build_tests W k links vs ls hs (length scratch) (shortest rows) least) out (b.tested least (least_cheapest kind k (table_trie W vs ls hs)))
      ∙ early W k links vs ls hs (length scratch) (shortest rows) least (sym (gives_outcome tests (Err r) g)) in
      let kept = b.keeps.refused (λ a. refused_not_accepted (sym e ∙ a)) in
      (e, kept.0, b.untouched (λ a. refused_not_accepted (gives_unique tests (Err r) (Ok tt) g a)), kept.1)

  -- refusal 7 is given past tests 1 to 6
  room_tested : {d : ℕ} → out ≡ Err (Room d) → Gives tests (Ok tt)
  room_tested {d} e = go (outcome tests) refl
    where
      go : (o : Outcome) → outcome tests ≡ o → Gives tests (Ok tt)
      go (Ok tt) p = subst (Gives tests) p (outcome_gives tests)
      go (Err r) p =
          let g = subst (Gives tests) p (outcome_gives tests) in
          absurd (omega (arith, refused_number 6 tests r (numbered_choose 6 (omega arith) W k links vs ls hs (length scratch)) g, ap outcome_number (sym (refused_early g).0 ∙ e)))

  -- refusal 7 zeroes all scratch and changes no element
  pub refused_room : {d : ℕ} → out ≡ Err (Room d) → NoRecord rec × (s ≡ replicate (length scratch) 0) × (rows' ≡ rows)
  refused_room e =
      let kept = b.keeps.refused (λ a. refused_not_accepted (sym e ∙ a)) in
      (kept.0, b.zeroed (room_tested e), kept.1)

  -- an accepted build passes 1 to 6, zeroes all scratch, writes rows 0 to E - 1 and keeps later rows
  all_passed : out ≡ Ok tt → Gives tests (Ok tt)
  all_passed e = go (outcome tests) refl
    where
      go : (o : Outcome) → outcome tests ≡ o → Gives tests (Ok tt)
      go (Ok tt) p = subst (Gives tests) p (outcome_gives tests)
      go (Err r) p = absurd (refused_not_accepted (sym (refused_early (subst (Gives tests) p (outcome_gives tests))).0 ∙ e))

  pub build_accepted : out ≡ Ok tt → (s ≡ replicate (length scratch) 0) × ((i : ℕ) → rec.elements ≤ i → row_at rows' i ≡ row_at rows i)
  build_accepted e = (b.zeroed (all_passed e), b.keeps.later e)

-- a lookup gives number n exactly when test n is the first that fails, 0 when none does; refused, it has no hop, no length and 0 reads
module _ {most : ℕ} {rec : Record} {ls : Lists} {a : ℕ} where
  pub lookup_first : {r : Answer} → Looked most rec ls a r → (n : ℕ) → (number_of r ≡ n) ↔ Tested most rec ls a n
  lookup_first {r} l n = (λ (e : number_of r ≡ n). subst (Tested most rec ls a) e l.tested, λ t. tested_unique l.tested t)

  pub lookup_refused : {r : Answer} → Looked most rec ls a r → 0 < number_of r → (hop_of r ≡ 0) × (length_of r ≡ 0) × (reads_of r ≡ 0)
  lookup_refused {r} l h = refused_none r h

-- ==== demands 2 and 3 over one accepted build, and a lookup over what it left

module _ {kind : Kind} {W k links : ℕ} {vs ls hs scratch : List ℕ} {rows : Lists} {out : Outcome} {rec : Record} {s : List ℕ} {rows' : Lists}
    (b : Builds kind W k links vs ls hs scratch rows out rec s rows') where
  -- ---- demand 3: the build uses the fewest elements that any stride choice of the kind with at most k levels needs
  pub build_fewest : out ≡ Ok tt → Cheapest kind k (table_trie W vs ls hs) rec.elements
  build_fewest e =
      let l = b.laid e in
      let some : 1 ≤ k = omega (arith, l.2.levels, l.2.built.levels.0) in
      subst (Cheapest kind k (table_trie W vs ls hs)) (sym (elements_cost l.2)) (follows_cheapest kind k (table_trie W vs ls hs) l.0 some l.1)

  -- for a well-formed table, an allowed k and enough scratch, it is refused for room exactly when that least number exceeds the room
  -- lent or the most elements
  pub room_refused : {least : ℕ} → Cheapest kind k (table_trie W vs ls hs) least → Gives (choose_tests W k links vs ls hs (length scratch)) (Ok tt)
      → (out ≡ Err (Room least)) ↔ ((shortest rows < least) ⊎ (ELEMENTS < least))
  unfolding outcome
  room_refused {least} c g = (
    λ e. over e,
    λ m. ⊎_elim (λ (h : shortest rows < least). refuses (rw (lt-ltb (shortest rows) least h) refl))
        (λ (h : ELEMENTS < least). refuses (rw (lt-ltb ELEMENTS least h) (or_true (ltb (shortest rows) least)))) m,
  )
    where
      is : out ≡ outcome (room_test least (shortest rows) ∷ [])
      is = passes b g least c

      or_true : (x : Bool) → (x || true) ≡ true
      or_true true = refl
      or_true false = refl

      refuses : (ltb (shortest rows) least || ltb ELEMENTS least) ≡ true → out ≡ Err (Room least)
      refuses f = is ∙ outcome_fails (room_test least (shortest rows)) [] f

      over : out ≡ Err (Room least) → (shortest rows < least) ⊎ (ELEMENTS < least)
      over e = elim (dec_le least (shortest rows)) [
        | no l ↦ inl (omega arith)
        | yes l ↦ elim (dec_le least ELEMENTS) [
          | no m ↦ inr (omega arith)
          | yes m ↦ absurd (refused_not_accepted (sym e ∙ is ∙ outcome_passes (room_test least (shortest rows)) [] (rw (le-ltb (shortest rows) least l, le-ltb ELEMENTS least m) refl)))
        ]
      ]

  -- and the detail of 7 is that least number
  pub room_detail : {least d : ℕ} → Cheapest kind k (table_trie W vs ls hs) least → out ≡ Err (Room d) → d ≡ least
  unfolding outcome
  room_detail {least} {d} c e = same (ltb (shortest rows) least || ltb ELEMENTS least) refl
    where
      is : ◌≡◌ {A = Outcome} (Err (Room d)) (outcome (room_test least (shortest rows) ∷ []))
      is = sym e ∙ passes b (room_tested b e) least c

      detail : ◌≡◌ {A = Outcome} (Err (Room d)) (Err (Room least)) → d ≡ least
      detail q = cc

      same : (t : Bool) → (ltb (shortest rows) least || ltb ELEMENTS least) ≡ t → d ≡ least
      same true f = detail (is ∙ outcome_fails (room_test least (shortest rows)) [] f)
      same false f = absurd (refused_not_accepted (is ∙ outcome_passes (room_test least (shortest rows)) [] f))

  -- every row of every block holds what the row rule says (`row_rule`, layout)
  pub build_rows : (e : out ≡ Ok tt) (x n d : ℕ) → x < 2 ^ W → BlockAt (b.laid e).0 W k (table_trie W vs ls hs) x n d
      → (i : ℕ) → i < 2 ^ (b.laid e).0 (k - n) (node_on W (table_trie W vs ls hs) x d)
      → let σ = (b.laid e).0 in
      let t = table_trie W vs ls hs in
      let s = σ (k - n) (node_on W t x d) in
      let y = row_path W d s (start W d x) i in
      let w = winner_in W (at vs) (at ls) (length vs) d (d + s) y in
      row_at rows' (block_row σ W k t x n + i) ≡ record {
        hop = of_winner (at hs) w;
        len = of_winner (at ls) w;
        link = link_to (node_on W t y (d + s)) (block_row σ W k t y (suc n));
        stride = stride_of σ (k - suc n) (node_on W t y (d + s));
      }
  build_rows e = row_rule (b.laid e).2

  -- ---- the gateway has every hop of a table that is accepted (02, [7])
  pub build_linked : out ≡ Ok tt → Linked links hs
  build_linked e = accepted_tests_linked W k links vs ls hs (length scratch) (sym (gives_outcome (choose_tests W k links vs ls hs (length scratch)) (Ok tt) (all_passed b e)))

  module _ (e : out ≡ Ok tt) (a : ℕ) (h : a < 2 ^ W) {r : Answer} (l : Looked WIDTH rec rows' a r) where
    is_looked : r ≡ lookup_of WIDTH rec rows' a
    is_looked = looked_unique l (looked WIDTH rec rows' a)

    -- ---- demand 2: hop and length of the longest table prefix that begins the address, for either kind
    pub build_longest : (number_of r ≡ 0) × LongestEntry W vs ls hs a (hop_of r) (length_of r)
    build_longest = let g = (b.laid e).2 in rw is_looked (accepted g a h, laid_longest g a h)

    -- they say that there is none exactly when no prefix does
    pub build_none : (r ≡ NoRoute (reads_of r)) ↔ NoPrefix W vs ls a
    build_none = let g = (b.laid e).2 in rw (is_looked, reads_blocks g a h) (no_route g a h)

    -- and it is a discard exactly when the longest prefix that begins the address discards (02, [4])
    pub build_discard : (r ≡ Discard (length_of r) (reads_of r)) ↔ LongestDiscards W vs ls hs a
    build_discard = Iff.trans (discard_by_hop r l.case) (longest_discards W vs ls hs (b.laid e).2.table a build_longest.1)

    -- and a hop that is answered is a link that the gateway has, or a discard's, or none (02, [7])
    pub build_link : unlinked links (hop_of r) ≡ false
    build_link = longest_linked W links vs ls hs (b.laid e).2.table (build_linked e) a build_longest.1

    -- ---- demand 3: the rows on the path are exactly those of the blocks of the 1-bit nodes that begin the address and at which the
    -- chosen strides begin a block: the block's first row plus the next s bits
    pub build_path : {rs : List ℕ} → OnPath rec rows' a rs → rs ≡ rows_along (b.laid e).0 W k (table_trie W vs ls hs) a
    build_path o = sym (path_rows_lem rec rows' a o) ∙ rows_exactly (b.laid e).2 a h

    -- those blocks, one by one: each at a node that begins the address, at the root or a stride below the block before; and a node begins
    -- the address with d bits exactly where they are a proper start of some entry
    pub build_begun : (x : Begun) → Memᴰ x (blocks_along (b.laid e).0 W (table_trie W vs ls hs) 0 0 k a)
        ↔ ((n : ℕ) × (d : ℕ) × BlockAt (b.laid e).0 W k (table_trie W vs ls hs) a n d
        × (x ≡ record { level = n; stride = (b.laid e).0 (k - n) (node_on W (table_trie W vs ls hs) a d); bits = W - d }))
    build_begun = let g = (b.laid e).2 in blocks_are (b.laid e).0 W k (table_trie W vs ls hs) (rw (g.width, g.levels) at g.built.good) a

    pub build_nodes : (d : ℕ) → d ≤ W → Some (node_on W (table_trie W vs ls hs) a d) ↔ SomeStart W (at vs) (at ls) (length vs) d (start W d a)
    build_nodes d le =
        node_begins W (at vs) (at ls) (entry_marks ls hs) (length vs) (λ i l. ((b.laid e).2.table.entry i l).prefix.short) a d h le

    -- r reads are r such blocks
    pub build_blocks : reads_of r ≡ block_count (b.laid e).0 W (table_trie W vs ls hs) k a
    build_blocks = ap reads_of is_looked ∙ reads_blocks (b.laid e).2 a h

    -- one at each of the levels 0 to r - 1, and no other (`block_one`, layout); r is never above k
    pub build_counted : (n : ℕ) → (n < reads_of r) ↔ ((d : ℕ) × BlockAt (b.laid e).0 W k (table_trie W vs ls hs) a n d)
    build_counted n =
        let g = (b.laid e).2 in
        rw build_blocks (blocks_counted (b.laid e).0 W k (table_trie W vs ls hs) (rw (g.width, g.levels) at g.built.good) a n)

    pub build_reads : reads_of r ≤ k
    build_reads = rw is_looked (reads_few (b.laid e).2 a h)

    -- and the answer depends on the record and those rows alone
    pub build_alone : (other : Lists) → rec.elements ≤ shortest other
        → ((i : ℕ) → Memᴰ i (rows_along (b.laid e).0 W k (table_trie W vs ls hs) a) → row_at rows' i ≡ row_at other i)
        → {r' : Answer} → Looked WIDTH rec other a r' → r ≡ r'
    build_alone other fits same l' = is_looked ∙ rows_alone (b.laid e).2 a h other fits same ∙ looked_unique (looked WIDTH rec other a) l'

-- one table gives one answer, however it is built: any kinds, any k, any numbers of links, any room
pub one_table : {kind kind' : Kind} {W k k' links links' : ℕ} {vs ls hs scratch scratch' : List ℕ} {rows rows' : Lists} {out out' : Outcome} {rec rec' : Record} {s s' : List ℕ} {rows1 rows2 : Lists}
    → Builds kind W k links vs ls hs scratch rows out rec s rows1 → Builds kind' W k' links' vs ls hs scratch' rows' out' rec' s' rows2 → out ≡ Ok tt → out' ≡ Ok tt
    → (a : ℕ) → a < 2 ^ W → {r r' : Answer} → Looked WIDTH rec rows1 a r → Looked WIDTH rec' rows2 a r' → (hop_of r ≡ hop_of r') × (length_of r ≡ length_of r')
one_table b c e e' a h l l' = rw (is_looked b e a h l, is_looked c e' a h l') (one_answer (b.laid e).2 (c.laid e').2 a h)

-- an entry counts by its prefix, whatever its hop is, a discard's too: two accepted builds of one kind and k, of tables with the same
-- prefixes, have as many elements (02, [4])
pub build_hops_free : {kind : Kind} {W k links links' : ℕ} {vs ls hs hs' scratch scratch' : List ℕ} {rows rows' : Lists} {out out' : Outcome} {rec rec' : Record} {s s' : List ℕ} {rows1 rows2 : Lists}
    → Builds kind W k links vs ls hs scratch rows out rec s rows1 → Builds kind W k links' vs ls hs' scratch' rows' out' rec' s' rows2 → out ≡ Ok tt → out' ≡ Ok tt
    → rec.elements ≡ rec'.elements
build_hops_free {kind} {W} {k} {vs} {ls} {hs} {hs'} {rec = rec} b c e e' =
    let same = trie_nodes W (at vs) (at ls) (entry_marks ls hs) (entry_marks ls hs') (length vs) in
    cheapest_unique kind k (table_trie W vs ls hs')
    (cheapest_same kind k (table_trie W vs ls hs) (table_trie W vs ls hs') same rec.elements (build_fewest b e)) (build_fewest c e')

-- ==== demand 3 over any record and lists: the path is what the rule reaches

module _ {most : ℕ} {rec : Record} {ls : Lists} {a : ℕ} {r : Answer} (l : Looked most rec ls a r) where
  any_looked : r ≡ lookup_of most rec ls a
  any_looked = looked_unique l (looked most rec ls a)

  -- an accepted lookup went along a path to its end
  pub any_path : number_of r ≡ 0 → (rs : List ℕ) × OnPath rec ls a rs
  any_path z = let t = l.told z in (t.0, t.1)

  pub any_reads : number_of r ≡ 0 → {rs : List ℕ} → OnPath rec ls a rs → reads_of r ≡ length rs
  any_reads z o = rw any_looked (reads_path most rec ls a (rw any_looked at z)) ∙ ap length (path_rows_lem rec ls a o)

  pub any_few : reads_of r ≤ rec.levels
  any_few = rw any_looked (reads_most most rec ls a)

  -- one record, one address, two sets of lists, none shorter than E, that agree at the rows of the first's path
  pub any_alone : {rs : List ℕ} → OnPath rec ls a rs → (other : Lists) → rec.elements ≤ shortest ls → rec.elements ≤ shortest other
      → ((i : ℕ) → Memᴰ i rs → row_at ls i ≡ row_at other i) → {r' : Answer} → Looked most rec other a r' → r ≡ r'
  any_alone o other fits fits' same l' =
      any_looked ∙ lookup_local rec a ls other (rw (path_rows_lem rec ls a o) same) most fits fits' ∙ looked_unique (looked most rec other a) l'
