-- The bureau's demands for tree bitmap arrays (02 [1]), sentence by sentence, as theorems over what the public calls promise: BuildsBitmap
-- stands for `build_bitmap`, LookedBitmap for `lookup_bitmap`. A list that a call borrows to read cannot change.
use Prim.Native.Nat.{ℕ, suc, ◌*◌, ◌/◌, ◌^◌, ◌≤◌, ◌<◌}
use mathlib.Core.Path.{◌≡◌, refl, sym, ap, subst, ◌∙◌}
use mathlib.Core.Bool.{false}
use mathlib.Core.List.{List, [], ◌∷◌, Memᴰ}
use mathlib.Core.Logic.Iff
use mathlib.Core.Logic.{◌⊎◌, inl, inr, ◌↔◌}
use native.Mathlib.Omega.{arith}
use lib.ListN.{length, get_or, replicate}
use borrow.Author.Tests.{lt-ltb, le-ltb, ltb-true, ltb-false}
use Rattle.table.specs.Refusals.{Outcome, Test, outcome, Gives, Numbered, and_then, outcome_number, outcome_detail}
use Rattle.table.specs.Prefix.{start}
use Rattle.table.specs.Entry.{unlinked}
use Rattle.table.specs.Table.{at, table_tests, check_of, Linked}
use Rattle.table.specs.Longest.{NoPrefix, LongestEntry, LongestDiscards}
use Rattle.table.specs.declared.refusal.Refusal.{Refusal}
use Rattle.table.specs.declared.refusal.Refusal.TheVariants.{Room}
use Rattle.std.specs.Prelude.{Ok, Err}
use Rattle.table.proofs.Refusals.{outcome_gives, outcome_append, accepted_parts, gives_outcome, gives_unique, given_exactly, refused_not_accepted}
use Rattle.table.proofs.Numbered.{refused_number, numbered_append, numbered_table}
use Rattle.table.proofs.Table.{accepted_linked}
use Rattle.table.proofs.Unique.{longest_discards, longest_linked}
use Rattle.walk.specs.Cases.{Answer}
use Rattle.walk.specs.Cases.{Discard, NoRoute}
use Rattle.walk.specs.Limits.{WIDTH}
use Rattle.walk.specs.Answers.{number_of, hop_of, length_of, reads_of}
use Rattle.walk.proofs.Answers.{refused_none, discard_by_hop}
use Rattle.pieces.specs.BinaryTrie.{empty, SomeBegins, table_binary}
use Rattle.pieces.specs.Maps.{STEP, subtrie_along}
use Rattle.pieces.specs.Rows.{supernodes_of, bitmap_hops}
use Rattle.pieces.specs.Depth.{number_on}
use Rattle.pieces.proofs.RangeCounts.{hops_are_entries}
use Rattle.visits.specs.Winner.{Best}
use Rattle.visits.specs.declared.record.Bitmap.{Bitmap}
use Rattle.visits.specs.Rows.{RowLists, row_room, supernode_at}
use Rattle.visits.specs.Lookup.{lookup_bitmap_of}
use Rattle.visits.specs.Meaning.{OnWay, winning_hop, BitmapTested, LookedBitmap}
use Rattle.visits.proofs.Unique.{bitmap_tested_unique, looked_bitmap_unique}
use Rattle.visits.proofs.Looked.{looked_bitmap}
use Rattle.visits.proofs.Reading.{way_numbers, reads_numbers, reads_bound, lookup_alone}
use Rattle.visits.proofs.Laid.{bitmap_not_refused, laid_bitmap_longest, no_bitmap_route, bitmap_reads, path_levels, path_places, path_tries}
use Rattle.supernodes.specs.Build.{nodes_test, up_to_scratch, bitmap_room_tests, bitmap_tests, NoBitmap, BuildsBitmap}

-- ---- every test has its number
pub numbered_scratch : (most : ℕ) → 6 ≤ most → (W links : ℕ) (vs ls hs : List ℕ) (words : ℕ) → Numbered most (up_to_scratch W links vs ls hs words)
unfolding up_to_scratch
numbered_scratch most h W links vs ls hs words =
    numbered_append most (table_tests W links vs ls hs) (nodes_test (table_binary W vs ls hs) words ∷ []) (numbered_table most (omega arith) W links vs ls hs) ((omega arith, h), tt)

pub numbered_bitmap : (W links : ℕ) (vs ls hs : List ℕ) (words room hopRoom : ℕ) → Numbered 7 (bitmap_tests W links vs ls hs words room hopRoom)
unfolding bitmap_tests bitmap_room_tests
numbered_bitmap W links vs ls hs words room hopRoom =
    numbered_append 7 (up_to_scratch W links vs ls hs words) (bitmap_room_tests W (table_binary W vs ls hs) room hopRoom) (numbered_scratch 7 (omega arith) W links vs ls hs words)
    ((omega arith, omega arith), ((omega arith, omega arith), tt))

-- ==== demand 1: bad input is refused by number, in a fixed order; the numbers say what is returned and what each list then holds

module _ {W links : ℕ} {vs ls hs scratch : List ℕ} {rows : RowLists} {hops : List ℕ} {out : Outcome} {rec : Bitmap} {s : List ℕ} {rows' : RowLists} {hops' : List ℕ}
    (b : BuildsBitmap W links vs ls hs scratch rows hops out rec s rows' hops') where
  abbrev tests : List Test
  tests = up_to_scratch W links vs ls hs (length scratch)

  abbrev room_tests : List Test
  room_tests = bitmap_room_tests W (table_binary W vs ls hs) (row_room rows) (length hops)

  -- an outcome is given exactly when the tests, in order, give it
  pub bitmap_first : (o : Outcome) → (out ≡ o) ↔ Gives (bitmap_tests W links vs ls hs (length scratch) (row_room rows) (length hops)) o
  bitmap_first = given_exactly (bitmap_tests W links vs ls hs (length scratch) (row_room rows) (length hops)) b.tested

  all_tests : out ≡ outcome (bitmap_tests W links vs ls hs (length scratch) (row_room rows) (length hops))
  all_tests = gives_outcome (bitmap_tests W links vs ls hs (length scratch) (row_room rows) (length hops)) out b.tested

  -- refusals 1 to 6 change no list
  pub bitmap_refused_early : {r : Refusal} → Gives tests (Err r)
      → (out ≡ Err r) × NoBitmap rec × (s ≡ scratch) × (rows' ≡ rows) × (hops' ≡ hops)
  unfolding bitmap_tests and_then
  bitmap_refused_early {r} g =
      let t = gives_outcome tests (Err r) g in
      let e : out ≡ Err r = all_tests ∙ outcome_append tests room_tests ∙ ap (λ (o : Outcome). and_then o (outcome room_tests)) (sym t) in
      let kept = b.keeps.refused (λ a. refused_not_accepted (sym e ∙ a)) in
      (e, kept.0, b.untouched (λ a. refused_not_accepted (gives_unique tests (Err r) (Ok tt) g a)), kept.1, kept.2)

  -- past them, the outcome is that of the two tests of room
  pub bitmap_late : Gives tests (Ok tt) → out ≡ outcome room_tests
  unfolding bitmap_tests and_then
  bitmap_late g = all_tests ∙ outcome_append tests room_tests ∙ ap (λ (o : Outcome). and_then o (outcome room_tests)) (sym (gives_outcome tests (Ok tt) g))

  -- refusal 7 is given past tests 1 to 6, so it zeroes all scratch; it changes no row and no hop
  pub bitmap_refused_room : {d : ℕ} → out ≡ Err (Room d) → NoBitmap rec × (s ≡ replicate (length scratch) 0) × (rows' ≡ rows) × (hops' ≡ hops)
  bitmap_refused_room {d} e =
      let kept = b.keeps.refused (λ a. refused_not_accepted (sym e ∙ a)) in
      (kept.0, b.zeroed (go (outcome tests) refl), kept.1, kept.2)
    where
      go : (o : Outcome) → outcome tests ≡ o → Gives tests (Ok tt)
      go (Ok tt) p = subst (Gives tests) p (outcome_gives tests)
      go (Err x) p =
          let g = subst (Gives tests) p (outcome_gives tests) in
          absurd (omega (arith, refused_number 6 tests x (numbered_scratch 6 (omega arith) W links vs ls hs (length scratch)) g, ap outcome_number (sym (bitmap_refused_early g).0 ∙ e)))

  -- an accepted build passes 1 to 6, zeroes all scratch, writes the rows and hops that its record counts, and keeps later ones
  all_passed : out ≡ Ok tt → Gives tests (Ok tt)
  all_passed e = go (outcome tests) refl
    where
      go : (o : Outcome) → outcome tests ≡ o → Gives tests (Ok tt)
      go (Ok tt) p = subst (Gives tests) p (outcome_gives tests)
      go (Err x) p = absurd (refused_not_accepted (sym (bitmap_refused_early (subst (Gives tests) p (outcome_gives tests))).0 ∙ e))

  pub bitmap_accepted : out ≡ Ok tt → (s ≡ replicate (length scratch) 0) × ((i : ℕ) → rec.supernodes ≤ i → supernode_at rows' i ≡ supernode_at rows i)
      × ((i : ℕ) → rec.hops ≤ i → get_or hops' i 0 ≡ get_or hops i 0)
  bitmap_accepted e = (b.zeroed (all_passed e), b.keeps.later e, b.keeps.later_hop e)

  -- the gateway has every hop of a table that is accepted (02, [7])
  pub bitmap_linked : out ≡ Ok tt → Linked links hs
  unfolding up_to_scratch check_of
  bitmap_linked e =
      accepted_linked W links vs ls hs (accepted_parts (table_tests W links vs ls hs) (nodes_test (table_binary W vs ls hs) (length scratch) ∷ []) (sym (gives_outcome tests (Ok tt) (all_passed e)))).0

  -- for a well-formed table and enough scratch, it is refused for room exactly when the supernodes exceed the shortest row list, with their
  -- number, or else the hops exceed the hop list, with theirs
  pub bitmap_room : Gives tests (Ok tt) → (d : ℕ) → (out ≡ Err (Room d))
      ↔ (((row_room rows < length (supernodes_of W (table_binary W vs ls hs))) × (d ≡ length (supernodes_of W (table_binary W vs ls hs))))
      ⊎ ((length (supernodes_of W (table_binary W vs ls hs)) ≤ row_room rows) × (length hops < length (bitmap_hops W (table_binary W vs ls hs)))
      × (d ≡ length (bitmap_hops W (table_binary W vs ls hs)))))
  unfolding bitmap_room_tests
  bitmap_room g d = (λ e. to e (subst (Gives room_tests) (sym late) (outcome_gives room_tests)), λ w. from w)
    where
      late : out ≡ outcome room_tests
      late = bitmap_late g

      n : ℕ
      n = length (supernodes_of W (table_binary W vs ls hs))

      m : ℕ
      m = length (bitmap_hops W (table_binary W vs ls hs))

      to : out ≡ Err (Room d) → Gives room_tests out → ((row_room rows < n) × (d ≡ n)) ⊎ ((n ≤ row_room rows) × (length hops < m) × (d ≡ m))
      to e (inl (f, q)) = inl (ltb-true _ _ f, ap outcome_detail (sym e ∙ q))
      to e (inr (f, inl (h, q))) = inr (ltb-false _ _ f, ltb-true _ _ h, ap outcome_detail (sym e ∙ q))
      to e (inr (f, inr (h, q))) = absurd (refused_not_accepted (sym e ∙ q))

      given : Gives room_tests (Err (Room d)) → out ≡ Err (Room d)
      given w = late ∙ sym (gives_outcome room_tests (Err (Room d)) w)

      from : ((row_room rows < n) × (d ≡ n)) ⊎ ((n ≤ row_room rows) × (length hops < m) × (d ≡ m)) → out ≡ Err (Room d)
      from (inl (h, e)) = given (inl (lt-ltb _ _ h, ap (λ (n : ℕ). Err (Room n)) e))
      from (inr (l, h, e)) = given (inr (le-ltb _ _ l, inl (lt-ltb _ _ h, ap (λ (n : ℕ). Err (Room n)) e)))

-- a lookup gives number n exactly when test n is the first that fails, 0 when none does; refused, it has no hop, no length and 0 reads
module _ {most : ℕ} {rec : Bitmap} {rows : RowLists} {hops : List ℕ} {a : ℕ} where
  pub bitmap_lookup_first : {r : Answer} → LookedBitmap most rec rows hops a r → (n : ℕ) → (number_of r ≡ n) ↔ BitmapTested most rec rows hops a n
  bitmap_lookup_first {r} l n =
      (λ (e : number_of r ≡ n). subst (BitmapTested most rec rows hops a) e l.tested, λ t. bitmap_tested_unique l.tested t)

  pub bitmap_lookup_refused : {r : Answer} → LookedBitmap most rec rows hops a r → 0 < number_of r → (hop_of r ≡ 0) × (length_of r ≡ 0) × (reads_of r ≡ 0)
  bitmap_lookup_refused {r} l h = refused_none r h

-- ==== demand 3 over any record and lists: the path is what the rule visits

module _ {most : ℕ} {rec : Bitmap} {rows : RowLists} {hops : List ℕ} {a : ℕ} {r : Answer} (l : LookedBitmap most rec rows hops a r) where
  -- an accepted lookup went along a path to its end, with as many reads as there are supernodes on it
  pub any_bitmap_path : number_of r ≡ 0 → (is : List ℕ) × (w : Best) × OnWay rec rows a is w
  any_bitmap_path z = let t = l.told z in (t.0, t.1, t.2)

  pub any_bitmap_reads : number_of r ≡ 0 → {is : List ℕ} {w : Best} → OnWay rec rows a is w → reads_of r ≡ length is
  any_bitmap_reads z o = reads_numbers l z ∙ ap length (way_numbers rec rows a o).0

  pub any_bitmap_few : reads_of r ≤ suc (rec.width / STEP)
  any_bitmap_few = reads_bound l

  -- one record, one address, two sets of lists, none shorter than its count, that agree at the rows of the first's path and at its winner's hop
  pub any_bitmap_alone : {is : List ℕ} {w : Best} → OnWay rec rows a is w → (other : RowLists) (others : List ℕ)
      → rec.supernodes ≤ row_room rows → rec.supernodes ≤ row_room other → rec.hops ≤ length hops → rec.hops ≤ length others
      → ((i : ℕ) → Memᴰ i is → supernode_at rows i ≡ supernode_at other i) → winning_hop hops w ≡ winning_hop others w
      → {r' : Answer} → LookedBitmap most rec other others a r' → r ≡ r'
  any_bitmap_alone o other others f f' g g' same same-hop l' =
      let p = way_numbers rec rows a o in
      looked_bitmap_unique l (looked_bitmap most rec rows hops a)
      ∙ lookup_alone rec a rows other hops others (rw p.0 same) (λ c. rw p.1 same-hop) most f f' g g'
      ∙ looked_bitmap_unique (looked_bitmap most rec other others a) l'

-- ==== demands 2 and 3 over one accepted build, and a lookup over what it left

module _ {W links : ℕ} {vs ls hs scratch : List ℕ} {rows : RowLists} {hops : List ℕ} {out : Outcome} {rec : Bitmap} {s : List ℕ} {rows' : RowLists} {hops' : List ℕ}
    (b : BuildsBitmap W links vs ls hs scratch rows hops out rec s rows' hops') (e : out ≡ Ok tt) where
  -- as many hops as entries
  pub bitmap_hops_lem : rec.hops ≡ length vs
  bitmap_hops_lem = let g = b.laid e in g.built.hop_count ∙ ap (λ (w : ℕ). length (bitmap_hops w (table_binary W vs ls hs))) g.width ∙ hops_are_entries W vs ls hs g.table

  module _ (a : ℕ) (h : a < 2 ^ W) {r : Answer} (l : LookedBitmap WIDTH rec rows' hops' a r) where
    is_looked : r ≡ lookup_bitmap_of WIDTH rec rows' hops' a
    is_looked = looked_bitmap_unique l (looked_bitmap WIDTH rec rows' hops' a)

    -- ---- demand 2: hop and length of the longest table prefix that begins the address (02, [5])
    pub bitmap_longest : (number_of r ≡ 0) × LongestEntry W vs ls hs a (hop_of r) (length_of r)
    bitmap_longest = let g = b.laid e in rw is_looked (bitmap_not_refused g a h, laid_bitmap_longest g a h)

    -- they say that there is none exactly when no prefix does
    pub bitmap_none : (r ≡ NoRoute (reads_of r)) ↔ NoPrefix W vs ls a
    bitmap_none = let g = b.laid e in rw (is_looked, bitmap_reads g a h) (no_bitmap_route g a h)

    -- and it is a discard exactly when the longest prefix that begins the address discards (02, [4])
    pub bitmap_discard : (r ≡ Discard (length_of r) (reads_of r)) ↔ LongestDiscards W vs ls hs a
    bitmap_discard = Iff.trans (discard_by_hop r l.case) (longest_discards W vs ls hs (b.laid e).table a bitmap_longest.1)

    -- and a hop that is answered is a link that the gateway has, or a discard's, or none (02, [7])
    pub bitmap_link : unlinked links (hop_of r) ≡ false
    bitmap_link = longest_linked W links vs ls hs (b.laid e).table (bitmap_linked b e) a bitmap_longest.1

    -- ---- demand 3: r reads are r supernodes, one at each of the levels 0, 4, .. at which the address's start begins some entry, and no other
    pub bitmap_counted : (n : ℕ) → (n < reads_of r) ↔ ((STEP * n ≤ W) × SomeBegins W (at vs) (at ls) (length vs) (STEP * n) (start W (STEP * n) a))
    bitmap_counted n = let g = b.laid e in rw (is_looked, bitmap_reads g a h) (path_levels g a h n)

    -- those on the path are the supernodes at these nodes: the n-th has the number that its node has breadth first, and is laid from that
    -- node's subtrie
    pub bitmap_path : {is : List ℕ} {w : Best} → OnWay rec rows' a is w → (reads_of r ≡ length is) × ((n : ℕ) → n < length is
        → (get_or is n 0 ≡ number_on n (table_binary W vs ls hs) (start W (STEP * n) a))
        × (get_or (supernodes_of W (table_binary W vs ls hs)) (get_or is n 0) empty ≡ subtrie_along (STEP * n) (table_binary W vs ls hs) (start W (STEP * n) a)))
    bitmap_path o =
        let g = b.laid e in
        let p = (way_numbers rec rows' a o).0 in
        rw (← p, is_looked) (bitmap_reads g a h, λ n k. (path_places g a h n k, path_tries g a h n k))

    -- r is never above W / 4 and one
    pub bitmap_few : reads_of r ≤ suc (W / STEP)
    bitmap_few = subst (λ (w : ℕ). reads_of r ≤ suc (w / STEP)) (b.laid e).width (reads_bound l)

    -- and the answer depends on the record, the rows of those supernodes and the winner's hop alone
    pub bitmap_alone : (other : RowLists) (others : List ℕ) → rec.supernodes ≤ row_room other → rec.hops ≤ length others
        → {is : List ℕ} {w : Best} → OnWay rec rows' a is w → ((i : ℕ) → Memᴰ i is → supernode_at rows' i ≡ supernode_at other i)
        → winning_hop hops' w ≡ winning_hop others w → {r' : Answer} → LookedBitmap WIDTH rec other others a r' → r ≡ r'
    bitmap_alone other others fits fits' o same same-hop l' =
        let g = (b.laid e).built in
        any_bitmap_alone l o other others g.room fits g.hop_room fits' same same-hop l'
