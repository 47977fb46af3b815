-- What a lookup reads of a record and lists that are `Laid` for a table, with any strides that can be built and any k. Nothing here
-- knows how the strides were chosen: a further kind of build needs only be `Laid`.
use Prim.Native.Nat.{ℕ, ◌+◌, ◌-◌, ◌^◌, ◌≤◌, ◌<◌}
use mathlib.Core.Path.{◌≡◌, refl, sym, ap, ◌∙◌}
use mathlib.Core.Logic.{◌↔◌}
use mathlib.Core.List.{List, map, Memᴰ}
use native.Mathlib.Omega.{arith}
use lib.ListN.{length}
use Rattle.table.specs.Prefix.{start}
use Rattle.table.specs.Table.{at}
use Rattle.table.specs.Longest.{winner, winner_in, longest, matched, of_winner, NoPrefix, LongestEntry}
use Rattle.table.proofs.Longest.{winner_none, longest_is, longest_zero}
use Rattle.strides.specs.Trie.{mark_along}
use Rattle.strides.specs.Entries.{floor_of}
use Rattle.strides.specs.Strides.{cost_by}
use Rattle.strides.proofs.Longest.{mark_block, last_mark_is_longest}
use Rattle.walk.specs.declared.record.Record.{Record}
use Rattle.walk.specs.Cases.{NoRoute}
use Rattle.walk.specs.Rows.{Lists, shortest, row_at}
use Rattle.walk.specs.Answers.{hop_of, length_of, reads_of, NotRefused, HopLength, floor_best, row_best, answer}
use Rattle.walk.specs.Lookup.{path_rows, lookup_of}
use Rattle.walk.specs.Packed.{NoHopNoLength}
use Rattle.layout.specs.Blocks.{Strides, blocks_along, block_count, rows_along}
use Rattle.layout.specs.Marks.{entry_marks}
use Rattle.layout.specs.Laid.{table_trie, Laid}
use Rattle.walk.proofs.Answers.{answer_number, answer_hop, answer_length, answer_reads}
use Rattle.walk.proofs.Reading.{reads_most, lookup_local}
use Rattle.layout.proofs.Cost.{count_cost}
use Rattle.layout.proofs.Marks.{mark_best, some_mark, table_marks, winner_says, floor_says}
use Rattle.layout.proofs.Answering.{map_same, path_exactly, lookup_built, rows_say}

module _ {most W : ℕ} {vs ls hs : List ℕ} {σ : Strides} {k : ℕ} {rec : Record} {rows : Lists} (g : Laid most W vs ls hs σ k rec rows) where
  hop_some : (i : ℕ) → i < length vs → 0 < at hs i
  hop_some i h = (g.table.entry i h).some_hop

  -- ---- E is what the strides cost
  pub elements_cost : rec.elements ≡ cost_by σ (table_trie W vs ls hs) 0 k
  elements_cost = g.built.elements ∙ rw g.levels (count_cost σ (table_trie W vs ls hs) k)

  module _ (a : ℕ) (small : a < 2 ^ W) where
    -- ---- the longest prefix
    -- what the last nonzero mark on the address's path says, else the floor, is the winner's hop and length
    abbrev won : HopLength
    won = record { hop = longest W (at vs) (at ls) (at hs) (length vs) a; len = matched W (at vs) (at ls) (length vs) a }

    mark_won : mark_best (mark_along W (table_trie W vs ls hs) a (floor_of W (at vs) (at ls) (entry_marks ls hs) (length vs))) ≡ won
    unfolding longest matched
    mark_won =
        ap mark_best (last_mark_is_longest W (at vs) (at ls) (entry_marks ls hs) (length vs) (λ i h. (g.table.entry i h).prefix) (some_mark g.table) a small)
        ∙ winner_says g.table (winner W (at vs) (at ls) (length vs) a)

    pub lookup_longest : lookup_of most rec rows a ≡ answer won.hop won.len (block_count σ W (table_trie W vs ls hs) k a)
    lookup_longest =
        lookup_built g.built a (rw g.width small) (table_marks g.table) _ (floor_says g.table ∙ ap floor_best (sym g.floor))
        ∙ rw (g.width, g.levels) (ap (λ (b : HopLength). answer b.hop b.len (block_count σ W (table_trie W vs ls hs) k a)) mark_won)

    pub accepted : NotRefused (lookup_of most rec rows a)
    accepted = rw lookup_longest (answer_number won.hop won.len _)

    -- a hop that is 0 has no winner, and so no length
    won_no_hop : NoHopNoLength won
    unfolding longest matched of_winner
    won_no_hop e = ap (of_winner (at ls)) ((winner_none W (at vs) (at ls) (length vs) a).1 ((longest_zero W (at vs) (at ls) (at hs) (length vs) a hop_some).0 e))

    pub hop_longest : hop_of (lookup_of most rec rows a) ≡ longest W (at vs) (at ls) (at hs) (length vs) a
    hop_longest = rw lookup_longest (answer_hop won.hop won.len _)

    pub length_longest : length_of (lookup_of most rec rows a) ≡ matched W (at vs) (at ls) (length vs) a
    length_longest = rw lookup_longest (answer_length won _ won_no_hop)

    -- which are both 0, or hop and length of a prefix that begins the address and than which none that does is longer
    pub laid_longest : LongestEntry W vs ls hs a (hop_of (lookup_of most rec rows a)) (length_of (lookup_of most rec rows a))
    laid_longest = rw (hop_longest, length_longest) (longest_is W (at vs) (at ls) (at hs) (length vs) a)

    -- no route exactly when no prefix begins the address
    pub no_route : (lookup_of most rec rows a ≡ NoRoute (block_count σ W (table_trie W vs ls hs) k a)) ↔ NoPrefix W vs ls a
    unfolding answer
    no_route =
        let z = longest_zero W (at vs) (at ls) (at hs) (length vs) a hop_some in (
          λ e. z.0 (sym hop_longest ∙ ap hop_of e),
          λ nil. lookup_longest ∙ rw (z.1 nil) refl,
        )

    -- ---- the rows read are those of the blocks on the path, and no other row matters
    pub rows_exactly : path_rows rec rows a ≡ rows_along σ W k (table_trie W vs ls hs) a
    rows_exactly = path_exactly g.built a (rw g.width small) ∙ rw (g.width, g.levels)

    -- the row read in a block of stride s at depth d has hop and length of the longest entry with length above d and at most d + s that
    -- begins the address, else both are 0
    pub rows_say_exactly : map (λ r. row_best (row_at rows r)) (path_rows rec rows a)
        ≡ map (λ b. let w = winner_in W (at vs) (at ls) (length vs) (W - b.bits) (W - b.bits + b.stride) a in
        record { hop = of_winner (at hs) w; len = of_winner (at ls) w }) (blocks_along σ W (table_trie W vs ls hs) 0 0 k a)
    unfolding start
    rows_say_exactly =
        let block = mark_block W (at vs) (at ls) (entry_marks ls hs) (length vs) (λ i h. (g.table.entry i h).prefix) (some_mark g.table) a small in
        rows_say g.built a (rw g.width small) (λ d l. of_winner (entry_marks ls hs) (winner_in W (at vs) (at ls) (length vs) d l a))
        (rw g.width block)
        ∙ rw (g.width, g.levels) (map_same _ _ (blocks_along σ W (table_trie W vs ls hs) 0 0 k a)
        (λ b. winner_says g.table (winner_in W (at vs) (at ls) (length vs) (W - b.bits) (W - b.bits + b.stride) a)))

    pub reads_blocks : reads_of (lookup_of most rec rows a) ≡ block_count σ W (table_trie W vs ls hs) k a
    reads_blocks = rw lookup_longest (answer_reads won.hop won.len _)

    pub reads_few : reads_of (lookup_of most rec rows a) ≤ k
    reads_few = omega (arith, reads_most most rec rows a, g.levels)

    pub rows_alone : (rows' : Lists) → rec.elements ≤ shortest rows'
        → ((r : ℕ) → Memᴰ r (rows_along σ W k (table_trie W vs ls hs) a) → row_at rows r ≡ row_at rows' r)
        → lookup_of most rec rows a ≡ lookup_of most rec rows' a
    rows_alone rows' h same = lookup_local rec a rows rows' (rw rows_exactly same) most g.built.room h

-- one table, one answer: two builds of a table, of any strides, k and lists, answer every address alike in hop and length
pub one_answer : {most W : ℕ} {vs ls hs : List ℕ} {σ σ' : Strides} {k k' : ℕ} {rec rec' : Record} {rows rows' : Lists}
    → Laid most W vs ls hs σ k rec rows → Laid most W vs ls hs σ' k' rec' rows' → (a : ℕ) → a < 2 ^ W
    → (hop_of (lookup_of most rec rows a) ≡ hop_of (lookup_of most rec' rows' a)) × (length_of (lookup_of most rec rows a) ≡ length_of (lookup_of most rec' rows' a))
one_answer g g' a small = (hop_longest g a small ∙ sym (hop_longest g' a small), length_longest g a small ∙ sym (length_longest g' a small))
