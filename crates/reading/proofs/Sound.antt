-- The text of a sound sheet is good and says that very sheet, and any line that is read, good or bad, says something sound.
use mathlib.Core.Path.{◌≡◌, refl, sym, ap, ◌∙◌}
use mathlib.Core.List.{List, [], ◌++◌, append_assoc, append-nil}
use mathlib.Core.Bool.{true, ◌&&◌}
use Prim.Native.Nat.{ℕ, ◌+◌, ◌-◌, ◌^◌, ◌≤◌, ◌<◌}
use native.Mathlib.Omega.{arith}
use lib.ListN.{length, length-drop}
use lib.Dec.{leb, lit≤}
use Rattle.std.proofs.lemmas.Bool.{and_parts}
use borrow.Author.Tests.{eq-eqb, leb-true}
use Rattle.reading.specs.Limits.{COUNT, number_digits, NUMBER, SHORT, BITS}
use Rattle.reading.specs.Keys.{width_key, levels_key, links_key, entries_key, bits_key, hop_key, queries_key, address_key}
use Rattle.reading.specs.Lines.{Spot, Item, key_at, count_at, digits_at, close, bits_line, kind_named}
use Rattle.reading.specs.Entries.{entry_from, address_from, after_entries, after_queries, entry_bits, entry_length, entry_hop, query_address, query_places}
use Rattle.reading.specs.Sheet.{Sheet}
use Rattle.reading.specs.Text.{good, text_start, width_item, kind_item, levels_item, links_item, entries_item, queries_item, last_spot, sheet_of, text_of}
use Rattle.reading.specs.Spelling.{kind_text, entry_text, query_text, sheet_text, Sound}
use Rattle.reading.specs.Numerals.{decimal_length, line_of, joined}
use Rattle.reading.proofs.Steps.{number_is, bits_is}
use Rattle.reading.proofs.Whole.{to_last}
use Rattle.reading.proofs.Spelled.{tested_good, close_good}
use Rattle.reading.proofs.ReadBack.{Ahead, ReadAs, number_read, kind_read, listed_all, EntriesAs, entries_read, QueriesAs, queries_read}

-- ---- the whole text

-- nine texts, from the first on
pub nine : (a b c d e f g h i : List ℕ) → a ++ b ++ c ++ d ++ e ++ f ++ g ++ h ++ i ≡ a ++ (b ++ (c ++ (d ++ (e ++ (f ++ (g ++ (h ++ i)))))))
nine a b c d e f g h i =
    rw (
      append_assoc (a ++ b ++ c ++ d ++ e ++ f ++ g) h i,
      append_assoc (a ++ b ++ c ++ d ++ e ++ f) g (h ++ i),
      append_assoc (a ++ b ++ c ++ d ++ e) f (g ++ (h ++ i)),
      append_assoc (a ++ b ++ c ++ d) e (f ++ (g ++ (h ++ i))),
      append_assoc (a ++ b ++ c) d (e ++ (f ++ (g ++ (h ++ i)))),
      append_assoc (a ++ b) c (d ++ (e ++ (f ++ (g ++ (h ++ i))))),
      append_assoc a b (c ++ (d ++ (e ++ (f ++ (g ++ (h ++ i)))))),
    )

-- the text of a sound sheet, and what stands after it
module _ (sh : Sheet) (sound : Sound sh) (extra : List ℕ) where
  abbrev n : ℕ
  n = length sh.bits

  abbrev m : ℕ
  m = length sh.addresses

  abbrev entries_text : List ℕ
  entries_text = joined (entry_text sh.bits sh.lengths sh.hops) n

  abbrev queries_text : List ℕ
  queries_text = joined (query_text sh.addresses sh.places) m

  -- what is left after the entries, after their count, after the levels, and after the kind
  abbrev entries_rest : List ℕ
  entries_rest = line_of queries_key m ++ (queries_text ++ extra)

  abbrev count_rest : List ℕ
  count_rest = entries_text ++ entries_rest

  abbrev levels_rest : List ℕ
  levels_rest = line_of links_key sh.links ++ (line_of entries_key n ++ count_rest)

  abbrev kind_rest : List ℕ
  kind_rest = line_of levels_key sh.levels ++ levels_rest

  module _ (s : List ℕ) (is : s ≡ sheet_text sh ++ extra) where
    all_ahead : Ahead s text_start (line_of width_key sh.width ++ (kind_text sh.kind ++ kind_rest))
    unfolding sheet_text
    all_ahead =
        record {
          on = refl;
          left =
              is
              ∙ nine (line_of width_key sh.width) (kind_text sh.kind) (line_of levels_key sh.levels) (line_of links_key sh.links) (line_of entries_key n)
              entries_text (line_of queries_key m) queries_text extra;
        }

    width_said : ReadAs s (kind_text sh.kind ++ kind_rest) sh.width (decimal_length sh.width) (width_item s)
    unfolding width_item
    width_said = number_read width_key s text_start (kind_text sh.kind ++ kind_rest) NUMBER sh.width (lit≤ tt) sound.width_fits all_ahead

    kind_said : (kind_named (kind_item s).value ≡ sh.kind) × Ahead s (kind_item s).spot kind_rest
    unfolding kind_item
    kind_said = kind_read s (width_item s).spot kind_rest sh.kind width_said.ahead

    levels_said : ReadAs s levels_rest sh.levels (decimal_length sh.levels) (levels_item s)
    unfolding levels_item
    levels_said = number_read levels_key s (kind_item s).spot levels_rest NUMBER sh.levels (lit≤ tt) sound.levels_fit kind_said.1

    links_said : ReadAs s (line_of entries_key n ++ count_rest) sh.links (decimal_length sh.links) (links_item s)
    unfolding links_item
    links_said =
        number_read links_key s (levels_item s).spot (line_of entries_key n ++ count_rest) SHORT sh.links (lit≤ tt) sound.links_fit levels_said.ahead

    count_said : ReadAs s count_rest n (decimal_length n) (entries_item s)
    unfolding entries_item
    count_said = number_read entries_key s (links_item s).spot count_rest COUNT n (lit≤ tt) sound.entries_few links_said.ahead

    entries_said : EntriesAs s (entries_item s).spot sh.bits sh.lengths sh.hops entries_rest n
    entries_said = entries_read s (entries_item s).spot sh.bits sh.lengths sh.hops n entries_rest sound.entry count_said.ahead

    queries_count_said : ReadAs s (queries_text ++ extra) m (decimal_length m) (queries_item s)
    unfolding queries_item
    queries_count_said =
        rw count_said.value
        (number_read queries_key s (after_entries s (entries_item s).spot n) (queries_text ++ extra) COUNT m (lit≤ tt) sound.queries_few entries_said.ahead)

    queries_said : QueriesAs s (queries_item s).spot sh.addresses sh.places extra m
    queries_said = queries_read s (queries_item s).spot sh.addresses sh.places m extra sound.query queries_count_said.ahead

    last_said : Ahead s (last_spot s) extra
    unfolding last_spot
    last_said = rw queries_count_said.value queries_said.ahead

    sheet_said : sheet_of s ≡ sh
    unfolding sheet_of
    sheet_said =
        rw (
          width_said.value,
          kind_said.0,
          levels_said.value,
          links_said.value,
          count_said.value,
          queries_count_said.value,
          entries_said.bits ∙ listed_all sh.bits n refl,
          entries_said.lengths ∙ listed_all sh.lengths n sound.as_many_lengths,
          entries_said.hops ∙ listed_all sh.hops n sound.as_many_hops,
          queries_said.addresses ∙ listed_all sh.addresses m refl,
          queries_said.places ∙ listed_all sh.places m sound.as_many_places,
        )

-- every line is read, and what stands after the text is left
pub spelled_is_read : (sh : Sheet) → Sound sh → (extra : List ℕ) → Ahead (sheet_text sh ++ extra) (last_spot (sheet_text sh ++ extra)) extra
spelled_is_read sh sound extra = last_said sh sound extra (sheet_text sh ++ extra) refl

-- the text of a sound sheet is good, and says that sheet
pub spelled_is_good : (sh : Sheet) → Sound sh → text_of (sheet_text sh) ≡ good sh
unfolding text_of
spelled_is_good sh sound =
    let s = sheet_text sh in
    let is : s ≡ s ++ [] = sym (append-nil s) in
    let last = last_said sh sound [] s is in
    let l : 0 ≡ length s - (last_spot s).at = sym (ap length last.left) ∙ length-drop (last_spot s).at s in
    let e : (last_spot s).at ≡ length s = omega (arith, (to_last s).within (omega arith)) in
    rw (last.on, eq-eqb (last_spot s).at (length s) e, sheet_said sh sound [] s is)

-- two sound sheets with one text are one
pub sheet_of_text : {a b : Sheet} → Sound a → Sound b → sheet_text a ≡ sheet_text b → a ≡ b
sheet_of_text {a} {b} p q e = let w : good a ≡ good b = sym (spelled_is_good a p) ∙ ap text_of e ∙ spelled_is_good b q in cc

-- ---- what a line says is sound

-- a good line of bits has as many as are asked for
pub bits_enough : (least : ℕ) (key s : List ℕ) (p : Spot) → (bits_line least key s p).spot.good ≡ true → least ≤ (bits_line least key s p).count
unfolding bits_line digits_at
bits_enough least key s p e =
    let q = p.at + length key in
    tested_good s p R (key_at key s p.at && leb least (count_at 2 BITS s q)) (close s p (q + count_at 2 BITS s q) (digits_at 2 BITS s q))
    (λ t g.
    close_good s p R (q + count_at 2 BITS s q) (digits_at 2 BITS s q)
    (λ pg lf. leb-true _ _ (and_parts (key_at key s p.at) (leb least (count_at 2 BITS s q)) t).1) g)
    e
  where
    R : Item → Type 0
    R l = least ≤ l.count

module _ (s : List ℕ) (p : Spot) (i : ℕ) where
  pub entry_fits : (entry_length s p i ≤ BITS) × (entry_bits s p i < 2 ^ entry_length s p i) × (entry_hop s p i ≤ SHORT)
  unfolding entry_length entry_bits entry_hop entry_from
  entry_fits =
      let q = after_entries s p i in
      let w = (bits_is bits_key s q 0).value in
      (w.1, w.0, (number_is hop_key s (bits_line 0 bits_key s q).spot number_digits SHORT).value)

  pub query_fits : (query_address s p i < 2 ^ query_places s p i) × (query_places s p i ≤ BITS)
  unfolding query_address query_places address_from
  query_fits = (bits_is address_key s (after_queries s p i) 1).value
