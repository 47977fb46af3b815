-- A text longer than any good one is bad, and its first bytes have the same first bad line: a line is read from the bytes of a
-- bounded stretch, and all lines together end before place LONGEST.
use mathlib.Core.Path.{◌≡◌, refl, sym, ap, ◌∙◌}
use mathlib.Core.List.{List, [], ◌∷◌}
use mathlib.Core.Bool.{Bool, true, false, ◌&&◌, cond}
use Prim.Native.Nat.{ℕ, zero, suc, ◌+◌, ◌*◌, ◌≤◌, ◌<◌}
use Prim.Dec.{yes, no}
use native.Mathlib.Omega.{arith}
use native.Mathlib.Decide.{dec_le}
use lib.ListN.{length, take}
use lib.Seq.{get_or-take, length-take-le, take_all}
use lib.Dec.{eqb}
use borrow.Author.Tests.{ne_eqb}
use Rattle.reading.specs.declared.lines.Digits.{Digits}
use Rattle.reading.specs.Limits.{COUNT, number_digits, NUMBER, SHORT, BITS, entry_line_bytes, query_line_bytes, LONGEST}
use Rattle.reading.specs.Keys.{width_key, fixed_key, variable_key, levels_key, links_key, entries_key, bits_key, hop_key, queries_key, address_key}
use Rattle.reading.specs.Lines.{Spot, Item, byte_at, key_at, count_at, value_at, digits_at, close, number_line, bits_line, kind_line}
use Rattle.reading.specs.Entries.{EntryItem, entry_from, address_from, after_entries, after_queries}
use Rattle.reading.specs.Sheet.{Sheet}
use Rattle.reading.specs.Text.{good, bad, text_start, width_item, kind_item, levels_item, links_item, entries_item, queries_item, last_spot, sheet_of, text_of}
use Rattle.reading.specs.Spelling.{sheet_text, Sound}
use Rattle.reading.proofs.Digits.{count_most, read_most}
use Rattle.reading.proofs.Steps.{bits_is, entries_step, queries_step}
use Rattle.reading.proofs.Whole.{width_line, kind_line_lem, levels_line, links_line, entries_line, queries_line, to_entries, to_queries, to_last, after_entries_lem}
use Rattle.reading.proofs.Sound.{spelled_is_good}

-- two texts with the same bytes before place B
module _ (s t : List ℕ) (B : ℕ) (same : (p : ℕ) → p < B → byte_at s p ≡ byte_at t p) where
  key_same : (key : List ℕ) (p : ℕ) → p + length key ≤ B → key_at key s p ≡ key_at key t p
  unfolding key_at
  key_same [] p h = refl
  key_same (k ∷ key) p h = rw (same p (omega arith), key_same key (suc p) (omega arith))

  count_same : (b k p : ℕ) → p + k ≤ B → count_at b k s p ≡ count_at b k t p
  unfolding count_at
  count_same b zero p h = refl
  count_same b (suc k) p h = rw (same p (omega arith), count_same b k (suc p) (omega arith))

  value_same : (b n p : ℕ) → p + n ≤ B → value_at b n s p ≡ value_at b n t p
  unfolding value_at
  value_same b zero p h = refl
  value_same b (suc n) p h = rw (same (p + n) (omega arith), value_same b n p (omega arith))

  digits_same : (b k p : ℕ) → p + k ≤ B → digits_at b k s p ≡ digits_at b k t p
  unfolding digits_at
  digits_same b k p h = rw (count_same b k p h, value_same b (count_at b k t p) p (omega (arith, count_most b k t p)))

  close_same : (p : Spot) (end : ℕ) (d : Digits) → end < B → close s p end d ≡ close t p end d
  unfolding close
  close_same p end d h = rw (same end h)

  number_same : (k most : ℕ) (key : List ℕ) (p : Spot) → p.at + length key + k < B → number_line k most key s p ≡ number_line k most key t p
  unfolding number_line
  number_same k most key p h =
      rw (
        key_same key p.at (omega arith),
        same (p.at + length key) (omega arith),
        digits_same 10 k (p.at + length key) (omega arith),
        close_same p (p.at + length key + (digits_at 10 k t (p.at + length key)).count) (digits_at 10 k t (p.at + length key))
            (omega (arith, read_most 10 k t (p.at + length key) refl)),
      )

  bits_same : (least : ℕ) (key : List ℕ) (p : Spot) → p.at + length key + BITS < B → bits_line least key s p ≡ bits_line least key t p
  unfolding bits_line
  bits_same least key p h =
      rw (
        key_same key p.at (omega arith),
        digits_same 2 BITS (p.at + length key) (omega arith),
        close_same p (p.at + length key + (digits_at 2 BITS t (p.at + length key)).count) (digits_at 2 BITS t (p.at + length key))
            (omega (arith, read_most 2 BITS t (p.at + length key) refl)),
      )

  kind_same : (p : Spot) → p.at + length fixed_key < B → kind_line s p ≡ kind_line t p
  unfolding kind_line
  kind_same p h =
      rw (
        key_same fixed_key p.at (omega arith),
        key_same variable_key p.at (omega arith),
        close_same p (p.at + length fixed_key) (record { value = 0; count = 0 }) h,
        close_same p (p.at + length fixed_key) (record { value = 1; count = 0 }) h,
      )

  entry_same : (p : Spot) → p.at + entry_line_bytes ≤ B → entry_from s p ≡ entry_from t p
  unfolding entry_from
  entry_same p h =
      rw (
        bits_same 0 bits_key p (omega arith),
        number_same number_digits SHORT hop_key (bits_line 0 bits_key t p).spot (omega (arith, (bits_is bits_key t p 0).step.near)),
      )

  entries_same : (p : Spot) (n : ℕ) → p.at + n * entry_line_bytes ≤ B → after_entries s p n ≡ after_entries t p n
  unfolding after_entries
  entries_same p zero h = refl
  entries_same p (suc n) h =
      ap (λ (q : Spot). (entry_from s q).spot) (entries_same p n (omega arith))
      ∙ ap (λ (e : EntryItem). e.spot) (entry_same (after_entries t p n) (omega (arith, (entries_step t p n).near)))

  queries_same : (p : Spot) (n : ℕ) → p.at + n * query_line_bytes ≤ B → after_queries s p n ≡ after_queries t p n
  unfolding after_queries address_from
  queries_same p zero h = refl
  queries_same p (suc n) h =
      ap (λ (q : Spot). (bits_line 1 address_key s q).spot) (queries_same p n (omega arith))
      ∙ ap (λ (l : Item). l.spot) (bits_same 1 address_key (after_queries t p n) (omega (arith, (queries_step t p n).near)))

  -- ---- the single lines, where B lies past them

  module _ (long : LONGEST < B) where
    width_same : width_item s ≡ width_item t
    unfolding width_item
    width_same = number_same number_digits NUMBER width_key text_start (omega arith)

    kind_item_same : kind_item s ≡ kind_item t
    unfolding kind_item
    kind_item_same = rw (width_same, kind_same (width_item t).spot (omega (arith, (width_line t).step.near)))

    levels_same : levels_item s ≡ levels_item t
    unfolding levels_item
    levels_same =
        rw (
          kind_item_same,
          number_same number_digits NUMBER levels_key (kind_item t).spot (omega (arith, (width_line t).step.near, (kind_line_lem t).step.near)),
        )

    links_same : links_item s ≡ links_item t
    unfolding links_item
    links_same =
        rw (
          levels_same,
          number_same number_digits SHORT links_key (levels_item t).spot
              (omega (arith, (width_line t).step.near, (kind_line_lem t).step.near, (levels_line t).step.near)),
        )

    entries_item_same : entries_item s ≡ entries_item t
    unfolding entries_item
    entries_item_same =
        rw (
          links_same,
          number_same number_digits COUNT entries_key (links_item t).spot
              (omega (arith, (width_line t).step.near, (kind_line_lem t).step.near, (levels_line t).step.near, (links_line t).step.near)),
        )

    queries_item_same : queries_item s ≡ queries_item t
    unfolding queries_item
    queries_item_same =
        let n = (to_entries t).near in
        let m = (entries_line t).value in
        rw (
          entries_item_same,
          entries_same (entries_item t).spot (entries_item t).value (omega arith),
          number_same number_digits COUNT queries_key (after_entries t (entries_item t).spot (entries_item t).value) (omega (arith, (after_entries_lem t).near)),
        )

    pub last_same : last_spot s ≡ last_spot t
    unfolding last_spot
    last_same =
        rw (
          queries_item_same,
          queries_same (queries_item t).spot (queries_item t).value (omega (arith, (to_queries t).near, (queries_line t).value)),
        )

-- ---- texts longer than any good one

-- a long text is bad at its first bad line, or at the line after the last
pub long_is_bad : (s : List ℕ) → LONGEST < length s → text_of s ≡ bad (last_spot s).line
unfolding text_of
long_is_bad s h =
    let e : eqb (last_spot s).at (length s) ≡ false = ne_eqb _ _ (λ (z : (last_spot s).at ≡ length s). omega (arith, (to_last s).near)) in
    rw e (go (last_spot s).good)
  where
    go : (t : Bool) → cond (t && false) (good (sheet_of s)) (bad (last_spot s).line) ≡ bad (last_spot s).line
    go true = refl
    go false = refl

-- no good text is longer
pub sound_short : (sh : Sheet) → Sound sh → length (sheet_text sh) ≤ LONGEST
sound_short sh sound =
    elim (dec_le (length (sheet_text sh)) LONGEST) [
      | yes p ↦ p
      | no p ↦
          let e : good sh ≡ bad (last_spot (sheet_text sh)).line = sym (spelled_is_good sh sound) ∙ long_is_bad (sheet_text sh) (omega arith) in
          absurd (let z : ◌≡◌ {A = ℕ} 0 1 = cc in omega arith)
    ]

-- the first B bytes of a text say what the whole says
pub first_bytes : (B : ℕ) → LONGEST < B → (s : List ℕ) → text_of (take B s) ≡ text_of s
unfolding byte_at
first_bytes B long s =
    elim (dec_le (length s) B) [
      | yes p ↦ ap text_of (take_all B s p)
      | no p ↦
          long_is_bad (take B s) (omega (arith, length-take-le B s (omega arith)))
          ∙ ap (λ (q : Spot). bad q.line) (last_same (take B s) s B (λ i h. get_or-take B s i 0 h) long)
          ∙ sym (long_is_bad s (omega arith))
    ]
