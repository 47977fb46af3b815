-- What a mark says. Hop and length are read back from it; the lookup's rule, which takes a row with a nonzero hop, agrees with the trie's,
-- which takes a nonzero mark; and a winner's mark says that winner's hop and length.
use Prim.Native.Nat.{ℕ, zero, suc, ◌<◌}
use mathlib.Core.Path.{◌≡◌, refl, sym, ap, ◌∙◌}
use mathlib.Core.Bool.{Bool, true, false, cond}
use mathlib.Core.List.{List}
use native.Mathlib.Omega.{arith}
use native.Mathlib.Decide.{dec_le}
use lib.Dec.{eqb}
use lib.ListN.{length, get_or-eq_default}
use borrow.Author.Tests.{eqb-true, eqb-false, ne_eqb}
use Rattle.table.specs.Longest.{best, of_winner, newer}
use Rattle.table.specs.Table.{at, Table}
use Rattle.strides.specs.Entries.{whole_entry, floor_of}
use Rattle.strides.proofs.Longest.{exact_mark, exact_length}
use Rattle.strides.proofs.Marks.{AllMarks, trie_marks}
use Rattle.walk.specs.Answers.{HopLength, floor_best}
use Rattle.layout.specs.Marks.{LENGTHS, entry_mark, entry_marks, hop_in, length_in}
use Rattle.layout.specs.Laid.{table_trie, table_floor}

abbrev pub mark_best : (mark : ℕ) → HopLength
mark_best mark = record { hop = hop_in mark; len = length_in mark }

-- a mark that has a hop, or 0
abbrev pub HasHop : (mark : ℕ) → Type 0
HasHop mark = hop_in mark ≡ 0 → mark ≡ 0

same_best : {h h' l l' : ℕ} → h ≡ h' → l ≡ l' → ◌≡◌ {A = HopLength} (record { hop = h; len = l }) (record { hop = h'; len = l' })
same_best p q = rw (p, q) refl

mark_says : (h l : ℕ) → l < LENGTHS → mark_best (entry_mark h l) ≡ record { hop = h; len = l }
mark_says h l small = same_best (omega arith) (omega arith)

-- a row that says the mark v, where the best so far is that of the mark b
pub row_says : (v b : ℕ) → HasHop v → cond (eqb (hop_in v) 0) (mark_best b) (mark_best v) ≡ mark_best (newer v b)
row_says v b h = go (eqb v 0) refl
  where
    go : (t : Bool) → eqb v 0 ≡ t → cond (eqb (hop_in v) 0) (mark_best b) (mark_best v) ≡ mark_best (cond t b v)
    go true e = let z : v ≡ 0 = eqb-true v 0 e in rw z refl
    go false e = rw (ne_eqb (hop_in v) 0 (λ g. eqb-false v 0 e (h g))) refl

-- ---- of a table's entries
module _ {W : ℕ} {vs ls hs : List ℕ} (t : Table W vs ls hs) where
  length_small : (i : ℕ) → at ls i < LENGTHS
  length_small i = elim (dec_le (suc i) (length vs)) [
    | yes h ↦ omega (arith, (t.entry i h).prefix.short, t.width)
    | no h ↦ omega (arith, get_or-eq_default ls 0 {n = i} (omega (arith, t.lengths)))
  ]

  pub some_mark : (i : ℕ) → i < length vs → 0 < entry_marks ls hs i
  some_mark i h = omega (arith, (t.entry i h).some_hop)

  pub table_marks : AllMarks HasHop (table_trie W vs ls hs)
  table_marks = trie_marks HasHop (λ e. refl) W (at vs) (at ls) (entry_marks ls hs) (length vs) (λ i h e. absurd (omega (arith, (t.entry i h).some_hop, length_small i)))

  pub winner_says : (w : ℕ) → mark_best (of_winner (entry_marks ls hs) w) ≡ record { hop = of_winner (at hs) w; len = of_winner (at ls) w }
  unfolding of_winner
  winner_says zero = refl
  winner_says (suc j) = mark_says (at hs j) (at ls j) (length_small j)

  -- the floor is the hop of the entry of length 0, so its length is 0
  pub floor_says : mark_best (floor_of W (at vs) (at ls) (entry_marks ls hs) (length vs)) ≡ floor_best (table_floor W vs ls hs)
  unfolding floor_of of_winner
  floor_says =
      ap mark_best (sym (exact_mark W (at vs) (at ls) (entry_marks ls hs) (length vs) 0 0)) ∙ winner_says w
      ∙ same_best (exact_mark W (at vs) (at ls) (at hs) (length vs) 0 0) (none_long w refl)
    where
      w : ℕ
      w = best (whole_entry W (at vs) (at ls) 0 0) (at ls) (length vs)

      none_long : (x : ℕ) → w ≡ x → of_winner (at ls) x ≡ 0
      none_long zero e = refl
      none_long (suc j) e = (exact_length W (at vs) (at ls) (length vs) 0 0 j e).1
