-- One source trie: what its lookup is lent is the lists from its place on, a root stride that no record can hold is refused by 9 in any
-- case, and what its answer leads to.
use mathlib.Core.Path.{◌≡◌, refl, sym, ap, ◌∙◌}
use mathlib.Core.List.{List}
use mathlib.Core.Bool.{Bool, true, false, cond}
use Prim.Native.Nat.{ℕ, zero, suc, ◌+◌, ◌-◌, ◌/◌, ◌^◌, ◌≤◌, ◌<◌}
use native.Mathlib.Omega.{arith}
use native.Mathlib.Nat.{pos_of_ne-zero}
use lib.ListN.{length, take, drop, length-drop}
use lib.Seq.{take_all}
use lib.Dec.{ltb, leb}
use Rattle.std.specs.Prelude.{Result, Ok, Err}
use borrow.Author.Tests.{ltb-true, leb-true}
use Rattle.table.proofs.Bools.{and_true}
use Rattle.table.specs.Lists.{padded}
use Rattle.walk.specs.Limits.{WIDTH, LEVELS, Within}
use Rattle.walk.specs.Rows.{Lists, lists}
use Rattle.walk.specs.Answers.{number_of, reads_of, answer, answer_numbers}
use Rattle.walk.specs.Told.{lookup_refusal_number, numbers_of}
use Rattle.walk.specs.Lookup.{lookup_of}
use Rattle.walk.specs.Meaning.{Damage as IsDamaged, Tested, breaks, damaged, too_wide}
use Rattle.walk.specs.Refusals.{fails, passes}
use Rattle.walk.specs.declared.record.Record.{Record}
use Rattle.walk.specs.declared.numbers.Found.{Found}
use Rattle.walk.specs.declared.numbers.AnswerNumbers.{AnswerNumbers}
use Rattle.walk.specs.declared.numbers.LookupRefusal.{LookupRefusal}
use Rattle.walk.specs.declared.numbers.LookupRefusal.TheVariants.{Damage}
use Rattle.walk.proofs.Tests.{within_not}
use Rattle.walk.proofs.Told.{numbered, found_answer}
use Rattle.walk.proofs.Looked.{looked, damage_refused}
use Rattle.walk.proofs.Reading.{reads_most}
use Rattle.walk.specs.Cases.{Answer, Refused}
use Rattle.verdicts.specs.Limits.{trie_row_cells}
use Rattle.verdicts.specs.Tries.{TrieRow, trie_row, source_record, from_place}
use Rattle.verdicts.specs.Classify.{visitable, onward, lookup_in, source_lookup, source_of, through_tries}
use Rattle.verdicts.specs.Visiting.{CanVisit, Visitable}
use Rattle.verdicts.specs.Cases.{Verdict, NoRule}

-- ---- parts of lists

-- a part to the end of its list is the list from there on
pub part_to_end : (a : ℕ) (xs : List ℕ) → take (length xs - a) (drop a xs) ≡ drop a xs
part_to_end a xs = take_all (length xs - a) (drop a xs) (omega (arith, length-drop a xs))

pub part_lookup : (W k : ℕ) (ls : Lists) (source : ℕ) (t : TrieRow)
    → let p = t.place in
    lookup_of WIDTH (source_record W k t)
    (lists (take (length ls.hop - p) (drop p ls.hop)) (take (length ls.len - p) (drop p ls.len)) (take (length ls.link - p) (drop p ls.link))
    (take (length ls.stride - p) (drop p ls.stride))) source
    ≡ lookup_in WIDTH W k ls source t
part_lookup W k ls source t = let p = t.place in rw (part_to_end p ls.hop, part_to_end p ls.len, part_to_end p ls.link, part_to_end p ls.stride) refl

-- ---- a lookup past its tests is refused for damage only

pub only_damage : {rec : Record} {ls : Lists} {a n : ℕ} → Within rec.width WIDTH → Within rec.levels LEVELS → a < 2 ^ rec.width
    → Tested WIDTH rec ls a n → 0 < n → IsDamaged rec ls a
only_damage w k i (fails o) h = absurd (within_not w o)
only_damage w k i (passes a (fails o)) h = absurd (within_not k o)
only_damage w k i (passes a (passes b (fails o))) h = absurd (omega (arith, i))
only_damage w k i (passes a (passes b (passes c (fails d)))) h = d
only_damage w k i (passes a (passes b (passes c (passes d e)))) h = absurd (omega arith)

module _ (rec : Record) (ls : Lists) (a : ℕ) (w : Within rec.width WIDTH) (k : Within rec.levels LEVELS) (i : a < 2 ^ rec.width) where
  pub only_nine : 0 < number_of (lookup_of WIDTH rec ls a) → lookup_of WIDTH rec ls a ≡ Refused 9
  only_nine h = damage_refused WIDTH rec ls a w k i (only_damage w k i (looked WIDTH rec ls a).tested h)

  pub refused_nine : (x : LookupRefusal) → numbers_of (Err x) ≡ answer_numbers (lookup_of WIDTH rec ls a)
      → (lookup_of WIDTH rec ls a ≡ Refused 9) × (lookup_refusal_number x ≡ 9)
  refused_nine x e =
      let n : lookup_refusal_number x ≡ number_of (lookup_of WIDTH rec ls a) = ap (λ (y : AnswerNumbers). y.number) e in
      let z = only_nine (pos_of_ne-zero (λ z. numbered x (n ∙ z))) in
      (z, n ∙ ap number_of z)

pub found_in : (W k : ℕ) (ls : Lists) (source : ℕ) (t : TrieRow) {b : Answer} (f : Found) → b ≡ answer f.hop f.length f.reads
    → numbers_of (Ok f) ≡ answer_numbers (lookup_in WIDTH W k ls source t) → b ≡ lookup_in WIDTH W k ls source t
found_in W k ls source t f q p = (found_answer WIDTH (source_record W k t) (from_place t.place ls) source f q p).0

-- ---- a root stride that no record can hold

pub wide_root : {W k e : ℕ} {ls : Lists} {source : ℕ} (t : TrieRow) → CanVisit W k e ls source → 255 < t.root
    → lookup_in WIDTH W k ls source t ≡ Refused 9
unfolding padded
wide_root {W} {k} {ls = ls} {source = source} t can big =
    damage_refused WIDTH (source_record W k t) (from_place t.place ls) source can.width can.levels can.inside
    (breaks (omega arith) (damaged (too_wide (omega (arith, can.width.1)))))

-- ---- the tests of a trie's row

pub visitable_is : (e : ℕ) (list : List ℕ) (g : ℕ) → visitable e list g ≡ true → Visitable e list g
unfolding visitable
visitable_is e list g v =
    let p = and_true (ltb g (length list / trie_row_cells)) (leb ((trie_row list g).place + (trie_row list g).elements) e) v in
    record { listed = omega (arith, ltb-true g (length list / trie_row_cells) p.0); within = leb-true _ e p.1 }

-- ---- the way from trie to trie

module _ (e W k : ℕ) (ls : Lists) (list : List ℕ) (source : ℕ) where
  abbrev from : (f n reads : ℕ) → Verdict
  from = through_tries WIDTH e W k ls list source

  abbrev answer_at : ℕ → Answer
  answer_at = source_of WIDTH e W k ls list source

  pub through_none : (f n reads : ℕ) → n ≡ 0 → from f n reads ≡ NoRule reads
  unfolding through_tries
  through_none zero n reads z = rw z refl
  through_none (suc f) n reads z = rw z refl

  pub through_spent : (f n reads : ℕ) → (n ≡ 0 → ⊥) → f ≡ 0 → from f n reads ≡ Verdict.Refused 9
  unfolding through_tries
  through_spent f zero reads n z = absurd (n refl)
  through_spent f (suc g) reads n z = rw z refl

  -- past these two tests, the trie before n tells
  pub through_next : (f n reads : ℕ) → (n ≡ 0 → ⊥) → (f ≡ 0 → ⊥) → from f n reads ≡ onward (answer_at (n - 1)) reads (from (f - 1) (trie_row list (n - 1)).next)
  unfolding through_tries
  through_next zero n reads a b = absurd (b refl)
  through_next (suc f) zero reads a b = absurd (a refl)
  through_next (suc f) (suc g) reads a b = let x : suc f - 1 ≡ f = omega arith in let y : suc g - 1 ≡ g = omega arith in rw (x, y) refl

  -- and so it does by its answer
  pub through_by : (f n reads : ℕ) → (n ≡ 0 → ⊥) → (f ≡ 0 → ⊥) → (a : Answer) → answer_at (n - 1) ≡ a
      → onward a reads (from (f - 1) (trie_row list (n - 1)).next) ≡ from f n reads
  through_by f n reads x y a e = rw (sym e) (sym (through_next f n reads x y))

  -- ---- trie g by its row

  abbrev row_in : ℕ → Result TrieRow LookupRefusal
  row_in g = cond (visitable e list g) (Ok (trie_row list g)) (Err Damage)

  pub row_refused : (g : ℕ) {x : LookupRefusal} → Err x ≡ row_in g → (answer_at g ≡ Refused 9) × (lookup_refusal_number x ≡ 9)
  unfolding source_of
  row_refused g {x} q = go (visitable e list g) q
    where
      go : (v : Bool) → Err x ≡ cond v (Ok (trie_row list g)) (Err Damage)
          → (cond v (source_lookup WIDTH W k ls list source g) (Refused 9) ≡ Refused 9) × (lookup_refusal_number x ≡ 9)
      go true q = cc
      go false q = let y : x ≡ Damage = cc in (refl, ap lookup_refusal_number y)

  -- what its row says, where it can be visited
  pub record RowTaken (g : ℕ) (t : TrieRow) : Type 0 where
    pub same : t ≡ trie_row list g
    pub answers : answer_at g ≡ lookup_in WIDTH W k ls source t
    pub within : t.place + t.elements ≤ e

  pub row_taken : (g : ℕ) {t : TrieRow} → Ok t ≡ row_in g → RowTaken g t
  unfolding source_of source_lookup
  row_taken g {t} q = go (visitable e list g) refl q
    where
      go : (v : Bool) → visitable e list g ≡ v → Ok t ≡ cond v (Ok (trie_row list g)) (Err Damage) → RowTaken g t
      go true v q =
          let same : t ≡ trie_row list g = cc in
          record { same = same; answers = rw (v, same) refl; within = rw same (visitable_is e list g v).within }
      go false v q = cc

  module _ (g : ℕ) {t : TrieRow} (q : Ok t ≡ row_in g) where
    pub row_found : {a : Answer} → a ≡ lookup_in WIDTH W k ls source t → answer_at g ≡ a
    row_found p = (row_taken g q).answers ∙ sym p

    pub row_unfound : CanVisit W k e ls source → (x : LookupRefusal) → numbers_of (Err x) ≡ answer_numbers (lookup_in WIDTH W k ls source t)
        → (answer_at g ≡ Refused 9) × (lookup_refusal_number x ≡ 9)
    row_unfound can x p =
        let r = refused_nine (source_record W k t) (from_place t.place ls) source can.width can.levels can.inside x p in
        ((row_taken g q).answers ∙ r.0, r.1)

    -- the answer found has the reads found
    pub row_reads : {a : Answer} (f : Found) → a ≡ lookup_in WIDTH W k ls source t
        → numbers_of (Ok f) ≡ answer_numbers (lookup_in WIDTH W k ls source t) → f.reads ≡ reads_of a
    row_reads f e p = ap (λ (y : AnswerNumbers). y.reads) p ∙ sym (ap reads_of e)

    -- which are no more than the level limit
    pub row_few : (f : Found) → numbers_of (Ok f) ≡ answer_numbers (lookup_in WIDTH W k ls source t) → f.reads ≤ k
    row_few f p = omega (arith, ap (λ (y : AnswerNumbers). y.reads) p, reads_most WIDTH (source_record W k t) (from_place t.place ls) source)
