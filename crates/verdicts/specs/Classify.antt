-- The classification as a function of record, lists and addresses (02, [6]): tests 1, 2, 8, then 9; the destination's lookup; and the source
-- tries from the number that it gives on. The widest address allowed is `most`.
use Rattle.std.specs.Prelude.{ℕ, zero, suc, ◌+◌, ◌/◌, ◌^◌, Bool, cond, ◌&&◌, ◌||◌, List, eqb, ltb, leb, length}
use Rattle.table.specs.Limits.{outside}
use Rattle.walk.specs.Limits.{LEVELS}
use Rattle.walk.specs.Rows.{Lists, shortest}
use Rattle.walk.specs.Answers.{number_of, hop_of, reads_of}
use Rattle.walk.specs.Lookup.{lookup_of}
use Rattle.walk.specs.Cases.{Answer}
use Rattle.walk.specs.Cases.{Match, Discard, NoRoute}
use Rattle.verdicts.specs.Limits.{trie_row_cells, VISITS}
use Rattle.verdicts.specs.Tries.{TrieRow, trie_row, source_record, from_place}
use Rattle.verdicts.specs.declared.record.RuleRecord.{RuleRecord}
use Rattle.verdicts.specs.Cases.{Verdict}
use Rattle.verdicts.specs.Cases.{Act, NoRule, Refused}

-- a trie that can be visited: its row stands in the list, and its rows do not run past the E of all tries
unfoldable pub visitable : (e : ℕ) → List ℕ → (g : ℕ) → Bool
visitable e list g = ltb g (length list / trie_row_cells) && leb ((trie_row list g).place + (trie_row list g).elements) e

-- what the answer of a source trie leads to, after `reads` blocks: its action, or what comes after it
unfoldable pub onward : Answer → (reads : ℕ) → (ℕ → Verdict) → Verdict
onward (Match hop len r) reads next = Act hop (reads + r)
onward (Discard len r) reads next = Verdict.Discard (reads + r)
onward (NoRoute r) reads next = next (reads + r)
onward (Answer.Refused n) reads next = Refused 9

-- the lookup in a source trie that can be visited, by its row in the list
abbrev pub lookup_in : (most W k : ℕ) → Lists → (source : ℕ) → TrieRow → Answer
lookup_in most W k ls source t = lookup_of most (source_record W k t) (from_place t.place ls) source

-- in source trie g
unfoldable pub source_lookup : (most W k : ℕ) → Lists → List ℕ → (source g : ℕ) → Answer
source_lookup most W k ls list source g = lookup_in most W k ls source (trie_row list g)

-- e is the E of all tries
module _ (most e W k : ℕ) (ls : Lists) (list : List ℕ) (source : ℕ) where
  -- and in any that is called for
  unfoldable pub source_of : (g : ℕ) → Answer
  source_of g = cond (visitable e list g) (source_lookup most W k ls list source g) (Answer.Refused 9)

  -- the source tries from number n on, f of which may still be visited, after `reads` blocks
  unfoldable pub through_tries : (f n reads : ℕ) → Verdict
  through_tries zero zero reads = NoRule reads
  through_tries zero (suc g) reads = Refused 9
  through_tries (suc f) zero reads = NoRule reads
  through_tries (suc f) (suc g) reads = onward (source_of g) reads (through_tries f (trie_row list g).next)

-- the first test that fails before a row is read: its number, or 0. The lists have n rows
unfoldable pub early_refusal : (most : ℕ) → RuleRecord → (n dest source : ℕ) → ℕ
early_refusal most rec n dest source =
    cond (outside rec.dest.width most) 1
    (cond (outside rec.dest.levels LEVELS) 2
    (cond (leb (2 ^ rec.dest.width) dest || leb (2 ^ rec.dest.width) source) 8
    (cond (ltb n rec.elements || ltb rec.elements rec.dest.elements) 9 0)))

module _ (most : ℕ) (rec : RuleRecord) (ls : Lists) (list : List ℕ) where
  -- what the destination's answer leads to: its hop is the number of a source trie
  unfoldable pub from_dest : Answer → (source : ℕ) → Verdict
  from_dest a source =
      cond (eqb (number_of a) 0)
      (through_tries most rec.elements rec.dest.width rec.dest.levels ls list source VISITS (hop_of a) (reads_of a)) (Refused 9)

  unfoldable pub classify_of : (dest source : ℕ) → Verdict
  classify_of dest source =
      let n = early_refusal most rec (shortest ls) dest source in
      cond (eqb n 0) (from_dest (lookup_of most rec.dest ls dest) source) (Refused n)
