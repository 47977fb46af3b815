-- Laws of the answers that are printed, in the code's own terms.
use mathlib.Core.Path.{◌≡◌, refl, sym, ap, ◌∙◌}
use mathlib.Core.Bool.{Bool, true, false, cond}
use mathlib.Core.List.{List, ◌++◌}
use Rattle.std.proofs.Common.{append_assoc}
use native.Mathlib.Numerals.{add-one}
use Prim.Native.Nat.{ℕ, ◌+◌, ◌*◌, ◌^◌, ◌≤◌, ◌<◌}
use native.Mathlib.Omega.{arith}
use lib.Dec.{ltb}
use lib.ListN.{length, length-append}
use borrow.Author.Tests.{lt-ltb, le-ltb, ltb-false, eqb-true, not-false}
use Rattle.table.specs.Table.{at}
use Rattle.std.specs.Prelude.{◌==◌, Some, None, not}
use Rattle.std.specs.List.{position, position_or_len}
use Rattle.std.proofs.lemmas.Grind.{common_steps}
use Rattle.std.proofs.lemmas.List.Sums.{position_or_len_is}
use Rattle.table.proofs.Find.{find_first}
use Rattle.sheet.specs.Limits.{report_bytes, answer_bytes, PAGE}
use Rattle.sheet.proofs.Writing.{length_head, length_answer, length_joined}
use Rattle.walk.specs.Limits.{WIDTH}
use Rattle.walk.specs.Rows.{Lists, root}
use Rattle.walk.specs.Answers.{answer_numbers}
use Rattle.walk.specs.Lookup.{lookup_of}
use Rattle.walk.specs.declared.record.Record.{Record}
use Rattle.walk.specs.declared.numbers.AnswerNumbers.{AnswerNumbers}
use Rattle.reading.specs.Numerals.{joined}
use Rattle.reading.proofs.Numerals.{joined_same}
use Rattle.sheet.specs.Lent.{LentQueries}
use Rattle.sheet.specs.Printing.{refusal_lines, head_lines, answer_lines}
use Rattle.sheet.specs.Answers.{wrong, first_wrong, query_lines, answers_report, hop_for, length_for, reads_for, looked_up}

-- ---- the first query whose digit count is not the width, as the code finds it

abbrev is_wrong : (W : ℕ) → ℕ → Bool
is_wrong W n = not (n == W)

module _ (W : ℕ) (ds : List ℕ) where
  first_found : position_or_len (is_wrong W) ds ≡ first_wrong W ds
  unfolding first_wrong wrong
  first_found =
      let first = find_first (wrong W ds) (length ds) 0 (omega arith) in
      position_or_len_is (is_wrong W) ds (first_wrong W ds) 0 first.within (λ k h. first.before k (omega arith) h) first.holds

  some_wrong : (i : ℕ) → position (is_wrong W) ds ≡ Some i → (i < length ds) × (i ≡ first_wrong W ds)
  some_wrong i e =
      let at : position_or_len (is_wrong W) ds ≡ i = grind (arith, common_steps) in
      let inside : i < length ds = grind (arith, common_steps) in
      (inside, sym at ∙ first_found)

  none_wrong : position (is_wrong W) ds ≡ None → length ds ≤ first_wrong W ds
  none_wrong e = let far : length ds ≤ position_or_len (is_wrong W) ds = grind (arith, common_steps) in omega (arith, first_found)

-- ---- what is put, in the code's own terms

-- after the first four lines there is room for all answers
pub answers_fit : {xs ds : List ℕ} (old : List ℕ) {page : List ℕ} (e r : ℕ) → LentQueries xs ds → length old + report_bytes ≤ PAGE → page ≡ old ++ head_lines e r
    → length page + length ds * answer_bytes ≤ PAGE
answers_fit old e r lent room put = omega (arith, lent.few, ap length put, length-append old (head_lines e r), length_head e r)

module _ (rec : Record) (ls : Lists) (xs ds : List ℕ) where
  -- the first k answers
  abbrev pub first_answers : ℕ → List ℕ
  first_answers = joined (query_lines (hop_for rec ls) (length_for rec ls) (reads_for rec ls) xs ds)

  -- one query more: a is the answer of its lookup, in numbers
  pub answer_more : (k : ℕ) (old : List ℕ) {v n : ℕ} {a : AnswerNumbers} {page page' : List ℕ} → v ≡ at xs k → n ≡ at ds k
      → a ≡ answer_numbers (lookup_of WIDTH rec ls v) → page ≡ old ++ first_answers k → page' ≡ page ++ answer_lines v n a.hop a.length a.reads
      → page' ≡ old ++ first_answers (k + 1)
  unfolding query_lines joined
  answer_more k old value digits found before put = rw (add-one, put, before, found, value, digits) (append_assoc old _ _)

  -- and there is room for it
  pub answer_fits : (k : ℕ) (old : List ℕ) {page : List ℕ} → LentQueries xs ds → k < length ds → length old + length ds * answer_bytes ≤ PAGE
      → page ≡ old ++ first_answers k → length page + answer_bytes ≤ PAGE
  unfolding query_lines
  answer_fits k old lent inside room before =
      omega (
        arith,
        ap length before,
        length-append old (first_answers k),
        length_joined (query_lines (hop_for rec ls) (length_for rec ls) (reads_for rec ls) xs ds) answer_bytes k
            (λ i h. length_answer _ _ _ _ _ (lent.short i (omega arith))),
      )

  -- the two ends of the report
  module _ {w : ℕ} (found : w ≡ first_wrong rec.width ds) where
    pub report_wrong : w < length ds → refusal_lines 8 w ≡ looked_up rec ls xs ds
    unfolding answers_report
    report_wrong h = rw (sym found, lt-ltb w (length ds) h)

    pub report_right : length ds ≤ w
        → head_lines rec.elements (root rec) ++ joined (query_lines (hop_for rec ls) (length_for rec ls) (reads_for rec ls) xs ds) (length ds) ≡ looked_up rec ls xs ds
    unfolding answers_report
    report_right h = rw (sym found, le-ltb w (length ds) h)

  -- the same by what the search for a wrong one finds
  pub report_some : {w : ℕ} → position (is_wrong rec.width) ds ≡ Some w → refusal_lines 8 w ≡ looked_up rec ls xs ds
  report_some {w} e = let f = some_wrong rec.width ds w e in report_wrong f.1 f.0

  pub report_none : position (is_wrong rec.width) ds ≡ None
      → head_lines rec.elements (root rec) ++ joined (query_lines (hop_for rec ls) (length_for rec ls) (reads_for rec ls) xs ds) (length ds) ≡ looked_up rec ls xs ds
  report_none e = report_right refl (none_wrong rec.width ds e)

-- ---- what is looked up is what the table says

-- answers that agree wherever the address is of the width print the same report
module _ (hop len reads hop' len' reads' : ℕ → ℕ) (W : ℕ) (xs ds : List ℕ) (lent : LentQueries xs ds)
    (same : (a : ℕ) → a < 2 ^ W → (hop a ≡ hop' a) × (len a ≡ len' a) × (reads a ≡ reads' a)) where
  -- where no query has a wrong digit count
  lines_same : length ds ≤ first_wrong W ds → (i : ℕ) → i < length ds → query_lines hop len reads xs ds i ≡ query_lines hop' len' reads' xs ds i
  unfolding query_lines first_wrong wrong
  lines_same none i h =
      let first = find_first (wrong W ds) (length ds) 0 (omega arith) in
      let e : at ds i ≡ W = eqb-true _ _ (not-false _ (first.before i (omega arith) (omega arith))) in
      let a = same (at xs i) (rw e at (lent.spelled i h)) in
      rw (a.0, a.1, a.2)

  pub report_same : (elements root : ℕ) → answers_report hop len reads xs ds W elements root ≡ answers_report hop' len' reads' xs ds W elements root
  unfolding answers_report
  report_same elements root = go (ltb (first_wrong W ds) (length ds)) refl
    where
      go : (t : Bool) → ltb (first_wrong W ds) (length ds) ≡ t
          → cond t (refusal_lines 8 (first_wrong W ds)) (head_lines elements root ++ joined (query_lines hop len reads xs ds) (length ds))
          ≡ cond t (refusal_lines 8 (first_wrong W ds)) (head_lines elements root ++ joined (query_lines hop' len' reads' xs ds) (length ds))
      go true e = refl
      go false e = ap (λ (l : List ℕ). head_lines elements root ++ l) (joined_same (query_lines hop len reads xs ds) (query_lines hop' len' reads' xs ds) (length ds) (lines_same (ltb-false _ _ e)))
