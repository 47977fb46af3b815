-- A run's report has its meaning, and the meaning leaves one report.
use mathlib.Core.Path.{◌≡◌, refl, sym, ap, subst, ◌∙◌}
use mathlib.Core.Bool.{Bool, true, false, cond}
use mathlib.Core.List.{List, ◌++◌}
use mathlib.Core.Logic.{inl, inr}
use Prim.Native.Nat.{ℕ, ◌*◌, ◌<◌}
use Prim.Dec.{yes, no}
use native.Mathlib.Omega.{arith}
use native.Mathlib.Decide.{dec_lt}
use lib.ListN.{length}
use lib.Dec.{ltb}
use borrow.Author.Tests.{eqb-true, eqb-false, ltb-true, ltb-false, not-true, not-false}
use Rattle.table.specs.Refusals.{Outcome, Test, outcome, Gives, refusal_number, refusal_detail}
use Rattle.table.specs.Table.{at, Table}
use Rattle.table.specs.declared.refusal.Refusal.{Refusal}
use Rattle.table.proofs.Find.{FirstTrue, find_first}
use Rattle.table.proofs.Longest.{longest_is}
use Rattle.table.proofs.Unique.{longest_unique}
use Rattle.table.proofs.Refusals.{outcome_gives, gives_unique, gives_outcome, accepted_parts}
use Rattle.strides.specs.Cheapest.{Kind}
use Rattle.strides.specs.Trie.{Trie}
use Rattle.strides.specs.Recurrence.{plain, least_by}
use Rattle.strides.proofs.Insertion.{trie_depth_width}
use Rattle.strides.proofs.Cheapest.{least_cheapest, chosen_follows}
use Rattle.strides.proofs.Follows.{follows_good, follows_unique}
use Rattle.layout.specs.Marks.{entry_marks}
use Rattle.layout.specs.Blocks.{Strides, row_count, stride_of, Agree}
use Rattle.tries.specs.Build.{build_tests}
use Rattle.layout.specs.Laid.{table_trie}
use Rattle.choosers.specs.Chooser.{choose_tests}
use Rattle.choosers.specs.Scratch.{ROW}
use Rattle.layout.proofs.Agreeing.{same_agree, blocks_same, count_same, stride_same}
use Rattle.choosers.proofs.ChooseTests.{accepted_levels, accepted_tests_table}
use Rattle.tries.proofs.BuildSteps.{tests_least}
use Rattle.reading.specs.Numerals.{joined}
use Rattle.reading.specs.Sheet.{Sheet}
use Rattle.reading.specs.Text.{Text, good, bad, text_of}
use Rattle.reading.proofs.Numerals.{joined_same}
use Rattle.reading.proofs.Sound.{sheet_of_text}
use Rattle.reading.proofs.Following.{good_is_sound, good_is_spelled}
use Rattle.reading.proofs.FirstBad.{bad_is_first, first_bad_unique}
use Rattle.std.specs.Prelude.{Result, Ok, Err}
use Rattle.sheet.specs.declared.running.NoRoom.{NoRoom}
use Rattle.sheet.specs.Limits.{lent_rows, lent_elements}
use Rattle.sheet.specs.Printing.{refusal_lines, head_lines, answer_lines}
use Rattle.sheet.specs.Answers.{wrong, first_wrong, query_lines, answers_report}
use Rattle.sheet.specs.Solved.{longest_hop, matched_length, blocks_read, report_by, build_outcome, chosen, table_report, report_for, solved}
use Rattle.sheet.specs.Tablet.{text_report, report_of, answer_for, left_for, Ran}
use Rattle.sheet.specs.Meaning.{FirstWrong, path_lines, AnsweredBy, Solves, SheetSolves, Says, Reports}

-- ---- the meaning of the definition

accepted_tests : (W k links : ℕ) (vs ls hs : List ℕ) (words room least : ℕ) → outcome (build_tests W k links vs ls hs words room least) ≡ Ok tt
    → outcome (choose_tests W k links vs ls hs words) ≡ Ok tt
unfolding build_tests
accepted_tests W k links vs ls hs words room least e = (accepted_parts (choose_tests W k links vs ls hs words) _ e).0

-- the report of an accepted build
module _ (W k : ℕ) (vs ls hs : List ℕ) (σ : Strides) (xs ds : List ℕ) where
  report_answers : AnsweredBy W k vs ls hs σ xs ds (report_by W k vs ls hs σ xs ds)
  unfolding report_by answers_report query_lines first_wrong wrong
  report_answers = go (ltb (first_wrong W ds) (length ds)) refl
    where
      first : FirstTrue (wrong W ds) (length ds) 0 (first_wrong W ds)
      first = find_first (wrong W ds) (length ds) 0 (omega arith)

      right : (i : ℕ) → i < first_wrong W ds → at ds i ≡ W
      right i h = eqb-true _ _ (not-false _ (first.before i (omega arith) h))

      go : (t : Bool) → ltb (first_wrong W ds) (length ds) ≡ t
          → AnsweredBy W k vs ls hs σ xs ds
          (cond t (refusal_lines 8 (first_wrong W ds))
          (head_lines (row_count σ k (table_trie W vs ls hs)) (stride_of σ k (table_trie W vs ls hs))
          ++ joined (query_lines (longest_hop W k vs ls hs) (matched_length W k vs ls hs) (blocks_read W k vs ls hs σ) xs ds) (length ds)))
      go true e =
          let h = ltb-true _ _ e in
          inl (first_wrong W ds, record { inside = h; unlike = eqb-false _ _ (not-true _ (first.holds h)); before = right }, refl)
      go false e =
          let h = ltb-false (first_wrong W ds) (length ds) e in
          inr (record {
            right = λ i l. right i (omega arith);
            hop = λ i. longest_hop W k vs ls hs (at xs i);
            len = λ i. matched_length W k vs ls hs (at xs i);
            longest = λ i l. longest_is W (at vs) (at ls) (at hs) (length vs) (at xs i);
            lines = refl;
          })

module _ (kind : Kind) (W k links : ℕ) (vs ls hs xs ds : List ℕ) where
  solved_out : (o : Outcome) → build_outcome kind W k links vs ls hs ≡ o → Solves kind W k links vs ls hs xs ds (report_for o (table_report kind W k vs ls hs xs ds))
  unfolding build_outcome report_for
  solved_out o e = record {
    out = o;
    tested = λ least c.
        let t = build_tests W k links vs ls hs (lent_rows * ROW) lent_elements least in
        subst (Gives t) (sym (tests_least kind W k links vs ls hs (lent_rows * ROW) lent_elements least c) ∙ e) (outcome_gives t);
    refused = refused_lines o;
    accepted = λ a.
        let pass = accepted_tests W k links vs ls hs (lent_rows * ROW) lent_elements (least_by plain kind k (table_trie W vs ls hs)) (e ∙ a) in
        let some = (accepted_levels W k links vs ls hs (lent_rows * ROW) pass).0 in
        let σ = chosen kind W k vs ls hs in
        (σ, chosen_follows kind k (table_trie W vs ls hs) some, rw a (report_answers W k vs ls hs σ xs ds));
  }
    where
      refused_lines : (o : Outcome) (r : Refusal) → o ≡ Err r → report_for o (table_report kind W k vs ls hs xs ds) ≡ refusal_lines (refusal_number r) (refusal_detail r)
      refused_lines o r q = rw q

  pub solved_means : Solves kind W k links vs ls hs xs ds (report_for (build_outcome kind W k links vs ls hs) (table_report kind W k vs ls hs xs ds))
  solved_means = solved_out (build_outcome kind W k links vs ls hs) refl

text_says : (s : List ℕ) → Says s (report_of s)
unfolding report_of text_report solved
text_says s = go (text_of s) refl
  where
    go : (t : Text) → text_of s ≡ t → Says s (text_report t)
    go (bad line) e = inr (line, bad_is_first s line e, refl)
    go (good sh) e = inl (sh, good_is_sound s sh e, good_is_spelled s sh e, solved_means _ _ _ _ _ _ _ _ _)

pub ran_reports : {s out out' : List ℕ} {r : Result ℕ NoRoom} → Ran s out out' r → Reports s out out' r
ran_reports {s} ran = record { bytes = report_of s; says = text_says s; answer = ran.answer; left = ran.left }

-- ---- and it leaves one report: nothing here knows how the least cost or the strides are found, but that there are some

first_wrong_unique : {W : ℕ} {ds : List ℕ} {i j : ℕ} → FirstWrong W ds i → FirstWrong W ds j → i ≡ j
first_wrong_unique {i = i} {j = j} a b =
    elim (dec_lt i j) [
      | yes p ↦ absurd (a.unlike (b.before i p))
      | no p ↦ elim (dec_lt j i) [ yes q ↦ absurd (b.unlike (a.before j q)) | no q ↦ omega arith ]
    ]

module _ (W k : ℕ) (vs ls hs : List ℕ) (table : Table W vs ls hs) (σ τ : Strides) (g : Agree σ τ (table_trie W vs ls hs) 0 k) (xs ds : List ℕ) where
  answers_one : {bytes bytes' : List ℕ} → AnsweredBy W k vs ls hs σ xs ds bytes → AnsweredBy W k vs ls hs τ xs ds bytes' → bytes ≡ bytes'
  answers_one (inl a) (inl b) = a.2 ∙ ap (refusal_lines 8) (first_wrong_unique a.1 b.1) ∙ sym b.2
  answers_one (inl a) (inr b) = absurd (a.1.unlike (b.right a.0 a.1.inside))
  answers_one (inr a) (inl b) = absurd (b.1.unlike (a.right b.0 b.1.inside))
  answers_one (inr a) (inr b) =
      let t = table_trie W vs ls hs in
      a.lines
      ∙ same_head (count_same σ τ t k g) (stride_same σ τ t k g)
      (joined_same (path_lines W k vs ls hs σ xs ds a.hop a.len) (path_lines W k vs ls hs τ xs ds b.hop b.len) (length ds)
      (λ i h.
      same_line i (longest_unique W vs ls hs table (at xs i) (a.longest i h) (b.longest i h)) (ap length (blocks_same σ τ W t 0 0 k (at xs i) g))))
      ∙ sym b.lines
    where
      same_line : (i : ℕ) {h h' l l' n n' : ℕ} → (h ≡ h') × (l ≡ l') → n ≡ n'
          → answer_lines (at xs i) (at ds i) h l n ≡ answer_lines (at xs i) (at ds i) h' l' n'
      same_line i p q = rw (p.0, p.1, q)

      same_head : {e e' r r' : ℕ} {l l' : List ℕ} → e ≡ e' → r ≡ r' → l ≡ l' → head_lines e r ++ l ≡ head_lines e' r' ++ l'
      same_head p q z = rw (p, q, z)

pub solves_unique : (kind : Kind) (W k links : ℕ) (vs ls hs xs ds : List ℕ) {bytes bytes' : List ℕ}
    → Solves kind W k links vs ls hs xs ds bytes → Solves kind W k links vs ls hs xs ds bytes' → bytes ≡ bytes'
solves_unique kind W k links vs ls hs xs ds {bytes} {bytes'} c d = go c.out refl
  where
    t : Trie
    t = table_trie W vs ls hs

    least : ℕ
    least = least_by plain kind k t

    tests : List Test
    tests = build_tests W k links vs ls hs (lent_rows * ROW) lent_elements least

    one : c.out ≡ d.out
    one = gives_unique tests c.out d.out (c.tested least (least_cheapest kind k t)) (d.tested least (least_cheapest kind k t))

    go : (o : Outcome) → c.out ≡ o → bytes ≡ bytes'
    go (Err r) e = c.refused r e ∙ sym (d.refused r (sym one ∙ e))
    go (Ok u) e =
        let a = c.accepted e in
        let a' = d.accepted (sym one ∙ e) in
        let gives = subst (Gives tests) e (c.tested least (least_cheapest kind k t)) in
        let pass = accepted_tests W k links vs ls hs (lent_rows * ROW) lent_elements least (sym (gives_outcome tests (Ok tt) gives)) in
        let table = accepted_tests_table W k links vs ls hs (lent_rows * ROW) pass in
        let deep = trie_depth_width W (at vs) (at ls) (entry_marks ls hs) (length vs) (λ i l. (table.entry i l).prefix) in
        let fine = follows_good kind k t W a.0 (accepted_levels W k links vs ls hs (lent_rows * ROW) pass).0 deep a.1 in
        let agree = same_agree a.0 a'.0 t W 0 k fine (follows_unique kind k t a.0 a'.0 a.1 a'.1) in
        answers_one W k vs ls hs table a.0 a'.0 agree xs ds a.2 a'.2

says_unique : (s : List ℕ) {bytes bytes' : List ℕ} → Says s bytes → Says s bytes' → bytes ≡ bytes'
says_unique s {bytes} (inl a) (inl b) =
    let one : a.0 ≡ b.0 = sheet_of_text a.1 b.1 (sym a.2 ∙ b.2) in
    solves_unique _ _ _ _ _ _ _ _ _ (subst (λ (sh : Sheet). SheetSolves sh bytes) one a.3) b.3
says_unique s (inl a) (inr b) = absurd (b.1.no_sheet a.0 a.1 a.2)
says_unique s (inr a) (inl b) = absurd (a.1.no_sheet b.0 b.1 b.2)
says_unique s (inr a) (inr b) = a.2 ∙ ap (refusal_lines 11) (first_bad_unique a.1 b.1) ∙ sym b.2

-- one answer, and one thing left
pub reports_unique : {s out o o' : List ℕ} {r r' : Result ℕ NoRoom} → Reports s out o r → Reports s out o' r' → (r ≡ r') × (o ≡ o')
reports_unique {s} {out} a b =
    let e : a.bytes ≡ b.bytes = says_unique s a.says b.says in
    (a.answer ∙ ap (λ (x : List ℕ). answer_for x out) e ∙ sym b.answer, a.left ∙ ap (λ (x : List ℕ). left_for x out) e ∙ sym b.left)
