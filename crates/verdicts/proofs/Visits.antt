-- The way through the source tries as the meaning has it: what the exact rule answers is what some visiting says.
use Prim.Native.Nat.{ℕ, zero, suc, ◌+◌, ◌/◌}
use mathlib.Core.Path.{◌≡◌, refl, sym, ap, ◌∙◌}
use mathlib.Core.Bool.{Bool, true, false, cond, true≢false}
use mathlib.Core.List.{List, [], ◌∷◌, ◌++◌}
use native.Mathlib.Omega.{arith}
use native.Mathlib.Decide.{dec_le}
use native.Mathlib.Nat.{add-zero}
use lib.ListN.{length, length-append}
use borrow.Author.Tests.{lt-ltb, le-leb}
use Rattle.walk.specs.Limits.{WIDTH}
use Rattle.walk.specs.Rows.{Lists}
use Rattle.walk.specs.Answers.{number_of, length_of, answer}
use Rattle.walk.specs.Meaning.{Looked}
use Rattle.walk.specs.declared.record.Record.{Record}
use Rattle.walk.specs.Cases.{Answer}
use Rattle.walk.proofs.Answers.{accepted_is}
use Rattle.walk.proofs.Looked.{looked, tested_refused, damage_refused}
use Rattle.verdicts.specs.Limits.{trie_row_cells}
use Rattle.verdicts.specs.Tries.{trie_row, source_record, from_place, at_place}
use Rattle.verdicts.specs.Classify.{visitable, onward, source_lookup, source_of, through_tries}
use Rattle.verdicts.specs.Meaning.{BadTrie, past_list, past_rows, breaks_rule, SourcePath, action_on, VisitsTries, no_more, too_many, broken_off, matched_in, goes_on}
use Rattle.verdicts.specs.Visiting.{CanVisit}
use Rattle.verdicts.specs.declared.record.RuleRecord.{RuleRecord}
use Rattle.verdicts.specs.Cases.{Verdict}
use Rattle.verdicts.specs.Cases.{NoRule, Refused}
use Rattle.verdicts.proofs.Answers.{verdict, onward_none, onward_some}
use Rattle.verdicts.proofs.Sources.{visitable_is, only_damage}

pub placed_length : (p : ℕ) (rs : List ℕ) → length (at_place p rs) ≡ length rs
placed_length p [] = refl
placed_length p (r ∷ rs) = ap suc (placed_length p rs)

module _ (rec : RuleRecord) (ls : Lists) (list : List ℕ) (source : ℕ)
    (can : CanVisit rec.dest.width rec.dest.levels rec.elements ls source) where
  abbrev own : ℕ → Record
  own g = source_record rec.dest.width rec.dest.levels (trie_row list g)

  abbrev rows_in : ℕ → Lists
  rows_in g = from_place (trie_row list g).place ls

  abbrev answer_in : ℕ → Answer
  answer_in = source_lookup WIDTH rec.dest.width rec.dest.levels ls list source

  abbrev answer_at : ℕ → Answer
  answer_at = source_of WIDTH rec.elements rec.dest.width rec.dest.levels ls list source

  abbrev from : (f n reads : ℕ) → Verdict
  from = through_tries WIDTH rec.elements rec.dest.width rec.dest.levels ls list source

  -- what a trie that is called for turns out to be: damaged, and refused; or sound, with rows on the path that say what it answers
  data Source (g : ℕ) (a : Answer) : Type 0 where
    bad_source_lem : {n : ℕ} → BadTrie rec ls list source g → a ≡ Answer.Refused n → Source g a
    good_source : {rs : List ℕ} (l : ℕ) → SourcePath rec ls list source g rs → a ≡ answer (action_on rec ls list source g rs) l (length rs) → Source g a

  -- one that cannot be visited
  unlisted : (g : ℕ) → visitable rec.elements list g ≡ false → BadTrie rec ls list source g
  unfolding visitable
  unlisted g e = elim (dec_le (length list / trie_row_cells) g) [
    | yes p ↦ past_list p
    | no p ↦ elim (dec_le ((trie_row list g).place + (trie_row list g).elements) rec.elements) [
      | yes q ↦ absurd (true≢false (sym (rw (lt-ltb g (length list / trie_row_cells) (omega arith), le-leb _ _ q) refl) ∙ e))
      | no q ↦ past_rows (omega arith)
    ]
  ]

  looked_in : (g : ℕ) → Looked WIDTH (own g) (rows_in g) source (answer_in g)
  unfolding source_lookup
  looked_in g = looked WIDTH (own g) (rows_in g) source

  sound_source : (g : ℕ) → visitable rec.elements list g ≡ true → number_of (answer_in g) ≡ 0 → BadTrie rec ls list source g → ⊥
  unfolding source_lookup
  sound_source g v z (past_list p) = omega (arith, (visitable_is _ list g v).listed)
  sound_source g v z (past_rows p) = omega (arith, (visitable_is _ list g v).within)
  sound_source g v z (breaks_rule d) =
      let e : number_of (answer_in g) ≡ 9 = ap number_of (damage_refused WIDTH (own g) (rows_in g) source can.width can.levels can.inside d) in omega (arith, z, e)

  source_in : (g : ℕ) → visitable rec.elements list g ≡ true → Source g (answer_in g)
  unfolding source_lookup
  source_in g v = elim (dec_le (number_of (answer_in g)) 0) [
    | yes z ↦
        let t = (looked_in g).told (omega arith) in
        let path : SourcePath rec ls list source g t.0 = record { sound = sound_source g v (omega arith); path = t.1 } in
        good_source (length_of (answer_in g)) path (accepted_is (answer_in g) (omega arith) (looked_in g).case ∙ rw (t.2.0, t.2.2) refl)
    | no z ↦ bad_source_lem (breaks_rule (only_damage can.width can.levels can.inside (looked_in g).tested (omega arith))) (tested_refused WIDTH (own g) (rows_in g) source (looked_in g).tested (omega arith))
  ]

  source_at : (g : ℕ) → Source g (answer_at g)
  unfolding source_of
  source_at g = go (visitable rec.elements list g) refl
    where
      go : (t : Bool) → visitable rec.elements list g ≡ t → Source g (cond t (answer_in g) (Answer.Refused 9))
      go true v = source_in g v
      go false v = bad_source_lem (unlisted g v) refl

  -- what some visiting says, after `reads` blocks
  pub record VisitsSay (f n reads : ℕ) (v : Verdict) : Type 0 where
    pub tries : List ℕ
    pub rows : List ℕ
    pub action : ℕ
    pub whole : Bool
    pub visits : VisitsTries rec ls list source f n tries rows action whole
    pub says : v ≡ cond whole (verdict action (reads + length rows)) (Refused 9)

  says_on : (f g reads : ℕ) {a : Answer} {go : ℕ → Verdict} → ((r : ℕ) → VisitsSay f (trie_row list g).next r (go r)) → Source g a → VisitsSay (suc f) (suc g) reads (onward a reads go)
  unfolding onward
  says_on f g reads below (bad_source_lem b e) = record { tries = []; rows = []; action = 0; whole = false; visits = broken_off b; says = rw e refl }
  says_on f g reads {a} {go} below (good_source {rs} l path e) = elim (dec_le (action_on rec ls list source g rs) 0) [
    | yes z ↦
        let none : action_on rec ls list source g rs ≡ 0 = omega arith in
        let s = below (reads + length rs) in
        record {
          tries = g ∷ s.tries;
          rows = at_place (trie_row list g).place rs ++ s.rows;
          action = s.action;
          whole = s.whole;
          visits = goes_on path none s.visits;
          says = ap (λ (x : Answer). onward x reads go) e ∙ onward_none l (length rs) reads go none ∙ s.says ∙ ap (λ (n : ℕ). cond s.whole (verdict s.action n) (Refused 9)) (more rs s.rows);
        }
    | no z ↦ record {
      tries = g ∷ [];
      rows = at_place (trie_row list g).place rs;
      action = action_on rec ls list source g rs;
      whole = true;
      visits = matched_in path (omega arith);
      says = ap (λ (x : Answer). onward x reads go) e ∙ onward_some (action_on rec ls list source g rs) l (length rs) reads go (omega arith)
          ∙ ap (λ (n : ℕ). verdict (action_on rec ls list source g rs) (reads + n)) (sym (placed_length (trie_row list g).place rs));
    }
  ]
    where
      more : (rs rows : List ℕ) → reads + length rs + length rows ≡ reads + length (at_place (trie_row list g).place rs ++ rows)
      more rs rows = omega (arith, length-append (at_place (trie_row list g).place rs) rows, placed_length (trie_row list g).place rs)

  pub through_says : (f n reads : ℕ) → VisitsSay f n reads (from f n reads)
  unfolding through_tries verdict
  through_says zero zero reads = record { tries = []; rows = []; action = 0; whole = true; visits = no_more; says = ap NoRule (sym (add-zero reads)) }
  through_says zero (suc g) reads = record { tries = []; rows = []; action = 0; whole = false; visits = too_many; says = refl }
  through_says (suc f) zero reads = record { tries = []; rows = []; action = 0; whole = true; visits = no_more; says = ap NoRule (sym (add-zero reads)) }
  through_says (suc f) (suc g) reads = says_on f g reads (λ r. through_says f (trie_row list g).next r) (source_at g)
