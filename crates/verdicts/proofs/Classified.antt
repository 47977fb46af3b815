-- The verdicts that the promise allows: the classification's is one (and there is no other, `classified_unique`).
use Prim.Native.Nat.{ℕ, ◌+◌, ◌^◌, ◌≤◌, ◌<◌}
use mathlib.Core.Path.{◌≡◌, refl, sym, ap, subst, ◌∙◌}
use mathlib.Core.Bool.{Bool, true, false, cond, true≢false, ◌||◌}
use mathlib.Core.List.{List, ◌++◌}
use mathlib.Core.Logic.{◌⊎◌, inl, inr, ⊎_elim}
use native.Mathlib.Omega.{arith}
use native.Mathlib.Decide.{dec_le}
use lib.Dec.{eqb, ltb, leb}
use lib.ListN.{length, length-append}
use Rattle.std.specs.Prelude.{Ok, Err}
use borrow.Author.Tests.{ltb-true, ltb-false, leb-true, leb-false, ne_eqb}
use Rattle.table.specs.Limits.{outside}
use Rattle.walk.specs.Limits.{WIDTH, LEVELS, Outside, Within}
use Rattle.walk.specs.Refusals.{fails, passes}
use Rattle.walk.specs.Rows.{Lists, shortest}
use Rattle.walk.specs.Answers.{number_of, hop_of, reads_of}
use Rattle.walk.specs.Lookup.{lookup_of}
use Rattle.walk.specs.Meaning.{OnPath}
use Rattle.walk.specs.Answers.{answer, answer_numbers}
use Rattle.walk.specs.Told.{lookup_refusal_number, numbers_of}
use Rattle.walk.specs.Cases.{Answer}
use Rattle.walk.specs.declared.numbers.LookupRefusal.{LookupRefusal}
use Rattle.walk.proofs.Reading.{reads_most}
use Rattle.walk.specs.declared.numbers.Found.{Found}
use Rattle.walk.specs.declared.numbers.AnswerNumbers.{AnswerNumbers}
use Rattle.walk.proofs.Told.{numbered, found_answer}
use Rattle.walk.proofs.Tests.{outside_cases, within_not}
use Rattle.walk.proofs.Looked.{looked, damage_refused}
use Rattle.walk.proofs.Unique.{on_path_unique}
use Rattle.verdicts.specs.Limits.{VISITS}
use Rattle.verdicts.specs.Classify.{through_tries, early_refusal, from_dest, classify_of}
use Rattle.verdicts.specs.Meaning.{VisitsTries, called_first, RuleDamage, short_lists, past_all, breaks_dest, breaks_source, TriesWay, RuleTested, Classified}
use Rattle.verdicts.specs.Visiting.{CanVisit}
use Rattle.verdicts.specs.declared.record.RuleRecord.{RuleRecord}
use Rattle.verdicts.specs.Cases.{Verdict}
use Rattle.verdicts.specs.Cases.{Refused}
use Rattle.verdicts.proofs.Answers.{verdict, verdict_number_lem, verdict_action, verdict_reads_lem, verdict_case}
use Rattle.verdicts.proofs.Sources.{only_damage, refused_nine}
use Rattle.verdicts.proofs.Visits.{VisitsSay, through_says}
use Rattle.verdicts.proofs.Unique.{visits_unique}

-- no test fails before the first row
pub record EarlyPassed (most : ℕ) (rec : RuleRecord) (n dest source : ℕ) : Type 0 where
  pub width : Within rec.dest.width most
  pub levels : Within rec.dest.levels LEVELS
  pub dest_in : dest < 2 ^ rec.dest.width
  pub source_in : source < 2 ^ rec.dest.width
  pub enough : rec.elements ≤ n
  pub own : rec.dest.elements ≤ rec.elements

-- one of two tests
or_cases : (a b : Bool) (A B : Type 0) (P : Bool → Type 0) → (a ≡ true → A) → (b ≡ true → B) → (A ⊎ B → P true) → (a ≡ false → b ≡ false → P false) → P (a || b)
or_cases true b A B P x y f g = f (inl (x refl))
or_cases false true A B P x y f g = f (inr (y refl))
or_cases false false A B P x y f g = g refl refl

module _ (most : ℕ) (rec : RuleRecord) (n dest source : ℕ) where
  -- what holds of the first test that fails, and of none
  pub early_cases : (P : ℕ → Type 0)
      → (Outside rec.dest.width most → P 1)
      → (Within rec.dest.width most → Outside rec.dest.levels LEVELS → P 2)
      → (Within rec.dest.width most → Within rec.dest.levels LEVELS → (2 ^ rec.dest.width ≤ dest) ⊎ (2 ^ rec.dest.width ≤ source) → P 8)
      → (Within rec.dest.width most → Within rec.dest.levels LEVELS → dest < 2 ^ rec.dest.width → source < 2 ^ rec.dest.width
      → (n < rec.elements) ⊎ (rec.elements < rec.dest.elements) → P 9)
      → (EarlyPassed most rec n dest source → P 0) → P (early_refusal most rec n dest source)
  unfolding early_refusal
  early_cases P f1 f2 f8 f9 f0 =
      let r9 : ℕ = cond (ltb n rec.elements || ltb rec.elements rec.dest.elements) 9 0 in
      let r8 : ℕ = cond (leb (2 ^ rec.dest.width) dest || leb (2 ^ rec.dest.width) source) 8 r9 in
      let r2 : ℕ = cond (outside rec.dest.levels LEVELS) 2 r8 in
      outside_cases rec.dest.width most (λ (t : Bool). P (cond t 1 r2)) f1 (λ w.
      outside_cases rec.dest.levels LEVELS (λ (t : Bool). P (cond t 2 r8)) (f2 w) (λ k.
      or_cases (leb (2 ^ rec.dest.width) dest) (leb (2 ^ rec.dest.width) source) _ _ (λ (t : Bool). P (cond t 8 r9)) (leb-true _ _) (leb-true _ _) (f8 w k) (λ a b.
      or_cases (ltb n rec.elements) (ltb rec.elements rec.dest.elements) _ _ (λ (t : Bool). P (cond t 9 0)) (ltb-true _ _) (ltb-true _ _)
      (f9 w k (leb-false _ _ a) (leb-false _ _ b)) (λ c d.
      f0 (record { width = w; levels = k; dest_in = leb-false _ _ a; source_in = leb-false _ _ b; enough = ltb-false _ _ c; own = ltb-false _ _ d })))))

  pub early_passed : early_refusal most rec n dest source ≡ 0 → EarlyPassed most rec n dest source
  early_passed =
      early_cases (λ (m : ℕ). m ≡ 0 → EarlyPassed most rec n dest source) (λ o e. absurd (omega arith)) (λ w o e. absurd (omega arith))
      (λ w k o e. absurd (omega arith)) (λ w k a b d e. absurd (omega arith)) (λ p e. p)

module _ (rec : RuleRecord) (ls : Lists) (list : List ℕ) (dest source : ℕ) where
  abbrev found : Answer
  found = lookup_of WIDTH rec.dest ls dest

  pub can_visit : EarlyPassed WIDTH rec (shortest ls) dest source → CanVisit rec.dest.width rec.dest.levels rec.elements ls source
  can_visit p = record { width = p.width; levels = p.levels; inside = p.source_in; enough = p.enough }

  -- a refusal by the first test that fails is allowed
  refused_classified : {n : ℕ} → RuleTested rec ls list dest source WIDTH n → 0 < n → Classified rec ls list dest source WIDTH (Refused n)
  refused_classified t h = record { tested = t; told = λ z. absurd (omega arith); case = h }

  module _ (p : EarlyPassed WIDTH rec (shortest ls) dest source) where
    nine : RuleDamage rec ls list dest source → RuleTested rec ls list dest source WIDTH 9
    nine d =
        passes (within_not p.width) (passes (within_not p.levels)
        (passes (λ o. ⊎_elim (λ (a : 2 ^ rec.dest.width ≤ dest). omega (arith, p.dest_in)) (λ (b : 2 ^ rec.dest.width ≤ source). omega (arith, p.source_in)) o)
        (fails d)))

    none : (RuleDamage rec ls list dest source → ⊥) → RuleTested rec ls list dest source WIDTH 0
    none s =
        passes (within_not p.width) (passes (within_not p.levels)
        (passes (λ o. ⊎_elim (λ (a : 2 ^ rec.dest.width ≤ dest). omega (arith, p.dest_in)) (λ (b : 2 ^ rec.dest.width ≤ source). omega (arith, p.source_in)) o)
        (passes s refl)))

    -- a way that comes to its end leaves no damage
    sound_way : number_of found ≡ 0 → {ts rows : List ℕ} {a : ℕ} → TriesWay rec ls list dest source ts rows a → RuleDamage rec ls list dest source → ⊥
    sound_way z w (short_lists d) = omega (arith, p.enough)
    sound_way z w (past_all d) = omega (arith, p.own)
    sound_way z w (breaks_dest d) =
        let e : number_of found ≡ 9 = ap number_of (damage_refused WIDTH rec.dest ls dest p.width p.levels p.dest_in d) in omega (arith, z, e)
    sound_way z w (breaks_source {rs} {ts} {rows} {a} o v) =
        let e : rs ≡ w.dest_rows = on_path_unique o w.dest_path in
        let u = subst (λ (xs : List ℕ). VisitsTries rec ls list source VISITS (called_first rec ls list dest source xs) ts rows a false) e v in
        true≢false (visits_unique w.visits u).3

    -- what the source tries say is allowed, where the destination's rows are rs
    said : {rs : List ℕ} → number_of found ≡ 0 → OnPath rec.dest ls dest rs → reads_of found ≡ length rs → hop_of found ≡ called_first rec ls list dest source rs
        → {v : Verdict} → VisitsSay rec ls list source (can_visit p) VISITS (hop_of found) (reads_of found) v → Classified rec ls list dest source WIDTH v
    said {rs} z o r h {v} s =
        go s.whole (subst (λ (n : ℕ). VisitsTries rec ls list source VISITS n s.tries s.rows s.action s.whole) h s.visits) s.says
      where
        go : (w : Bool) → VisitsTries rec ls list source VISITS (called_first rec ls list dest source rs) s.tries s.rows s.action w
            → v ≡ cond w (verdict s.action (reads_of found + length s.rows)) (Refused 9) → Classified rec ls list dest source WIDTH v
        go true w e =
            let n = reads_of found + length s.rows in
            let way : TriesWay rec ls list dest source s.tries (rs ++ s.rows) s.action
            = record { dest_rows = rs; source_rows = s.rows; dest_path = o; visits = w; all_rows = refl } in
            rw e (record {
              tested = rw (verdict_number_lem s.action n) (none (sound_way z way));
              told = λ y. (s.tries, rs ++ s.rows, rw (verdict_action s.action n) way, verdict_reads_lem s.action n ∙ omega (arith, r, length-append rs s.rows));
              case = verdict_case s.action n;
            })
        go false w e = rw e (refused_classified (nine (breaks_source o w)) (omega arith))

    past_early : Classified rec ls list dest source WIDTH (from_dest WIDTH rec ls list found source)
    unfolding from_dest
    past_early = elim (dec_le (number_of found) 0) [
      | yes z ↦
          let y : number_of found ≡ 0 = omega arith in
          let t = (looked WIDTH rec.dest ls dest).told y in
          rw y (said y t.1 t.2.2 t.2.0 (through_says rec ls list source (can_visit p) VISITS (hop_of found) (reads_of found)))
      | no z ↦
          rw (ne_eqb (number_of found) 0 (λ (e : number_of found ≡ 0). omega arith))
          (refused_classified (nine (breaks_dest (only_damage p.width p.levels p.dest_in (looked WIDTH rec.dest ls dest).tested (omega arith)))) (omega arith))
    ]

  -- the classification's verdict is allowed
  pub classified : Classified rec ls list dest source WIDTH (classify_of WIDTH rec ls list dest source)
  unfolding classify_of
  classified =
      early_cases WIDTH rec (shortest ls) dest source
      (λ (n : ℕ). Classified rec ls list dest source WIDTH (cond (eqb n 0) (from_dest WIDTH rec ls list found source) (Refused n)))
      (λ o. refused_classified (fails o) (omega arith))
      (λ w o. refused_classified (passes (within_not w) (fails o)) (omega arith))
      (λ w k o. refused_classified (passes (within_not w) (passes (within_not k) (fails o))) (omega arith))
      (λ w k a b d. refused_classified (passes (within_not w) (passes (within_not k)
      (passes (λ o. ⊎_elim (λ (x : 2 ^ rec.dest.width ≤ dest). omega arith) (λ (x : 2 ^ rec.dest.width ≤ source). omega arith) o)
      (fails (⊎_elim short_lists past_all d))))) (omega arith))
      past_early

  -- ---- the promise's two clauses, case by case of the code

  abbrev Promised : Verdict → Type 0
  Promised v = (v ≡ classify_of WIDTH rec ls list dest source) × Classified rec ls list dest source WIDTH v

  promised : {v : Verdict} → v ≡ classify_of WIDTH rec ls list dest source → Promised v
  promised e = (e, rw e classified)

  module _ {n : ℕ} (n_is : n ≡ shortest ls) where
    -- a test fails before a row is read
    pub promised_early : (x : LookupRefusal) → lookup_refusal_number x ≡ early_refusal WIDTH rec n dest source → Promised (Refused (lookup_refusal_number x))
    unfolding classify_of
    promised_early x e = promised (early (lookup_refusal_number x) (rw n_is at e) (numbered x))
      where
        early : (m : ℕ) → m ≡ early_refusal WIDTH rec (shortest ls) dest source → (m ≡ 0 → ⊥) → Refused m ≡ classify_of WIDTH rec ls list dest source
        early m e z = rw (← e, ne_eqb m 0 z) refl

    module _ (t : 0 ≡ early_refusal WIDTH rec n dest source) where
      passes_early : early_refusal WIDTH rec (shortest ls) dest source ≡ 0
      passes_early = rw n_is at (sym t)

      pub early_tests_passed : EarlyPassed WIDTH rec (shortest ls) dest source
      early_tests_passed = early_passed WIDTH rec (shortest ls) dest source passes_early

      -- the destination's lookup is refused
      pub promised_damaged : (x : LookupRefusal) → numbers_of (Err x) ≡ answer_numbers found → Promised (Refused (lookup_refusal_number x))
      unfolding classify_of from_dest
      promised_damaged x e =
          let r = refused_nine rec.dest ls dest early_tests_passed.width early_tests_passed.levels early_tests_passed.dest_in x e in rw r.1 (promised (damaged r.0))
        where
          damaged : found ≡ Answer.Refused 9 → Refused 9 ≡ classify_of WIDTH rec ls list dest source
          damaged q = rw (passes_early, q) refl

      -- it is not, and the source tries tell
      module _ {a : Answer} (f : Found) (q : a ≡ answer f.hop f.length f.reads) (p : numbers_of (Ok f) ≡ answer_numbers found) where
        is_found : a ≡ found
        is_found = (found_answer WIDTH rec.dest ls dest f q p).0

        pub promised_on : {v : Verdict}
            → v ≡ through_tries WIDTH rec.elements rec.dest.width rec.dest.levels ls list source VISITS (hop_of a) f.reads → Promised v
        unfolding classify_of from_dest
        promised_on e = promised (e ∙ on is_found (ap (λ (y : AnswerNumbers). y.number) p) (ap (λ (y : AnswerNumbers). y.reads) p))
          where
            on : {b : Answer} {r : ℕ} → b ≡ found → 0 ≡ number_of found → r ≡ reads_of found
                → through_tries WIDTH rec.elements rec.dest.width rec.dest.levels ls list source VISITS (hop_of b) r ≡ classify_of WIDTH rec ls list dest source
            on x z y = rw (passes_early, x, sym z, y) refl

        pub dest_reads : f.reads ≤ LEVELS
        dest_reads = omega (arith, ap (λ (y : AnswerNumbers). y.reads) p, reads_most WIDTH rec.dest ls dest, early_tests_passed.levels.1)
