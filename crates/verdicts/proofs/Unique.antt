-- One classification, one verdict: two verdicts that the promise's meaning allows are equal. From the meaning alone; nothing here knows
-- how a verdict is computed.
use Prim.Native.Nat.{ℕ, ◌<◌}
use mathlib.Core.Path.{◌≡◌, refl, sym, ap, ap₂, subst, ◌∙◌}
use mathlib.Core.Bool.{Bool, true}
use mathlib.Core.List.{List, ◌∷◌, ◌++◌}
use mathlib.Core.Logic.{◌↔◌}
use native.Mathlib.Omega.{arith}
use native.Mathlib.Decide.{dec_le}
use lib.ListN.{length}
use Rattle.walk.specs.Rows.{Lists}
use Rattle.walk.proofs.Unique.{test_unique, on_path_unique}
use Rattle.verdicts.specs.Limits.{VISITS}
use Rattle.verdicts.specs.Tries.{trie_row, at_place}
use Rattle.verdicts.specs.Verdicts.{verdict_number, action_of, verdict_reads}
use Rattle.verdicts.specs.Meaning.{SourcePath, action_on, VisitsTries, no_more, too_many, broken_off, matched_in, goes_on, called_first, TriesWay, RuleTested, Classified}
use Rattle.verdicts.specs.declared.record.RuleRecord.{RuleRecord}
use Rattle.verdicts.specs.Cases.{Verdict}
use Rattle.verdicts.proofs.Answers.{refusal_bare, verdict_unique}

module _ {rec : RuleRecord} {ls : Lists} {list : List ℕ} {source : ℕ} where
  one_path : {g : ℕ} {rs rs' : List ℕ} → SourcePath rec ls list source g rs → SourcePath rec ls list source g rs' → rs ≡ rs'
  one_path p q = on_path_unique p.path q.path

  one_action : {g : ℕ} {rs rs' : List ℕ} → SourcePath rec ls list source g rs → SourcePath rec ls list source g rs'
      → action_on rec ls list source g rs ≡ action_on rec ls list source g rs'
  one_action {g} p q = ap (action_on rec ls list source g) (one_path p q)

  -- one way leads through the source tries
  pub visits_unique : {f n : ℕ} {ts ts' rows rows' : List ℕ} {a a' : ℕ} {w w' : Bool}
      → VisitsTries rec ls list source f n ts rows a w → VisitsTries rec ls list source f n ts' rows' a' w'
      → (ts ≡ ts') × (rows ≡ rows') × (a ≡ a') × (w ≡ w')
  visits_unique no_more no_more = (refl, refl, refl, refl)
  visits_unique too_many too_many = (refl, refl, refl, refl)
  visits_unique (broken_off b) (broken_off c) = (refl, refl, refl, refl)
  visits_unique (broken_off b) (matched_in p s) = absurd (p.sound b)
  visits_unique (broken_off b) (goes_on p z v) = absurd (p.sound b)
  visits_unique (matched_in p s) (broken_off b) = absurd (p.sound b)
  visits_unique (matched_in {g = g} p s) (matched_in q t) =
      let e = one_path p q in (refl, ap (at_place (trie_row list g).place) e, ap (action_on rec ls list source g) e, refl)
  visits_unique (matched_in p s) (goes_on q z v) = absurd (omega (arith, one_action p q, z, s))
  visits_unique (goes_on p z v) (broken_off b) = absurd (p.sound b)
  visits_unique (goes_on p z v) (matched_in q s) = absurd (omega (arith, one_action p q, z, s))
  visits_unique (goes_on {g = g} p z v) (goes_on q y u) =
      let e = one_path p q in
      let r = visits_unique v u in
      (ap (λ (ts : List ℕ). g ∷ ts) r.0, ap₂ (λ (xs ys : List ℕ). at_place (trie_row list g).place xs ++ ys) e r.1, r.2, r.3)

module _ {rec : RuleRecord} {ls : Lists} {list : List ℕ} {dest source : ℕ} where
  -- so the tries visited, the rows on the paths in them and the action are one
  pub tries_way_unique : {ts ts' rows rows' : List ℕ} {a a' : ℕ} → TriesWay rec ls list dest source ts rows a → TriesWay rec ls list dest source ts' rows' a'
      → (ts ≡ ts') × (rows ≡ rows') × (a ≡ a')
  tries_way_unique {ts' = ts'} {a' = a'} p q =
      let e : p.dest_rows ≡ q.dest_rows = on_path_unique p.dest_path q.dest_path in
      let v = subst (λ (rs : List ℕ). VisitsTries rec ls list source VISITS (called_first rec ls list dest source rs) ts' q.source_rows a' true) (sym e) q.visits in
      let u = visits_unique p.visits v in
      (u.0, p.all_rows ∙ ap₂ (λ (xs ys : List ℕ). xs ++ ys) e u.1 ∙ sym q.all_rows, u.2)

  module _ {most : ℕ} where
    pub rule_tested_unique : {n m : ℕ} → RuleTested rec ls list dest source most n → RuleTested rec ls list dest source most m → n ≡ m
    rule_tested_unique = test_unique (λ i j. test_unique (λ i j. test_unique (λ i j. test_unique (λ i j p q. p ∙ sym q))))

    same_told : {v w : Verdict} → Classified rec ls list dest source most v → Classified rec ls list dest source most w → verdict_number v ≡ verdict_number w
        → (action_of v ≡ action_of w) × (verdict_reads v ≡ verdict_reads w)
    same_told {v} {w} c d e = elim (dec_le (verdict_number v) 0) [
      | yes z ↦
          let p = c.told (omega arith) in
          let q = d.told (omega arith) in
          let u = tries_way_unique p.2 q.2 in
          (u.2, p.3 ∙ ap length u.1 ∙ sym q.3)
      | no z ↦
          let p = refusal_bare v (omega arith) in
          let q = refusal_bare w (omega arith) in
          (p.0 ∙ sym q.0, p.1 ∙ sym q.1)
    ]

    -- the number is exactly that of the first test that fails: 9 exactly for `RuleDamage` where width, levels and addresses pass
    pub classify_first : {v : Verdict} → Classified rec ls list dest source most v → (n : ℕ)
        → (verdict_number v ≡ n) ↔ RuleTested rec ls list dest source most n
    classify_first {v} c n =
        (λ (e : verdict_number v ≡ n). subst (RuleTested rec ls list dest source most) e c.tested, λ t. rule_tested_unique c.tested t)

    -- a refused classification has no action and 0 reads
    pub classify_refused : {v : Verdict} → Classified rec ls list dest source most v → 0 < verdict_number v → (action_of v ≡ 0) × (verdict_reads v ≡ 0)
    classify_refused {v} c h = refusal_bare v h

    -- one verdict is allowed
    pub classified_unique : {v w : Verdict} → Classified rec ls list dest source most v → Classified rec ls list dest source most w → v ≡ w
    classified_unique {v} {w} c d =
        let n : verdict_number v ≡ verdict_number w = rule_tested_unique c.tested d.tested in
        let s = same_told c d n in
        verdict_unique v w n s.0 s.1 c.case d.case
