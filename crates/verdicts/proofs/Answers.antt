-- Verdicts by their numbers: what an action and reads make, and that number, action, reads and case tell two verdicts apart.
use Prim.Native.Nat.{ℕ, ◌+◌, ◌<◌}
use mathlib.Core.Path.{◌≡◌, refl, sym, ap, ◌∙◌}
use mathlib.Core.Bool.{Bool, true, false, cond}
use mathlib.Core.Logic.{◌↔◌}
use native.Mathlib.Omega.{arith}
use native.Mathlib.Decide.{dec_le}
use native.Mathlib.Nat.{pos_of_ne-zero}
use lib.Dec.{eqb}
use borrow.Author.Tests.{eqb-true, eqb-false, ne_eqb}
use Rattle.table.specs.Limits.{discard_hop}
use Rattle.walk.specs.Answers.{answer}
use Rattle.walk.specs.Cases.{Match}
use Rattle.walk.specs.Cases as found
use Rattle.verdicts.specs.Classify.{onward}
use Rattle.verdicts.specs.Verdicts.{verdict_number, action_of, verdict_reads, VerdictCase}
use Rattle.verdicts.specs.Cases.{Verdict}
use Rattle.verdicts.specs.Cases.{Act, Discard, NoRule, Refused}

-- the verdict of an action: 0 is no rule, `discard_hop` a discard, every other is to act
unfoldable pub verdict : (action reads : ℕ) → Verdict
verdict action reads = cond (eqb action 0) (NoRule reads) (cond (eqb action discard_hop) (Discard reads) (Act action reads))

verdict_parts : (a r : ℕ) → let v = verdict a r in (verdict_number v ≡ 0) × (action_of v ≡ a) × (verdict_reads v ≡ r) × VerdictCase v
unfolding verdict
verdict_parts a r = go (eqb a 0) refl (eqb a discard_hop) refl
  where
    go : (z : Bool) → eqb a 0 ≡ z → (d : Bool) → eqb a discard_hop ≡ d
        → let v = cond z (NoRule r) (cond d (Discard r) (Act a r)) in
        (verdict_number v ≡ 0) × (action_of v ≡ a) × (verdict_reads v ≡ r) × VerdictCase v
    go true e d f = (refl, sym (eqb-true _ _ e), refl, tt)
    go false e true f = (refl, sym (eqb-true _ _ f), refl, tt)
    go false e false f = (refl, refl, refl, (pos_of_ne-zero (eqb-false _ _ e), eqb-false _ _ f))

pub verdict_number_lem : (a r : ℕ) → verdict_number (verdict a r) ≡ 0
verdict_number_lem a r = (verdict_parts a r).0

pub verdict_action : (a r : ℕ) → action_of (verdict a r) ≡ a
verdict_action a r = (verdict_parts a r).1

pub verdict_reads_lem : (a r : ℕ) → verdict_reads (verdict a r) ≡ r
verdict_reads_lem a r = (verdict_parts a r).2

pub verdict_case : (a r : ℕ) → VerdictCase (verdict a r)
verdict_case a r = (verdict_parts a r).3

-- a refused classification has no action and 0 reads
pub refusal_bare : (v : Verdict) → 0 < verdict_number v → (action_of v ≡ 0) × (verdict_reads v ≡ 0)
refusal_bare (Act a r) h = absurd (omega arith)
refusal_bare (Discard r) h = absurd (omega arith)
refusal_bare (NoRule r) h = absurd (omega arith)
refusal_bare (Refused n) h = (refl, refl)

-- an accepted verdict is the one of its action and reads, a refused one that of its number
pub verdict_is : (v : Verdict) → verdict_number v ≡ 0 → VerdictCase v → v ≡ verdict (action_of v) (verdict_reads v)
unfolding verdict
verdict_is (Act a r) z c = simp (ne_eqb a 0 (λ (e : a ≡ 0). omega (arith, c.0)), ne_eqb a discard_hop c.1)
verdict_is (Discard r) z c = refl
verdict_is (NoRule r) z c = refl
verdict_is (Refused n) z c = absurd (omega arith)

refused_is : (v : Verdict) → 0 < verdict_number v → v ≡ Refused (verdict_number v)
refused_is (Act a r) h = absurd (omega arith)
refused_is (Discard r) h = absurd (omega arith)
refused_is (NoRule r) h = absurd (omega arith)
refused_is (Refused n) h = refl

-- so two verdicts of the same numbers and of their case are one
pub verdict_unique : (v w : Verdict) → verdict_number v ≡ verdict_number w → action_of v ≡ action_of w → verdict_reads v ≡ verdict_reads w
    → VerdictCase v → VerdictCase w → v ≡ w
verdict_unique v w n a r c d = elim (dec_le (verdict_number v) 0) [
  | yes z ↦ verdict_is v (omega arith) c ∙ ap (λ (x : ℕ). verdict x (verdict_reads v)) a ∙ ap (verdict (action_of w)) r ∙ sym (verdict_is w (omega arith) d)
  | no s ↦ refused_is v (omega arith) ∙ ap Refused n ∙ sym (refused_is w (omega arith))
]

-- of the accepted verdicts no rule is told from every other by its action, and so is a discard
pub none_by_action : (v : Verdict) → verdict_number v ≡ 0 → VerdictCase v → (v ≡ NoRule (verdict_reads v)) ↔ (action_of v ≡ 0)
none_by_action (Act a r) z c = (λ (e : Act a r ≡ NoRule r). ap action_of e, λ (e : a ≡ 0). absurd (omega (arith, c.0)))
none_by_action (Discard r) z c = (λ (e : Discard r ≡ NoRule r). ap action_of e, λ (e : discard_hop ≡ 0). absurd (omega arith))
none_by_action (NoRule r) z c = (λ e. refl, λ e. refl)
none_by_action (Refused n) z c = absurd (omega (arith, c))

pub discard_by_action : (v : Verdict) → VerdictCase v → (v ≡ Discard (verdict_reads v)) ↔ (action_of v ≡ discard_hop)
discard_by_action (Act a r) c = (λ (e : Act a r ≡ Discard r). ap action_of e, λ (e : a ≡ discard_hop). absurd (c.1 e))
discard_by_action (Discard r) c = (λ e. refl, λ e. refl)
discard_by_action (NoRule r) c = (λ (e : NoRule r ≡ Discard r). ap action_of e, λ (e : 0 ≡ discard_hop). absurd (omega arith))
discard_by_action (Refused n) c = (λ (e : Refused n ≡ Discard 0). ap action_of e, λ (e : 0 ≡ discard_hop). absurd (omega arith))

-- what the answer of a source trie leads to, by its hop
pub onward_none : (len r reads : ℕ) (go : ℕ → Verdict) {h : ℕ} → h ≡ 0 → onward (answer h len r) reads go ≡ go (reads + r)
unfolding onward answer
onward_none len r reads go z = rw z refl

pub onward_some : (h len r reads : ℕ) (go : ℕ → Verdict) → 0 < h → onward (answer h len r) reads go ≡ verdict h (reads + r)
unfolding onward answer verdict
onward_some h len r reads go p = rw (ne_eqb h 0 (λ (e : h ≡ 0). omega arith)) (by (eqb h discard_hop))
  where
    by : (d : Bool) → onward (cond d (found.Discard len r) (Match h len r)) reads go ≡ cond d (Discard (reads + r)) (Act h (reads + r))
    by true = refl
    by false = refl
