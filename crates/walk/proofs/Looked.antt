-- The answers that the promise allows: the lookup's is one, and there is no other. A refusal is given by a number exactly
-- when that test is the first to fail.
use Prim.Native.Nat.{ℕ, ◌+◌, ◌^◌, ◌<◌}
use mathlib.Core.Path.{◌≡◌, refl, ap}
use mathlib.Core.Bool.{Bool, true, false, cond, true≢false}
use mathlib.Core.List.{List}
use mathlib.Core.Logic.{⊎_elim}
use native.Mathlib.Omega.{arith}
use native.Mathlib.Nat.{zero-add}
use lib.Dec.{eqb}
use lib.ListN.{length}
use borrow.Author.Tests.{eqb-true, eqb-false}
use Rattle.walk.specs.declared.record.Record.{Record}
use Rattle.walk.specs.Cases.{Answer}
use Rattle.walk.specs.Cases.{Refused}
use Rattle.walk.specs.Limits.{LEVELS, Within}
use Rattle.walk.specs.Refusals.{fails, passes}
use Rattle.walk.specs.Rows.{Lists, shortest, row_at, root}
use Rattle.walk.specs.declared.numbers.AnswerNumbers.{AnswerNumbers}
use Rattle.table.specs.Answers.{Told}
use Rattle.walk.specs.Answers.{number_of, HopLength, floor_best, latest, answer, answer_numbers}
use Rattle.walk.specs.Lookup.{ended, tell, from_root, path_of, lookup_of}
use Rattle.walk.specs.Meaning.{Passed, FromRoot, Damage, short, rootless, breaks, OnPath, empty, walked, Tested, Looked}
use Rattle.walk.proofs.Tests.{within_not, refusal_cases}
use Rattle.walk.proofs.Answers.{latest_no_hop, answer_number, answer_hop, answer_length, answer_reads, answer_case}
use Rattle.walk.proofs.Unique.{path_unique, looked_unique}
use Rattle.walk.proofs.Paths.{trail_path}

module _ (most : ℕ) (rec : Record) (ls : Lists) (address : ℕ) where
  nine : Within rec.width most → Within rec.levels LEVELS → address < 2 ^ rec.width → Damage rec ls address → Tested most rec ls address 9
  nine w k a d = passes (within_not w) (passes (within_not k) (passes (λ g. omega arith) (fails d)))

  none : {rs : List ℕ} → Passed most rec (shortest ls) address → OnPath rec ls address rs → Tested most rec ls address 0
  none p o = passes (within_not p.width) (passes (within_not p.levels) (passes (λ g. omega (arith, p.inside)) (passes (sound o) refl)))
    where
      sound : {rs : List ℕ} → OnPath rec ls address rs → Damage rec ls address → ⊥
      sound o (short s) = omega (arith, p.enough)
      sound o (rootless z g) = omega (arith, p.rooted z)
      sound (empty z) (breaks g b) = omega arith
      sound (walked h q) (breaks g b) = true≢false (path_unique q b).1

  -- a refusal by the first test that fails is allowed; and so is what the rows on the path say, where none fails
  refused_looked : {n : ℕ} → Tested most rec ls address n → 0 < n → Looked most rec ls address (Refused n)
  refused_looked t h = record { tested = t; told = λ z. absurd (omega arith); case = h }

  -- the best after these rows, and the answer that it makes
  abbrev best_on : List ℕ → HopLength
  best_on = latest (row_at ls) (floor_best rec.floor)

  abbrev answer_on : List ℕ → Answer
  answer_on rs = answer (best_on rs).hop (best_on rs).len (length rs)

  accepted_looked : {rs : List ℕ} {a : Answer} → Tested most rec ls address 0 → OnPath rec ls address rs → a ≡ answer_on rs → Looked most rec ls address a
  accepted_looked {rs} t o e =
      let b = best_on rs in
      rw e (record {
        tested = rw (answer_number b.hop b.len (length rs)) t;
        told = λ z. (rs, o, (answer_hop b.hop b.len _, answer_length b _ (latest_no_hop _ _ rs (λ h. refl)), answer_reads b.hop b.len _));
        case = answer_case b.hop b.len _;
      })

  -- past the tests, what the path says is allowed
  past_tests : Passed most rec (shortest ls) address → Looked most rec ls address (tell (row_at ls) (floor_best rec.floor) 0 (path_of rec ls address))
  unfolding path_of tell latest
  past_tests p = go (eqb (root rec) 0) refl
    where
      along : (rs : List ℕ) (w : Bool) → 0 < root rec → FromRoot rec ls address rs w
          → Looked most rec ls address (cond w (answer (best_on rs).hop (best_on rs).len (0 + length rs)) (Refused 9))
      along rs true g q =
          accepted_looked (none p (walked g q)) (walked g q) (ap (answer _ _) (zero-add _))
      along rs false g q = refused_looked (nine p.width p.levels p.inside (breaks g q)) (omega arith)

      go : (z : Bool) → eqb (root rec) 0 ≡ z
          → Looked most rec ls address (tell (row_at ls) (floor_best rec.floor) 0 (cond z ended (from_root rec ls address)))
      go true e = let z = eqb-true _ _ e in accepted_looked (none p (empty z)) (empty z) refl
      go false e =
          along _ _ (omega (arith, eqb-false (root rec) 0 e)) (trail_path _ _ _ _ _ _ _)

  -- the lookup's answer is allowed
  pub looked : Looked most rec ls address (lookup_of most rec ls address)
  unfolding lookup_of
  looked =
      refusal_cases most rec (shortest ls) address
      (λ (n : ℕ). Looked most rec ls address (cond (eqb n 0) (tell (row_at ls) (floor_best rec.floor) 0 (path_of rec ls address)) (Refused n)))
      (λ o. refused_looked (fails o) (omega arith))
      (λ w o. refused_looked (passes (within_not w) (fails o)) (omega arith))
      (λ w k o. refused_looked (passes (within_not w) (passes (within_not k) (fails o))) (omega arith))
      (λ w k a d. refused_looked (nine w k a (⊎_elim short (λ (z : (root rec ≡ 0) × (0 < rec.elements)). rootless z.0 z.1) d)) (omega arith))
      past_tests

  -- the promise's two clauses, from the first: in numbers, and as an answer
  pub promised_numbers : {r : AnswerNumbers} → r ≡ answer_numbers (lookup_of most rec ls address)
      → (r ≡ answer_numbers (lookup_of most rec ls address)) × Told (Looked most rec ls address) answer_numbers r
  promised_numbers e = (e, (lookup_of most rec ls address, looked, e))

  pub promised : {a : Answer} → a ≡ lookup_of most rec ls address → (a ≡ lookup_of most rec ls address) × Looked most rec ls address a
  promised e = (e, rw e looked)

  -- where the tests pass and the path comes to its end, the answer is what its rows say
  pub path_answer : {rs : List ℕ} → Passed most rec (shortest ls) address → OnPath rec ls address rs
      → lookup_of most rec ls address ≡ answer_on rs
  path_answer p o = looked_unique looked (accepted_looked (none p o) o refl)

  -- a refusal is given exactly where its test is the first to fail
  pub tested_refused : {n : ℕ} → Tested most rec ls address n → 0 < n → lookup_of most rec ls address ≡ Refused n
  tested_refused t h = looked_unique looked (refused_looked t h)

  pub refused_tested : (n : ℕ) → lookup_of most rec ls address ≡ Refused n → Tested most rec ls address n × (0 < n)
  refused_tested n e =
      let z : number_of (lookup_of most rec ls address) ≡ n = ap number_of e in
      (rw z at looked.tested, rw e at looked.case)

  -- refusal 9 in particular: past tests 1, 2 and 8, exactly for what 01 calls damage
  pub damage_refused : Within rec.width most → Within rec.levels LEVELS → address < 2 ^ rec.width → Damage rec ls address
      → lookup_of most rec ls address ≡ Refused 9
  damage_refused w k a d = tested_refused (nine w k a d) (omega arith)

  pub refused_damage : lookup_of most rec ls address ≡ Refused 9 → Damage rec ls address
  refused_damage e = go (refused_tested 9 e).0 refl
    where
      go : {n : ℕ} → Tested most rec ls address n → n ≡ 9 → Damage rec ls address
      go (fails f) z = absurd (omega arith)
      go (passes h (fails f)) z = absurd (omega arith)
      go (passes h (passes g (fails f))) z = absurd (omega arith)
      go (passes h (passes g (passes j (fails d)))) z = d
      go (passes h (passes g (passes j (passes i q)))) z = absurd (omega arith)
