-- What a lookup hands back, case by case of its tests, in numbers.
use Prim.Native.Nat.{ℕ, ◌≤◌}
use mathlib.Core.Bool.{cond}
use lib.Dec.{eqb}
use Rattle.walk.specs.Cases.{Answer, Refused}
use mathlib.Core.Path.{◌≡◌, refl, sym, ap, ◌∙◌}
use native.Mathlib.Omega.{arith}
use borrow.Author.Tests.{eq-eqb, ne_eqb}
use Rattle.std.specs.Prelude.{Result, Ok, Err}
use Rattle.table.specs.Answers.{Told}
use Rattle.walk.specs.declared.numbers.LookupRefusal.{LookupRefusal}
use Rattle.walk.specs.declared.numbers.LookupRefusal.TheVariants.{Width, Levels, Address, Damage}
use Rattle.walk.specs.declared.record.Record.{Record}
use Rattle.walk.specs.declared.numbers.Found.{Found}
use Rattle.walk.specs.Rows.{Lists, shortest, row_at, root}
use Rattle.walk.specs.Answers.{floor_best, answer, answer_numbers, answer_of}
use Rattle.walk.specs.Told.{lookup_refusal_number, numbers_of}
use Rattle.walk.specs.Lookup.{walk, first_refusal, lookup_of}
use Rattle.walk.specs.Meaning.{Looked}
use Rattle.walk.proofs.Tests.{tests_passed, first_fails, rooted_passes}
use Rattle.walk.proofs.Answers.{best_has_numbers, answer_again}
use Rattle.walk.proofs.Walks.{lookup_early, lookup_rootless, lookup_walks}
use Rattle.walk.proofs.Looked.{looked, promised, promised_numbers}

-- no refusal has the number 0
pub numbered : (e : LookupRefusal) → lookup_refusal_number e ≡ 0 → ⊥
numbered Width z = absurd (omega arith)
numbered Levels z = absurd (omega arith)
numbered Address z = absurd (omega arith)
numbered Damage z = absurd (omega arith)

module _ (most : ℕ) (rec : Record) (ls : Lists) (address : ℕ) where
  abbrev Lookup : Result Found LookupRefusal → Type 0
  Lookup r = numbers_of r ≡ answer_numbers (lookup_of most rec ls address)

  pub told_promised : (r : Result Found LookupRefusal) → numbers_of r ≡ answer_numbers (lookup_of most rec ls address)
      → Told (Looked most rec ls address) answer_numbers (numbers_of r)
  told_promised r e = (promised_numbers most rec ls address e).1

  -- as an answer, both clauses
  pub found_answer : {a : Answer} (f : Found) → a ≡ answer f.hop f.length f.reads → Lookup (Ok f)
      → (a ≡ lookup_of most rec ls address) × Looked most rec ls address a
  unfolding answer_of
  found_answer f q p = promised most rec ls address (q ∙ ap answer_of p ∙ answer_again _ (looked most rec ls address).case)

  -- both clauses of the promise
  abbrev Both : Result Found LookupRefusal → Type 0
  Both r = Lookup r × Told (Looked most rec ls address) answer_numbers (numbers_of r)

  both : (r : Result Found LookupRefusal) → Lookup r → Both r
  both r e = (e, told_promised r e)

  module _ {n : ℕ} (n_is : n ≡ shortest ls) where
    pub told_early : (e : LookupRefusal) → lookup_refusal_number e ≡ first_refusal most rec n address → Both (Err e)
    told_early e p =
        let q : lookup_refusal_number e ≡ first_refusal most rec (shortest ls) address = rw n_is at p in
        both (Err e) (ap answer_numbers (sym (lookup_early most rec ls address (q ∙ first_fails _ _ _ _ (λ z. numbered e (q ∙ z))) (numbered e))))

    module _ (p : 0 ≡ first_refusal most rec n address) where
      passed : first_refusal most rec (shortest ls) address ≡ 0
      passed = rw n_is at (sym p)

      pub told_empty : root rec ≡ 0 → rec.elements ≡ 0 → Both (Ok (record { hop = rec.floor; length = 0; reads = 0 }))
      told_empty z e =
          let empty : lookup_of most rec ls address ≡ answer rec.floor 0 0 = lookup_rootless most rec ls address passed z ∙ rw_empty e in
          both (Ok (record { hop = rec.floor; length = 0; reads = 0 }))
          (best_has_numbers (record { hop = rec.floor; len = 0 }) 0 (λ e. refl) ∙ ap answer_numbers (sym empty))
        where
          rw_empty : rec.elements ≡ 0 → cond (eqb rec.elements 0) (answer rec.floor 0 0) (Refused 9) ≡ answer rec.floor 0 0
          rw_empty e = rw (eq-eqb _ _ e)

      pub told_rootless : root rec ≡ 0 → (rec.elements ≡ 0 → ⊥) → Both (Err Damage)
      told_rootless z e =
          let damage : lookup_of most rec ls address ≡ Refused 9 = lookup_rootless most rec ls address passed z ∙ rw_damage e in
          both (Err Damage) (ap answer_numbers (sym damage))
        where
          rw_damage : (rec.elements ≡ 0 → ⊥) → cond (eqb rec.elements 0) (answer rec.floor 0 0) (Refused 9) ≡ Refused 9
          rw_damage e = rw (ne_eqb _ _ e)

      pub told_walks : (root rec ≡ 0 → ⊥) → (r : Result Found LookupRefusal)
          → numbers_of r ≡ answer_numbers (walk rec.elements address (row_at ls) rec.levels 0 (root rec) rec.width (floor_best rec.floor) 0)
          → Both r
      told_walks z r e = both r (e ∙ ap answer_numbers (sym (lookup_walks most rec ls address (rooted_passes _ _ _ _ passed z) z)))

      pub follow_can : (root rec ≡ 0 → ⊥) → (rec.elements ≤ shortest ls) × (rec.width ≤ most)
      follow_can z = let q = tests_passed _ _ _ _ (rooted_passes _ _ _ _ passed z) in (q.enough, q.width.1)
