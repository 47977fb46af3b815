-- What a lookup hands back, case by case of its tests, in numbers.
use Prim.Native.Nat.{ℕ, suc, ◌≤◌, ◌/◌}
use mathlib.Core.Path.{◌≡◌, refl, sym, ap, ◌∙◌}
use mathlib.Core.List.{List}
use lib.ListN.{length}
use Rattle.std.specs.Prelude.{Result, Ok, Err}
use Rattle.table.specs.Answers.{Told}
use Rattle.table.specs.Table.{at}
use Rattle.walk.specs.Cases.{Answer}
use Rattle.walk.specs.Answers.{answer, answer_numbers, answer_of}
use Rattle.walk.specs.Told.{lookup_refusal_number, found_numbers, numbers_of}
use Rattle.walk.specs.declared.numbers.LookupRefusal.{LookupRefusal}
use Rattle.walk.specs.declared.numbers.Found.{Found}
use Rattle.walk.proofs.Answers.{answer_again}
use Rattle.walk.proofs.Told.{numbered}
use Rattle.pieces.specs.Maps.{STEP}
use Rattle.std.specs.Prelude.{None}
use Rattle.visits.specs.declared.record.Bitmap.{Bitmap}
use Rattle.visits.specs.Rows.{RowLists, row_room, supernode_at}
use Rattle.visits.specs.Lookup.{visit_from, bitmap_refusal, lookup_bitmap_of}
use Rattle.visits.specs.Meaning.{LookedBitmap}
use Rattle.visits.proofs.Tests.{bitmap_passed}
use Rattle.visits.proofs.Visiting.{look_refused, look_empty, look_visits}
use Rattle.visits.proofs.Looked.{looked_bitmap, promised_bitmap, promised_bitmap_numbers}

module _ (most : ℕ) (rec : Bitmap) (rows : RowLists) (hops : List ℕ) (address : ℕ) where
  abbrev Lookup : Result Found LookupRefusal → Type 0
  Lookup r = numbers_of r ≡ answer_numbers (lookup_bitmap_of most rec rows hops address)

  -- both clauses of the promise
  abbrev Both : Result Found LookupRefusal → Type 0
  Both r = Lookup r × Told (LookedBitmap most rec rows hops address) answer_numbers (numbers_of r)

  both : (r : Result Found LookupRefusal) → Lookup r → Both r
  both r e = promised_bitmap_numbers most rec rows hops address e

  -- as an answer, both clauses
  pub found_answer : {a : Answer} (f : Found) → a ≡ answer f.hop f.length f.reads → Lookup (Ok f)
      → (a ≡ lookup_bitmap_of most rec rows hops address) × LookedBitmap most rec rows hops address a
  unfolding answer_of
  found_answer f q p = promised_bitmap most rec rows hops address (q ∙ ap answer_of p ∙ answer_again _ (looked_bitmap most rec rows hops address).case)

  module _ {n : ℕ} (n_is : n ≡ row_room rows) where
    pub told_early : (e : LookupRefusal) → lookup_refusal_number e ≡ bitmap_refusal most rec n (length hops) address → Both (Err e)
    told_early e p =
        both (Err e) (ap answer_numbers (look_refused most rec rows hops address (rw n_is at p) (numbered e) refl))

    module _ (p : 0 ≡ bitmap_refusal most rec n (length hops) address) where
      passed : 0 ≡ bitmap_refusal most rec (row_room rows) (length hops) address
      passed = rw n_is at p

      pub told_empty : rec.supernodes ≡ 0 → (f : Found) → found_numbers f ≡ answer_numbers (answer 0 0 0) → Both (Ok f)
      told_empty z f e = both (Ok f) (e ∙ ap answer_numbers (look_empty most rec rows hops address passed refl z refl))

      pub told_visits : (rec.supernodes ≡ 0 → ⊥) → (r : Result Found LookupRefusal)
          → numbers_of r ≡ answer_numbers
          (visit_from rec.width rec.supernodes rec.hops address (supernode_at rows) (at hops) (suc (rec.width / STEP)) 0 rec.width None 0)
          → Both r
      told_visits z r e = both r (e ∙ ap answer_numbers (look_visits most rec rows hops address passed refl z refl))

      pub follow_can : (rec.width ≤ most) × (rec.supernodes ≤ row_room rows) × (rec.hops ≤ length hops)
      follow_can = let q = bitmap_passed _ _ _ _ _ (sym passed) in (q.width.1, q.enough, q.hops_enough)
