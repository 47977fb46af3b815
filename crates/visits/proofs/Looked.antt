-- The answers that the promise allows: the lookup's is one, and there is no other. A refusal is given by a number exactly when that
-- test is the first to fail.
use Prim.Native.Nat.{ℕ, suc, ◌+◌, ◌-◌, ◌/◌, ◌^◌, ◌<◌}
use mathlib.Core.Path.{◌≡◌, refl, sym, ap, ◌∙◌}
use mathlib.Core.Bool.{Bool, true, false, cond, true≢false}
use mathlib.Core.List.{List}
use mathlib.Core.Logic.{⊎_elim}
use native.Mathlib.Omega.{arith}
use native.Mathlib.Nat.{zero-add}
use lib.Dec.{eqb, leb}
use lib.ListN.{length}
use borrow.Author.Tests.{eqb-true, eqb-false, leb-true, leb-false}
use Rattle.table.specs.Table.{at}
use Rattle.walk.specs.Cases.{Answer}
use Rattle.walk.specs.Cases.{Refused}
use Rattle.walk.specs.Limits.{Within}
use Rattle.walk.specs.Refusals.{fails, passes}
use Rattle.walk.specs.declared.numbers.AnswerNumbers.{AnswerNumbers}
use Rattle.table.specs.Answers.{Told}
use Rattle.walk.specs.Answers.{answer, answer_numbers}
use Rattle.walk.proofs.Tests.{within_not}
use Rattle.walk.proofs.Answers.{answer_has_numbers, answer_number, answer_hop, answer_reads, answer_case}
use Rattle.pieces.specs.Maps.{STEP}
use Rattle.visits.specs.Winner.{Best}
use Rattle.std.specs.Prelude.{None, Some}
use Rattle.visits.specs.declared.record.Bitmap.{Bitmap}
use Rattle.visits.specs.Rows.{RowLists, row_room}
use Rattle.visits.specs.Lookup.{Visited, arrived, from_first, tell_best, tell_visited, visited_by, lookup_bitmap_of}
use Rattle.visits.specs.Meaning.{BitmapPassed, FromFirst, BitmapDamage, rows_short, hops_short, strays, no_hop, OnWay, empty, visited}
use Rattle.visits.specs.Meaning.{winning_hop, winning_length, InCount, BitmapTested, LookedBitmap}
use Rattle.visits.proofs.Tests.{bitmap_refusal_cases}
use Rattle.visits.proofs.Means.{visit_way}
use Rattle.visits.proofs.Unique.{way_unique, looked_bitmap_unique}

-- a winner by number: 0 for none
abbrev placed : Best → ℕ
placed None = 0
placed (Some w) = suc w.place

module _ (most : ℕ) (rec : Bitmap) (rows : RowLists) (hops : List ℕ) (address : ℕ) where
  nine : Within rec.width most → address < 2 ^ rec.width → BitmapDamage rec rows hops address → BitmapTested most rec rows hops address 9
  nine w a d = passes (within_not w) (passes (λ g. omega arith) (fails d))

  none : {is : List ℕ} {b : Best} → BitmapPassed most rec (row_room rows) (length hops) address → OnWay rec rows address is b → InCount b rec.hops
      → BitmapTested most rec rows hops address 0
  none p o c = passes (within_not p.width) (passes (λ g. omega (arith, p.inside)) (passes (sound o c) refl))
    where
      sound : {is : List ℕ} {b : Best} → OnWay rec rows address is b → InCount b rec.hops → BitmapDamage rec rows hops address → ⊥
      sound o c (rows_short s) = omega (arith, p.enough)
      sound o c (hops_short s) = omega (arith, p.hops_enough)
      sound (empty z) c (strays g q) = omega arith
      sound (empty z) c (no_hop g q h) = omega arith
      sound (visited h v) c (strays g q) = true≢false (way_unique v q).2
      sound {b = None} (visited h v) c (no_hop g q l) = omega (arith, ap placed (way_unique v q).1)
      sound {b = Some w} (visited h v) c (no_hop g q l) = omega (arith, ap placed (way_unique v q).1)

  -- a refusal by the first test that fails is allowed; and so is what the way says, where none fails
  refused_looked : {n : ℕ} → BitmapTested most rec rows hops address n → 0 < n → LookedBitmap most rec rows hops address (Refused n)
  refused_looked t h = record { tested = t; told = λ z. absurd (omega arith); case = h }

  accepted_looked : (len : ℕ) {is : List ℕ} {b : Best} → BitmapTested most rec rows hops address 0 → OnWay rec rows address is b
      → cond (eqb (winning_hop hops b) 0) 0 len ≡ winning_length rec.width hops b
      → LookedBitmap most rec rows hops address (answer (winning_hop hops b) len (length is))
  accepted_looked len {is} {b} t o e =
      let h = winning_hop hops b in
      record {
        tested = rw (answer_number h len (length is)) t;
        told = λ z. (is, b, o, answer_hop h len (length is), ap (λ (n : AnswerNumbers). n.length) (sym (answer_has_numbers h len (length is))) ∙ e, answer_reads h len (length is));
        case = answer_case h len (length is);
      }

  -- past the tests, what the supernodes visited say is allowed
  past_tests : BitmapPassed most rec (row_room rows) (length hops) address
      → LookedBitmap most rec rows hops address (tell_visited rec.width rec.hops (at hops) 0 (visited_by rec rows address))
  unfolding tell_visited tell_best visited_by
  past_tests p = go (eqb rec.supernodes 0) refl
    where
      wins : (is : List ℕ) (b : Best) → 0 < rec.supernodes → FromFirst rec rows address is b true
          → LookedBitmap most rec rows hops address (tell_best rec.width rec.hops (at hops) b (length is))
      wins is None g w = accepted_looked 0 (none p (visited g w) tt) (visited g w) refl
      wins is (Some b) g w = hop (leb rec.hops b.place) refl
        where
          hop : (t : Bool) → leb rec.hops b.place ≡ t
              → LookedBitmap most rec rows hops address (cond t (Refused 9) (answer (at hops b.place) (rec.width - b.left) (length is)))
          hop true e = refused_looked (nine p.width p.inside (no_hop g w (leb-true _ _ e))) (omega arith)
          hop false e = accepted_looked (rec.width - b.left) {b = Some b} (none p (visited g w) (leb-false _ _ e)) (visited g w) refl

      along : (v : Visited) → 0 < rec.supernodes → FromFirst rec rows address v.numbers v.best v.whole
          → LookedBitmap most rec rows hops address (cond v.whole (tell_best rec.width rec.hops (at hops) v.best (0 + length v.numbers)) (Refused 9))
      along v g w = whole v.whole w
        where
          whole : (t : Bool) → FromFirst rec rows address v.numbers v.best t
              → LookedBitmap most rec rows hops address (cond t (tell_best rec.width rec.hops (at hops) v.best (0 + length v.numbers)) (Refused 9))
          whole true w = rw (zero-add (length v.numbers)) (wins v.numbers v.best g w)
          whole false w = refused_looked (nine p.width p.inside (strays g w)) (omega arith)

      go : (z : Bool) → eqb rec.supernodes 0 ≡ z
          → LookedBitmap most rec rows hops address (tell_visited rec.width rec.hops (at hops) 0 (cond z (arrived None) (from_first rec rows address)))
      go true e = let z = eqb-true _ _ e in accepted_looked 0 (none p (empty z) tt) (empty z) refl
      go false e = along _ (omega (arith, eqb-false rec.supernodes 0 e)) (visit_way _ _ _ (rec.width / STEP) _ _ _ refl)

  -- the lookup's answer is allowed
  pub looked_bitmap : LookedBitmap most rec rows hops address (lookup_bitmap_of most rec rows hops address)
  unfolding lookup_bitmap_of
  looked_bitmap =
      bitmap_refusal_cases most rec (row_room rows) (length hops) address
      (λ (n : ℕ). LookedBitmap most rec rows hops address (cond (eqb n 0) (tell_visited rec.width rec.hops (at hops) 0 (visited_by rec rows address)) (Refused n)))
      (λ o. refused_looked (fails o) (omega arith))
      (λ w o. refused_looked (passes (within_not w) (fails o)) (omega arith))
      (λ w a d. refused_looked (nine w a (⊎_elim rows_short hops_short d)) (omega arith))
      past_tests

  -- the promise's two clauses, from the first: in numbers, and as an answer
  pub promised_bitmap_numbers : {r : AnswerNumbers} → r ≡ answer_numbers (lookup_bitmap_of most rec rows hops address)
      → (r ≡ answer_numbers (lookup_bitmap_of most rec rows hops address)) × Told (LookedBitmap most rec rows hops address) answer_numbers r
  promised_bitmap_numbers e = (e, (lookup_bitmap_of most rec rows hops address, looked_bitmap, e))

  pub promised_bitmap : {a : Answer} → a ≡ lookup_bitmap_of most rec rows hops address
      → (a ≡ lookup_bitmap_of most rec rows hops address) × LookedBitmap most rec rows hops address a
  promised_bitmap e = (e, rw e looked_bitmap)

  -- where the tests pass and the way comes to its end with its winner below the count, the answer is what it says
  pub way_answer : {is : List ℕ} {b : Best} → BitmapPassed most rec (row_room rows) (length hops) address → OnWay rec rows address is b
      → InCount b rec.hops → lookup_bitmap_of most rec rows hops address ≡ answer (winning_hop hops b) (winning_length rec.width hops b) (length is)
  way_answer {b = b} p o c = looked_bitmap_unique looked_bitmap (accepted_looked (winning_length rec.width hops b) (none p o c) o (once b))
    where
      twice : (z : Bool) (x : ℕ) → cond z 0 (cond z 0 x) ≡ cond z 0 x
      twice true x = refl
      twice false x = refl

      once : (b : Best) → cond (eqb (winning_hop hops b) 0) 0 (winning_length rec.width hops b) ≡ winning_length rec.width hops b
      once None = refl
      once (Some w) = twice (eqb (at hops w.place) 0) (rec.width - w.left)
