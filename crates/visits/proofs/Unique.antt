-- One lookup, one answer: two answers that the promise's meaning allows are equal. From the meaning alone; nothing here knows how an
-- answer is computed.
use Prim.Native.Nat.{ℕ, suc, ◌+◌, ◌-◌, ◌≤◌}
use mathlib.Core.Path.{◌≡◌, refl, sym, ap, subst, ◌∙◌}
use mathlib.Core.Bool.{Bool}
use mathlib.Core.List.{List, ◌∷◌}
use native.Mathlib.Omega.{arith}
use native.Mathlib.Decide.{dec_le}
use lib.ListN.{length}
use Rattle.walk.specs.Cases.{Answer}
use Rattle.walk.specs.declared.numbers.AnswerNumbers.{AnswerNumbers}
use Rattle.table.specs.Answers.{Told}
use Rattle.walk.specs.Answers.{number_of, hop_of, length_of, reads_of, answer_numbers}
use Rattle.table.proofs.Unique.{told_unique}
use Rattle.walk.proofs.Answers.{refused_none, answer_unique}
use Rattle.walk.proofs.Unique.{test_unique}
use Rattle.pieces.specs.Maps.{STEP, place_on}
use Rattle.pieces.specs.Rows.{SupernodeRow}
use Rattle.pieces.specs.Cuts.{path_at, ones_before, child_at, IsLongest}
use Rattle.pieces.proofs.Places.{true_false}
use Rattle.visits.specs.Winner.{Best}
use Rattle.visits.specs.Winner.{won}
use Rattle.visits.specs.declared.record.Bitmap.{Bitmap}
use Rattle.visits.specs.Rows.{RowLists}
use Rattle.visits.specs.Meaning.{After, kept, newest, Way, past, last, above, on}
use Rattle.visits.specs.Meaning.{OnWay, empty, visited, winning_hop, winning_length, BitmapTested, LookedBitmap}

-- one level is the longest
longest_one : (map p left i j : ℕ) → IsLongest map p left i → IsLongest map p left j → i ≡ j
longest_one map p left i j a b = go (dec_le (suc i) j) (dec_le (suc j) i)
  where
    go : Dec (suc i ≤ j) → Dec (suc j ≤ i) → i ≡ j
    go (yes l) m = absurd (true_false (a.longest j l b.within) b.set)
    go (no l) (yes m) = absurd (true_false (b.longest i m a.within) a.set)
    go (no l) (no m) = omega arith

pub after_unique : {row : SupernodeRow} {p left : ℕ} {best b c : Best} → After row p left best b → After row p left best c → b ≡ c
after_unique (kept f) (kept g) = refl
after_unique (kept f) (newest j g) = absurd (true_false (f j g.within) g.set)
after_unique (newest i f) (kept g) = absurd (true_false (g i f.within) f.set)
after_unique {row = row} {p = p} {left = left} (newest i f) (newest j g) =
    ap (λ (k : ℕ). won (row.first_hop + ones_before row.internal (place_on p k)) (left - k)) (longest_one row.internal p left i j f g)

-- one way starts at a supernode
pub way_unique : {count address : ℕ} {row : ℕ → SupernodeRow} {i left : ℕ} {b c c' : Best} {is is' : List ℕ} {w w' : Bool}
    → Way count address row i left b is c w → Way count address row i left b is' c' w' → (is ≡ is') × (c ≡ c') × (w ≡ w')
way_unique (past h) (past g) = (refl, refl, refl)
way_unique (past h) (last g a s) = absurd (omega arith)
way_unique (past h) (above g a s l) = absurd (omega arith)
way_unique (past h) (on g a s l p) = absurd (omega arith)
way_unique (last h a s) (past g) = absurd (omega arith)
way_unique (last h a s) (last g a' s') = (refl, after_unique a a', refl)
way_unique (last h a s) (above g a' s' l) = absurd (true_false s s')
way_unique (last h a s) (on g a' s' l p) = absurd (true_false s s')
way_unique (above h a s l) (past g) = absurd (omega arith)
way_unique (above h a s l) (last g a' s') = absurd (true_false s' s)
way_unique (above h a s l) (above g a' s' l') = (refl, after_unique a a', refl)
way_unique (above h a s l) (on g a' s' l' p) = absurd (omega arith)
way_unique (on h a s l p) (past g) = absurd (omega arith)
way_unique (on h a s l p) (last g a' s') = absurd (true_false s' s)
way_unique (on h a s l p) (above g a' s' l') = absurd (omega arith)
way_unique {count} {address} {row} {i} {left} (on h a s l p) (on {e = e'} {is = is'} {w = w'} g a' s' l' p') =
    let same : Way count address row (child_at (row i) (path_at address left)) (left - STEP) _ is' e' w' =
    subst (λ (x : Best). Way count address row (child_at (row i) (path_at address left)) (left - STEP) x is' e' w') (sym (after_unique a a')) p' in
    let u = way_unique p same in
    (ap (λ (q : List ℕ). i ∷ q) u.0, u.1, u.2)

module _ {rec : Bitmap} {rows : RowLists} {address : ℕ} where
  -- one list of supernodes is on the path, with one winner
  pub on_way_unique : {is is' : List ℕ} {b b' : Best} → OnWay rec rows address is b → OnWay rec rows address is' b' → (is ≡ is') × (b ≡ b')
  on_way_unique (empty z) (empty y) = (refl, refl)
  on_way_unique (empty z) (visited g p) = absurd (omega arith)
  on_way_unique (visited g p) (empty y) = absurd (omega arith)
  on_way_unique (visited g p) (visited h q) = let u = way_unique p q in (u.0, u.1)

module _ {most : ℕ} {rec : Bitmap} {rows : RowLists} {hops : List ℕ} {address : ℕ} where
  pub bitmap_tested_unique : {n m : ℕ} → BitmapTested most rec rows hops address n → BitmapTested most rec rows hops address m → n ≡ m
  bitmap_tested_unique = test_unique (λ i j. test_unique (λ i j. test_unique (λ i j p q. p ∙ sym q)))

  same_told : {a b : Answer} → LookedBitmap most rec rows hops address a → LookedBitmap most rec rows hops address b → number_of a ≡ number_of b
      → (hop_of a ≡ hop_of b) × (length_of a ≡ length_of b) × (reads_of a ≡ reads_of b)
  same_told {a} {b} l m e = elim (dec_le (number_of a) 0) [
    | yes z ↦
        let p = l.told (omega arith) in
        let q = m.told (omega arith) in
        let one = on_way_unique p.2 q.2 in
        (p.3 ∙ ap (winning_hop hops) one.1 ∙ sym q.3, p.4 ∙ ap (winning_length rec.width hops) one.1 ∙ sym q.4, p.5 ∙ ap length one.0 ∙ sym q.5)
    | no z ↦
        let p = refused_none a (omega arith) in
        let q = refused_none b (omega arith) in
        (p.0 ∙ sym q.0, p.1 ∙ sym q.1, p.2 ∙ sym q.2)
  ]

  -- one answer is allowed
  pub looked_bitmap_unique : {a b : Answer} → LookedBitmap most rec rows hops address a → LookedBitmap most rec rows hops address b → a ≡ b
  looked_bitmap_unique {a} {b} l m =
      let n : number_of a ≡ number_of b = bitmap_tested_unique l.tested m.tested in
      let s = same_told l m n in
      answer_unique a b n s.0 s.1 s.2 l.case m.case

  -- and so one is told in numbers
  pub lookup_bitmap_unique : {r r' : AnswerNumbers}
      → Told (LookedBitmap most rec rows hops address) answer_numbers r → Told (LookedBitmap most rec rows hops address) answer_numbers r' → r ≡ r'
  lookup_bitmap_unique = told_unique (λ a b p q. looked_bitmap_unique p q)
