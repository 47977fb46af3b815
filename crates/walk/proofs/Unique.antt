-- One lookup, one answer: two answers that the promise's meaning allows are equal. From the meaning alone; nothing here
-- knows how an answer is computed.
use Prim.Native.Nat.{ℕ}
use mathlib.Core.Path.{◌≡◌, refl, sym, ap, ◌∙◌}
use mathlib.Core.Bool.{Bool}
use mathlib.Core.List.{List, ◌∷◌}
use native.Mathlib.Omega.{arith}
use native.Mathlib.Decide.{dec_le}
use lib.ListN.{length}
use Rattle.walk.specs.declared.record.Record.{Record}
use Rattle.walk.specs.Cases.{Answer}
use Rattle.walk.specs.Refusals.{RefuseBy, fails, passes}
use Rattle.walk.specs.Rows.{Row, Lists, row_at, row_of}
use Rattle.walk.specs.declared.numbers.AnswerNumbers.{AnswerNumbers}
use Rattle.table.specs.Answers.{Told}
use Rattle.walk.specs.Answers.{number_of, hop_of, length_of, reads_of, HopLength, floor_best, latest, answer_numbers}
use Rattle.walk.specs.Meaning.{Readable, Damaged, no_stride, too_wide, past_end, Path, spent, damaged, last, on, OnPath, empty, walked, Tested, Looked}
use Rattle.table.proofs.Unique.{told_unique}
use Rattle.walk.proofs.Answers.{refused_none, answer_unique}

-- one test is the first that fails
pub test_unique : {number : ℕ} {Fails : Type 0} {Rest : ℕ → Type 0} {n m : ℕ} → ((i j : ℕ) → Rest i → Rest j → i ≡ j)
    → RefuseBy number Fails Rest n → RefuseBy number Fails Rest m → n ≡ m
test_unique u (fails f) (fails g) = refl
test_unique u (fails f) (passes h q) = absurd (h f)
test_unique u (passes h p) (fails g) = absurd (h g)
test_unique u (passes h p) (passes k q) = u _ _ p q

-- a block is readable or damaged
pub not_both : {e address base s left : ℕ} → Readable e address base s left → Damaged e address base s left → ⊥
not_both h (no_stride d) = omega (arith, h.stride)
not_both h (too_wide d) = omega (arith, h.fits)
not_both h (past_end d) = omega (arith, h.within)

-- one path starts at a block
pub path_unique : {e address : ℕ} {at : ℕ → Row} {k base s left : ℕ} {rs rs' : List ℕ} {w w' : Bool}
    → Path e address at k base s left rs w → Path e address at k base s left rs' w' → (rs ≡ rs') × (w ≡ w')
path_unique spent spent = (refl, refl)
path_unique spent (damaged d) = (refl, refl)
path_unique (damaged d) spent = (refl, refl)
path_unique (damaged d) (damaged c) = (refl, refl)
path_unique (damaged d) (last h z) = absurd (not_both h d)
path_unique (damaged d) (on h z p) = absurd (not_both h d)
path_unique (last h z) (damaged d) = absurd (not_both h d)
path_unique (last h z) (last g y) = (refl, refl)
path_unique (last h z) (on g y q) = absurd (omega arith)
path_unique (on h z p) (damaged d) = absurd (not_both h d)
path_unique (on h z p) (last g y) = absurd (omega arith)
path_unique {address = address} {base = base} {s = s} {left = left} (on h z p) (on g y q) =
    let u = path_unique p q in (ap (λ (rs : List ℕ). row_of address base s left ∷ rs) u.0, u.1)

-- one list of rows is on the path
pub on_path_unique : {rec : Record} {ls : Lists} {address : ℕ} {rs rs' : List ℕ} → OnPath rec ls address rs → OnPath rec ls address rs' → rs ≡ rs'
on_path_unique (empty z) (empty y) = refl
on_path_unique (empty z) (walked g p) = absurd (omega arith)
on_path_unique (walked g p) (empty y) = absurd (omega arith)
on_path_unique (walked g p) (walked h q) = (path_unique p q).0

module _ {most : ℕ} {rec : Record} {ls : Lists} {address : ℕ} where
  pub tested_unique : {n m : ℕ} → Tested most rec ls address n → Tested most rec ls address m → n ≡ m
  tested_unique = test_unique (λ i j. test_unique (λ i j. test_unique (λ i j. test_unique (λ i j p q. p ∙ sym q))))

  same_told : {a b : Answer} → Looked most rec ls address a → Looked most rec ls address b → number_of a ≡ number_of b
      → (hop_of a ≡ hop_of b) × (length_of a ≡ length_of b) × (reads_of a ≡ reads_of b)
  same_told {a} {b} l m e = elim (dec_le (number_of a) 0) [
    | yes z ↦
        let p = l.told (omega arith) in
        let q = m.told (omega arith) in
        let one = on_path_unique p.1 q.1 in
        let best = ap (latest (row_at ls) (floor_best rec.floor)) one in
        let s = p.2 in
        let t = q.2 in
        (s.0 ∙ ap (λ (b : HopLength). b.hop) best ∙ sym t.0, s.1 ∙ ap (λ (b : HopLength). b.len) best ∙ sym t.1, s.2 ∙ ap length one ∙ sym t.2)
    | no z ↦
        let p = refused_none a (omega arith) in
        let q = refused_none b (omega arith) in
        (p.0 ∙ sym q.0, p.1 ∙ sym q.1, p.2 ∙ sym q.2)
  ]

  -- one answer is allowed
  pub looked_unique : {a b : Answer} → Looked most rec ls address a → Looked most rec ls address b → a ≡ b
  looked_unique {a} {b} l m =
      let n : number_of a ≡ number_of b = tested_unique l.tested m.tested in
      let s = same_told l m n in
      answer_unique a b n s.0 s.1 s.2 l.case m.case

  -- and so one is told in numbers
  pub lookup_unique : {r r' : AnswerNumbers}
      → Told (Looked most rec ls address) answer_numbers r → Told (Looked most rec ls address) answer_numbers r' → r ≡ r'
  lookup_unique = told_unique (λ a b p q. looked_unique p q)
