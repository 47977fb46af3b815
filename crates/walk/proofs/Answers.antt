-- An answer is its number, hop, length and reads, and the case that they make.
use Prim.Native.Nat.{ℕ, ◌/◌, ◌%◌, ◌<◌}
use mathlib.Core.Path.{◌≡◌, refl, sym, ap, ◌∙◌}
use mathlib.Core.Bool.{Bool, true, false, cond}
use mathlib.Core.List.{List, [], ◌∷◌}
use mathlib.Core.Logic.{◌↔◌}
use native.Mathlib.Omega.{arith}
use native.Mathlib.Nat.{pos_of_ne-zero}
use native.Mathlib.Decide.{dec_le}
use lib.Dec.{eqb}
use borrow.Author.Tests.{eqb-true, eqb-false, ne_eqb}
use Rattle.table.specs.Limits.{discard_hop}
use Rattle.walk.specs.Cases.{Answer}
use Rattle.walk.specs.Cases.{Match, Discard, NoRoute, Refused}
use Rattle.walk.specs.declared.numbers.AnswerNumbers.{AnswerNumbers}
use Rattle.walk.specs.Rows.{Row}
use Rattle.walk.specs.Answers.{number_of, hop_of, length_of, reads_of, Case, HopLength, floor_best, row_best, new_best, latest, answer, answer_numbers, answer_of}
use Rattle.walk.specs.Limits.{HOPS}
use Rattle.walk.specs.Packed.{packed, unpacked, NoHopNoLength}

-- ---- the best
-- with no hop there is no length
new_best_no_hop : (row : Row) (best : HopLength) → NoHopNoLength best → NoHopNoLength (new_best row best)
unfolding new_best
new_best_no_hop row best n = go (eqb row.hop 0) refl
  where
    go : (z : Bool) → eqb row.hop 0 ≡ z → NoHopNoLength (cond z best (row_best row))
    go true e h = n h
    go false e h = absurd (eqb-false row.hop 0 e h)

-- the best that the code keeps after a row is the rule's
pub packed_best : (row : Row) (best : ℕ) {b : ℕ} → row.hop < HOPS → b ≡ cond (eqb row.hop 0) best (packed row.hop row.len)
    → unpacked b ≡ new_best row (unpacked best)
unfolding new_best
packed_best row best {b} h e = rw e (go (eqb row.hop 0))
  where
    go : (z : Bool) → unpacked (cond z best (packed row.hop row.len)) ≡ cond z (unpacked best) (row_best row)
    go true = refl
    go false = let p : packed row.hop row.len % HOPS ≡ row.hop = omega arith in let q : packed row.hop row.len / HOPS ≡ row.len = omega arith in rw (p, q) refl

pub packed_floor : (floor : ℕ) → floor < HOPS → unpacked floor ≡ floor_best floor
packed_floor floor h = let p : floor % HOPS ≡ floor = omega arith in let q : floor / HOPS ≡ 0 = omega arith in rw (p, q) refl

pub latest_no_hop : (at : ℕ → Row) (best : HopLength) (rs : List ℕ) → NoHopNoLength best → NoHopNoLength (latest at best rs)
unfolding latest
latest_no_hop at best [] n = n
latest_no_hop at best (r ∷ rs) n = latest_no_hop at (new_best (at r) best) rs (new_best_no_hop (at r) best n)

-- ---- the answer
-- what `answer` makes is accepted, has the hop and the reads that it was made of, its length where there is a hop, and is of the right case
answer_parts : (hop len reads : ℕ) → let a = answer hop len reads in
    (number_of a ≡ 0) × (hop_of a ≡ hop) × (length_of a ≡ cond (eqb hop 0) 0 len) × (reads_of a ≡ reads) × Case a
unfolding answer
answer_parts hop len reads = go (eqb hop 0) refl (eqb hop discard_hop) refl
  where
    go : (z : Bool) → eqb hop 0 ≡ z → (d : Bool) → eqb hop discard_hop ≡ d
        → let a = cond z (NoRoute reads) (cond d (Discard len reads) (Match hop len reads)) in
        (number_of a ≡ 0) × (hop_of a ≡ hop) × (length_of a ≡ cond z 0 len) × (reads_of a ≡ reads) × Case a
    go true e d f = (refl, sym (eqb-true _ _ e), refl, refl, tt)
    go false e true f = (refl, sym (eqb-true _ _ f), refl, refl, tt)
    go false e false f = (refl, refl, refl, refl, (pos_of_ne-zero (eqb-false _ _ e), eqb-false _ _ f))

pub answer_number : (hop len reads : ℕ) → number_of (answer hop len reads) ≡ 0
answer_number hop len reads = (answer_parts hop len reads).0

pub answer_hop : (hop len reads : ℕ) → hop_of (answer hop len reads) ≡ hop
answer_hop hop len reads = (answer_parts hop len reads).1

pub answer_reads : (hop len reads : ℕ) → reads_of (answer hop len reads) ≡ reads
answer_reads hop len reads = (answer_parts hop len reads).3

pub answer_case : (hop len reads : ℕ) → Case (answer hop len reads)
answer_case hop len reads = (answer_parts hop len reads).4

-- and the length of a best that has none without a hop
pub answer_length : (b : HopLength) (reads : ℕ) → NoHopNoLength b → length_of (answer b.hop b.len reads) ≡ b.len
answer_length b reads n = (answer_parts b.hop b.len reads).2 ∙ go (eqb b.hop 0) refl
  where
    go : (z : Bool) → eqb b.hop 0 ≡ z → cond z 0 b.len ≡ b.len
    go true e = sym (n (eqb-true _ _ e))
    go false e = refl

-- so its numbers are those
pub answer_has_numbers : (hop len reads : ℕ)
    → ◌≡◌ {A = AnswerNumbers} (record { number = 0; hop = hop; length = cond (eqb hop 0) 0 len; reads = reads }) (answer_numbers (answer hop len reads))
answer_has_numbers hop len reads = let p = answer_parts hop len reads in rw (p.0, p.1, p.2, p.3)

-- and of a best that has no length without a hop they are as it has them
pub best_has_numbers : (b : HopLength) (reads : ℕ) → NoHopNoLength b
    → ◌≡◌ {A = AnswerNumbers} (record { number = 0; hop = b.hop; length = b.len; reads = reads }) (answer_numbers (answer b.hop b.len reads))
best_has_numbers b reads n = let p = answer_parts b.hop b.len reads in rw (p.0, p.1, answer_length b reads n, p.3)

-- a refused lookup has no hop, no length and 0 reads
pub refused_none : (a : Answer) → 0 < number_of a → (hop_of a ≡ 0) × (length_of a ≡ 0) × (reads_of a ≡ 0)
refused_none (Match hop len reads) h = absurd (omega arith)
refused_none (Discard len reads) h = absurd (omega arith)
refused_none (NoRoute reads) h = absurd (omega arith)
refused_none (Refused number) h = (refl, refl, refl)

-- an accepted answer is the one of its hop, length and reads, a refused one that of its number
pub accepted_is : (a : Answer) → number_of a ≡ 0 → Case a → a ≡ answer (hop_of a) (length_of a) (reads_of a)
unfolding answer
accepted_is (Match h l r) z c = simp (ne_eqb h 0 (λ (e : h ≡ 0). omega (arith, c.0)), ne_eqb h discard_hop c.1)
accepted_is (Discard l r) z c = refl
accepted_is (NoRoute r) z c = refl
accepted_is (Refused n) z c = absurd (omega arith)

refusal_is : (a : Answer) → 0 < number_of a → a ≡ Refused (number_of a)
refusal_is (Match h l r) s = absurd (omega arith)
refusal_is (Discard l r) s = absurd (omega arith)
refusal_is (NoRoute r) s = absurd (omega arith)
refusal_is (Refused n) s = refl

-- so two answers of the same numbers and of their case are one
pub answer_unique : (a b : Answer) → number_of a ≡ number_of b → hop_of a ≡ hop_of b → length_of a ≡ length_of b → reads_of a ≡ reads_of b → Case a → Case b → a ≡ b
answer_unique a b n e l f c d = elim (dec_le (number_of a) 0) [
  | yes z ↦
      accepted_is a (omega arith) c
      ∙ ap (λ (h : ℕ). answer h (length_of a) (reads_of a)) e ∙ ap (λ (m : ℕ). answer (hop_of b) m (reads_of a)) l ∙ ap (answer (hop_of b) (length_of b)) f
      ∙ sym (accepted_is b (omega arith) d)
  | no s ↦ refusal_is a (omega arith) ∙ ap Refused n ∙ sym (refusal_is b (omega arith))
]

-- a discard is told from every other answer by its hop
pub discard_by_hop : (a : Answer) → Case a → (a ≡ Discard (length_of a) (reads_of a)) ↔ (hop_of a ≡ discard_hop)
discard_by_hop (Match h l r) c = (λ (e : Match h l r ≡ Discard l r). ap hop_of e, λ (e : h ≡ discard_hop). absurd (c.1 e))
discard_by_hop (Discard l r) c = (λ e. refl, λ e. refl)
discard_by_hop (NoRoute r) c = (λ (e : NoRoute r ≡ Discard 0 r). ap hop_of e, λ (e : 0 ≡ discard_hop). absurd (omega arith))
discard_by_hop (Refused n) c = (λ (e : Refused n ≡ Discard 0 0). ap hop_of e, λ (e : 0 ≡ discard_hop). absurd (omega arith))

-- the numbers of an answer say that answer
pub answer_again : (a : Answer) → Case a → answer_of (answer_numbers a) ≡ a
unfolding answer_of answer
answer_again (Match h l r) c = sym (accepted_is (Match h l r) refl c)
answer_again (Discard l r) c = refl
answer_again (NoRoute r) c = refl
answer_again (Refused n) c = simp (ne_eqb n 0 (λ (e : n ≡ 0). omega (arith, c)))
