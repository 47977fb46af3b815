-- One lookup more is written at the next index: what was told stays, and later places are kept.
use mathlib.Core.Path.{◌≡◌, refl, sym, subst, ◌∙◌}
use mathlib.Core.List.{List}
use Prim.Native.Nat.{ℕ, ◌+◌, ◌<◌}
use native.Mathlib.Omega.{arith}
use borrow.Author.Count.{below_more}
use lib.ListN.{length, length-set}
use lib.Seq.{get_or-set_same, get_or-set_other}
use Rattle.table.specs.Table.{at}
use Rattle.walk.specs.Limits.{WIDTH}
use Rattle.walk.specs.Rows.{Lists}
use Rattle.walk.specs.Meaning.{Looked}
use Rattle.walk.specs.declared.record.Record.{Record}
use Rattle.walk.specs.Cases.{Answer}
use Rattle.table.specs.Answers.{Told}
use Rattle.walk.specs.Answers.{answer_numbers}
use Rattle.gateway.specs.Batch.{Columns, answer_at, put_answer, ExactAnswer, BatchWritten}
use Rattle.walk.specs.declared.numbers.AnswerNumbers.{AnswerNumbers}

-- both clauses of the lookup's promise
abbrev pub Promised : Record → Lists → (address : ℕ) → Answer → Type 0
Promised rec ls address a = ExactAnswer rec ls address a × Looked WIDTH rec ls address a

found_same : {a a' b b' c c' d d' : ℕ} → a ≡ a' → b ≡ b' → c ≡ c' → d ≡ d'
    → ◌≡◌ {A = AnswerNumbers} (record { number = a; hop = b; length = c; reads = d }) (record { number = a'; hop = b'; length = c'; reads = d' })
found_same p q r s = rw (p, q, r, s)

-- all answer lists have the index
pub record HasPlace (cs : Columns) (i : ℕ) : Type 0 where
  pub number : i < length cs.number
  pub hop : i < length cs.hop
  pub len : i < length cs.len
  pub reads : i < length cs.reads

put_here : (cs : Columns) (i : ℕ) (f : AnswerNumbers) → HasPlace cs i → answer_at (put_answer cs i f) i ≡ f
put_here cs i f h =
    found_same
    (get_or-set_same cs.number i f.number 0 h.number)
    (get_or-set_same cs.hop i f.hop 0 h.hop)
    (get_or-set_same cs.len i f.length 0 h.len)
    (get_or-set_same cs.reads i f.reads 0 h.reads)

put_elsewhere : (cs : Columns) (i k : ℕ) (f : AnswerNumbers) → (k ≡ i → ⊥) → answer_at (put_answer cs i f) k ≡ answer_at cs k
put_elsewhere cs i k f ne =
    found_same
    (get_or-set_other cs.number i k f.number 0 ne)
    (get_or-set_other cs.hop i k f.hop 0 ne)
    (get_or-set_other cs.len i k f.length 0 ne)
    (get_or-set_other cs.reads i k f.reads 0 ne)

module _ {Allows : (address : ℕ) → Answer → Type 0} {xs : List ℕ} {cs : Columns} where
  pub written_none : BatchWritten Allows xs cs cs 0
  written_none = record { told = λ i h. absurd (omega arith); later = λ i h. refl; numbers = refl; hops = refl; lens = refl; counts = refl }

  written_more : {now : Columns} {i : ℕ} {f : AnswerNumbers} → BatchWritten Allows xs cs now i
      → HasPlace now i → Told (Allows (at xs i)) answer_numbers f → BatchWritten Allows xs cs (put_answer now i f) (i + 1)
  written_more {now} {i} {f} w fits t = record {
    told = below_more (λ (k : ℕ). Told (Allows (at xs k)) answer_numbers (answer_at (put_answer now i f) k)) i
        (λ k h. let u = w.told k h in (u.0, u.1, put_elsewhere now i k f (λ e. omega arith) ∙ u.2))
        (t.0, t.1, put_here now i f fits ∙ t.2);
    later = λ k h. put_elsewhere now i k f (λ e. omega arith) ∙ w.later k (omega arith);
    numbers = length-set now.number i f.number ∙ w.numbers;
    hops = length-set now.hop i f.hop ∙ w.hops;
    lens = length-set now.len i f.length ∙ w.lens;
    counts = length-set now.reads i f.reads ∙ w.counts;
  }

  -- the same of lists that hold what was put
  pub written_put : {now next : Columns} {i : ℕ} {f : AnswerNumbers} → next ≡ put_answer now i f → BatchWritten Allows xs cs now i
      → HasPlace now i → Told (Allows (at xs i)) answer_numbers f → BatchWritten Allows xs cs next (i + 1)
  written_put {i = i} e w fits t = subst (λ (n : Columns). BatchWritten Allows xs cs n (i + 1)) (sym e) (written_more w fits t)

-- what is written by a promise is written by one that follows from it
pub written_by : {Allows Also : (address : ℕ) → Answer → Type 0} {xs : List ℕ} {cs cs' : Columns} {n : ℕ}
    → ((x : ℕ) (a : Answer) → Allows x a → Also x a) → BatchWritten Allows xs cs cs' n → BatchWritten Also xs cs cs' n
written_by {xs = xs} f w = record {
  told = λ i h. let u = w.told i h in (u.0, f (at xs i) u.0 u.1, u.2);
  later = w.later;
  numbers = w.numbers;
  hops = w.hops;
  lens = w.lens;
  counts = w.counts;
}
