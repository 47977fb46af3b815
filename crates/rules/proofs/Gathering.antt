-- One rule more for the distinct destinations; and what is gathered is the table of destinations.
use mathlib.Core.Path.{◌≡◌, refl, sym, ap, ◌∙◌}
use mathlib.Core.Bool.{true, not}
use mathlib.Core.List.{List}
use Prim.Native.Nat.{ℕ, zero, suc, ◌+◌, ◌-◌, ◌≤◌, ◌<◌}
use native.Mathlib.Omega.{arith}
use native.Mathlib.Numerals.{add-one}
use lib.Dec.{eqb}
use lib.ListN.{length, take, set}
use lib.Seq.{get_or-set_same, get_or-set_other}
use borrow.Author.Tests.{eq-eqb, ne_eqb}
use Rattle.table.specs.Table.{at}
use Rattle.table.specs.Lists.{listed}
use Rattle.table.proofs.Lists.{listed_more, listed_same}
use Rattle.fields.specs.Rules.{Rules}
use Rattle.fields.specs.Runs.{Runs, begins_run, trie_table}
use Rattle.fields.proofs.Runs.{runs_none, runs_same, runs_new}
use Rattle.rules.specs.Gathering.{Gathered, Taken, new_run, same_run}

-- ---- whether a run begins

module _ (val len : ℕ → ℕ) where
  pub begins_first : (i : ℕ) → i ≡ 0 → true ≡ begins_run val len i
  unfolding begins_run
  begins_first zero z = refl
  begins_first (suc i) z = absurd (omega arith)

  pub begins_value : (i : ℕ) → (i ≡ 0 → ⊥) → (val (i - 1) ≡ val i → ⊥) → true ≡ begins_run val len i
  unfolding begins_run
  begins_value zero z v = absurd (z refl)
  begins_value (suc i) z v =
      let e : suc i - 1 ≡ i = omega arith in
      rw (ne_eqb (val i) (val (suc i)) (λ (x : val i ≡ val (suc i)). v (ap val e ∙ x)))

  pub begins_length : (i : ℕ) → (i ≡ 0 → ⊥) → val (i - 1) ≡ val i → not (eqb (len (i - 1)) (len i)) ≡ begins_run val len i
  unfolding begins_run
  begins_length zero z v = absurd (z refl)
  begins_length (suc i) z v = let e : suc i - 1 ≡ i = omega arith in rw (e, eq-eqb (val i) (val (suc i)) (rw e at v))

-- ---- one rule more

pub gathered_none : (dvals dlens first vals lens nums : List ℕ) → at first 0 ≡ 0 → Gathered dvals dlens 0 0 first vals lens nums
unfolding listed
gathered_none dvals dlens first vals lens nums e =
    record { runs = runs_none (at dvals) (at dlens) (at first) e; few = omega arith; values = refl; lengths = refl; numbers = refl }

-- (the code counts by `+ 1`, the laws of runs by `suc`)
counted : {val len : ℕ → ℕ} {n m : ℕ} {from : ℕ → ℕ} (n' m' : ℕ) → n' ≡ n → m' ≡ m → Runs val len n m from → Runs val len n' m' from
counted n' m' p q r = rw (p, q) r

-- the destination of rule i is taken, and the place after the last run is moved on
pub gathered_more : {dvals dlens : List ℕ} {i m : ℕ} {first vals lens nums : List ℕ} {m' : ℕ} {vals' lens' nums' : List ℕ}
    → Gathered dvals dlens i m first vals lens nums → Taken dvals dlens i m vals lens nums m' vals' lens' nums'
    → (m < length vals) × (m < length lens) × (m < length nums) → i + 1 < length first → Gathered dvals dlens (i + 1) m' (set first m' (i + 1)) vals' lens' nums'
gathered_more {dvals} {dlens} {i} {m} {first} r (same_run b em ev el en) room long = rw (em, ev, el, en) (record {
  runs = counted (i + 1) m (add-one i) refl (runs_same r.runs (at (set first m (i + 1))) b kept (here ∙ add-one i));
  few = omega (arith, r.few);
  values = r.values ∙ listed_same _ _ m (λ g h. ap (at dvals) (sym (kept g h)));
  lengths = r.lengths ∙ listed_same _ _ m (λ g h. ap (at dlens) (sym (kept g h)));
  numbers = r.numbers;
})
  where
    kept : (g : ℕ) → g < m → at (set first m (i + 1)) g ≡ at first g
    kept g h = get_or-set_other first m g (i + 1) 0 (λ e. omega arith)

    here : at (set first m (i + 1)) m ≡ i + 1
    here = get_or-set_same first m (i + 1) 0 (omega (arith, r.few))
gathered_more {dvals} {dlens} {i} {m} {first} {vals} {lens} {nums} r (new_run b em ev el en) room long = rw (em, ev, el, en) (record {
  runs = counted (i + 1) (m + 1) (add-one i) (add-one m)
      (runs_new r.runs (at (set first (m + 1) (i + 1))) b kept (ap (at (set first (m + 1) (i + 1))) (sym (add-one m)) ∙ here ∙ add-one i));
  few = omega (arith, r.few);
  values = column vals (at dvals) room.0 r.values;
  lengths = column lens (at dlens) room.1 r.lengths;
  numbers = listed_more suc nums m (m + 1) room.2 r.numbers (add-one m);
})
  where
    kept : (g : ℕ) → g ≤ m → at (set first (m + 1) (i + 1)) g ≡ at first g
    kept g h = get_or-set_other first (m + 1) g (i + 1) 0 (λ e. omega arith)

    here : at (set first (m + 1) (i + 1)) (m + 1) ≡ i + 1
    here = get_or-set_same first (m + 1) (i + 1) 0 (omega (arith, r.few))

    column : (xs : List ℕ) (f : ℕ → ℕ) → m < length xs → take m xs ≡ listed (λ g. f (at first g)) m
        → take (m + 1) (set xs m (f i)) ≡ listed (λ g. f (at (set first (m + 1) (i + 1)) g)) (m + 1)
    column xs f h e =
        listed_more (λ g. f (at (set first (m + 1) (i + 1)) g)) xs m (f i) h (e ∙ listed_same _ _ m (λ g l. ap f (sym (kept g (omega arith)))))
        (ap f (sym (kept m (omega arith) ∙ r.runs.last)))

-- ---- what is gathered is the table of destinations

module _ (rs : Rules) {n m : ℕ} {first vals lens nums : List ℕ} (r : Gathered rs.dvals rs.dlens n m first vals lens nums) where
  pub gathered_values : take m vals ≡ (trie_table rs m (at first) 0).vals
  unfolding trie_table
  gathered_values = r.values

  pub gathered_lengths : take m lens ≡ (trie_table rs m (at first) 0).lens
  unfolding trie_table
  gathered_lengths = r.lengths

  pub gathered_numbers : take m nums ≡ (trie_table rs m (at first) 0).hops
  unfolding trie_table
  gathered_numbers = r.numbers
