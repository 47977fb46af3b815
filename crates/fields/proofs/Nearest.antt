-- In a list of prefixes that rises strictly, the longest one that is shorter than g and begins it is the last one before g that begins it.
-- (Prefix j begins prefix g where it matches g's value: `matches W val len (val g) j`.)
use mathlib.Core.Path.{◌≡◌, refl, sym, ap, ◌∙◌}
use mathlib.Core.Bool.{Bool, true, false, cond, true≢false}
use mathlib.Core.Logic.{⊎_elim}
use Prim.Native.Nat.{ℕ, zero, suc, ◌-◌, ◌≤◌, ◌<◌}
use native.Mathlib.Nat.{eq-or-lt_of_le, le_of_suc-le-suc, not-suc-le-zero}
use native.Mathlib.Decide.{dec_le}
use native.Mathlib.Omega.{arith}
use lib.Dec.{ltb}
use borrow.Author.Tests.{ltb-true, lt-ltb, eqb-true}
use Rattle.table.specs.Prefix.{start, starts_with}
use Rattle.table.specs.Longest.{matches, Wins, no_winner, some}
use Rattle.table.proofs.Bools.{and_true, and_both, true_or_false}
use Rattle.table.proofs.Starts.{start_less, start_least}
use Rattle.table.specs.Table.{Entry}
use Rattle.table.proofs.Table.{sorted, match_one}
use Rattle.table.proofs.Longest.{wins_unique}
use Rattle.fields.specs.Runs.{starts_shorter, last_before}

-- `last_before` as a statement
data Last (P : ℕ → Bool) (g : ℕ) : ℕ → Type 0 where
  no_one : ((k : ℕ) → k < g → P k ≡ false) → Last P g 0
  at_last : {j : ℕ} → j < g → P j ≡ true → ((k : ℕ) → j < k → k < g → P k ≡ false) → Last P g (suc j)

last_is : (P : ℕ → Bool) (g : ℕ) → Last P g (last_before P g)
unfolding last_before
last_is P zero = no_one (λ k h. absurd (not-suc-le-zero h))
last_is P (suc g) = go (P g) refl (last_before P g) (last_is P g)
  where
    more : {Q : ℕ → Type 0} → P g ≡ false → ((k : ℕ) → Q k → k < g → P k ≡ false) → (k : ℕ) → Q k → k < suc g → P k ≡ false
    more e old k q h = ⊎_elim (λ (z : k ≡ g). rw z e) (λ (z : k < g). old k q z) (eq-or-lt_of_le (le_of_suc-le-suc h))

    go : (t : Bool) → P g ≡ t → (b : ℕ) → Last P g b → Last P (suc g) (cond t (suc g) b)
    go true e b l = at_last {j = g} (omega arith) e (λ k a h. absurd (omega arith))
    go false e zero (no_one nil) = no_one (λ k h. more {Q = λ (x : ℕ). x < suc g} e (λ x q z. nil x z) k h h)
    go false e (suc j) (at_last h p nil) = at_last {j = j} (omega arith) p (λ k a z. more {Q = λ (x : ℕ). j < x} e nil k a z)

pub last_zero : (P : ℕ → Bool) (j : ℕ) → j ≡ 0 → last_before P j ≡ 0
unfolding last_before
last_zero P zero e = refl
last_zero P (suc j) e = absurd (omega arith)

-- one step down, where P holds and where it does not
pub last_here : (P : ℕ → Bool) (j : ℕ) → 0 < j → P (j - 1) ≡ true → last_before P j ≡ j
unfolding last_before
last_here P zero h e = absurd (not-suc-le-zero h)
last_here P (suc j) h e = let z : suc j - 1 ≡ j = omega arith in rw (rw z at e) refl

pub last_on : (P : ℕ → Bool) (j : ℕ) → 0 < j → P (j - 1) ≡ false → last_before P j ≡ last_before P (j - 1)
unfolding last_before
last_on P zero h e = absurd (not-suc-le-zero h)
last_on P (suc j) h e = let z : suc j - 1 ≡ j = omega arith in rw (z, rw z at e) refl

module _ (W : ℕ) (val len hop : ℕ → ℕ) (m : ℕ) (entry : (i : ℕ) → i < m → Entry W val len hop i) where
  starts : (g j : ℕ) → matches W val len (val g) j ≡ true → start W (len j) (val g) ≡ start W (len j) (val j)
  unfolding matches starts_with
  starts g j e = eqb-true _ _ e

  -- of two that begin g the later one is not shorter
  later_longer : (g k j : ℕ) → g < m → j < g → k < j → matches W val len (val g) k ≡ true → matches W val len (val g) j ≡ true → len k ≤ len j
  later_longer g k j h l a p q = elim (dec_le (len k) (len j)) [
    | yes z ↦ z
    | no z ↦
        let s : start W (len j) (val k) ≡ start W (len j) (val j)
        = sym (start_less W (len j) (len k) (val g) (val k) (omega arith) (entry k (omega arith)).prefix.short (starts g k p)) ∙ starts g j q in
        let v : val j ≤ val k = start_least W (len j) (val j) (val k) (entry j (omega arith)).prefix.clear s in
        absurd (⊎_elim (λ (x : val k < val j). omega arith) (λ (x : (val k ≡ val j) × (len k < len j)). omega (arith, x.1)) (sorted W val len hop m entry k j a (omega arith)))
  ]

  -- one before g that begins it is shorter
  before_shorter : (g j : ℕ) → g < m → j < g → matches W val len (val g) j ≡ true → len j < len g
  before_shorter g j h l p = elim (dec_le (suc (len j)) (len g)) [
    | yes z ↦ z
    | no z ↦
        let s = start_less W (len g) (len j) (val g) (val j) (omega arith) (entry j (omega arith)).prefix.short (starts g j p) in
        let v : val g ≤ val j = start_least W (len g) (val g) (val j) (entry g h).prefix.clear (sym s) in
        absurd (⊎_elim (λ (x : val j < val g). omega arith) (λ (x : (val j ≡ val g) × (len j < len g)). omega (arith, x.1)) (sorted W val len hop m entry j g l h))
  ]

  -- one that is shorter and begins g stands before it
  shorter_before : (g j : ℕ) → g < m → j < m → starts_shorter W val len g j ≡ true → (matches W val len (val g) j ≡ true) × (j < g)
  unfolding starts_shorter matches
  shorter_before g j h l t =
      let p = and_true (starts_with W (val j) (len j) (val g)) (ltb (len j) (len g)) t in
      let less : len j < len g = ltb-true _ _ p.1 in (
        p.0,
        elim (dec_le (suc j) g) [
          | yes z ↦ z
          | no z ↦ absurd (⊎_elim (λ (e : g ≡ j). omega (arith, ap len e)) (λ (x : g < j). ⊎_elim
              (λ (y : val g < val j). omega (arith, start_least W (len j) (val j) (val g) (entry j l).prefix.clear (starts g j p.0)))
              (λ (y : (val g ≡ val j) × (len g < len j)). omega (arith, y.1)) (sorted W val len hop m entry g j x l)) (eq-or-lt_of_le (omega arith)))
        ],
      )

  pub nearest_wins : (g : ℕ) → g < m → Wins (starts_shorter W val len g) len m (last_before (matches W val len (val g)) g)
  unfolding starts_shorter matches
  nearest_wins g h = go (last_before (matches W val len (val g)) g) (last_is (matches W val len (val g)) g)
    where
      shorter_of : (j : ℕ) → j < g → matches W val len (val g) j ≡ true → starts_shorter W val len g j ≡ true
      shorter_of j l p = and_both _ _ p (lt-ltb _ _ (before_shorter g j h l p))

      go : (b : ℕ) → Last (matches W val len (val g)) g b → Wins (starts_shorter W val len g) len m b
      go zero (no_one nil) = no_winner (λ k l. ⊎_elim (λ (t : starts_shorter W val len g k ≡ true).
          let q = shorter_before g k h l t in absurd (true≢false (sym q.0 ∙ nil k q.1))) (λ (f : starts_shorter W val len g k ≡ false). f) (true_or_false (starts_shorter W val len g k)))
      go (suc j) (at_last l p nil) = some {j = j} (record {
        inside = omega arith;
        marked = shorter_of j l p;
        most = λ k a t. let q = shorter_before g k h a t in elim (dec_le (suc k) j) [
          | yes z ↦ later_longer g k j h l z q.0 p
          | no z ↦ ⊎_elim (λ (e : j ≡ k). rw e (omega arith)) (λ (x : j < k). absurd (true≢false (sym q.0 ∙ nil k x q.1))) (eq-or-lt_of_le (omega arith))
        ];
      })

  -- there is one such number
  pub next_unique : (g x y : ℕ) → Wins (starts_shorter W val len g) len m x → Wins (starts_shorter W val len g) len m y → x ≡ y
  unfolding starts_shorter matches
  next_unique g x y =
      wins_unique (starts_shorter W val len g) len m x y
      (λ i j hi hj p q e. match_one W val len hop m entry (val g) i j hi hj e (begins_of i p) (begins_of j q))
    where
      begins_of : (j : ℕ) → starts_shorter W val len g j ≡ true → matches W val len (val g) j ≡ true
      begins_of j t = (and_true (starts_with W (val j) (len j) (val g)) (ltb (len j) (len g)) t).0
