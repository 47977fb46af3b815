-- Runs of equal neighbours: they are one, every list has them (one more rule joins the last run or begins a new one), and every
-- rule is in a run.
use mathlib.Core.Path.{◌≡◌, refl, sym, ap, ◌∙◌}
use mathlib.Core.Logic.{⊎_elim}
use mathlib.Core.Bool.{Bool, cond, true, false, true≢false}
use Prim.Native.Nat.{ℕ, zero, suc, ◌-◌, ◌≤◌, ◌<◌}
use native.Mathlib.Nat.{eq-or-lt_of_le, le_of_suc-le-suc, not-suc-le-zero}
use native.Mathlib.Decide.{dec_le}
use native.Mathlib.Omega.{arith}
use lib.Dec.{eqb, ltb}
use borrow.Author.Tests.{eqb-true, eq-eqb, not-false, lt-ltb, le-ltb}
use Rattle.table.proofs.Bools.{and_true}
use Rattle.fields.specs.Runs.{Runs, begins_run}

module _ {val len : ℕ → ℕ} {n m : ℕ} {from : ℕ → ℕ} (r : Runs val len n m from) where
  -- runs begin at rising places
  pub from_mono : (g h : ℕ) → g ≤ h → h ≤ m → from g ≤ from h
  from_mono g zero l k = let e : g ≡ 0 = omega arith in rw e (omega arith)
  from_mono g (suc h) l k =
      ⊎_elim (λ (e : g ≡ suc h). rw e (omega arith)) (λ (q : g < suc h). omega (arith, from_mono g h (le_of_suc-le-suc q) (omega arith), r.some h k))
      (eq-or-lt_of_le l)

  pub from_inside : (g : ℕ) → g < m → from g < n
  from_inside g h = omega (arith, r.some g h, from_mono (suc g) m h (omega arith), r.last)

  pub from_within : (g : ℕ) → g ≤ m → from g ≤ n
  from_within g h = omega (arith, from_mono g m h (omega arith), r.last)

  -- no more runs than rules
  from_above : (g : ℕ) → g ≤ m → g ≤ from g
  from_above zero h = omega arith
  from_above (suc g) h = omega (arith, from_above g (omega arith), r.some g h)

  pub runs_few : m ≤ n
  runs_few = omega (arith, from_above m (omega arith), r.last)

  -- run g goes on to before `from (suc g)`
  pub record InRun (i g : ℕ) : Type 0 where
    pub run : g < m
    pub begun : from g ≤ i
    pub before : i < from (suc g)

  run_below : (i g : ℕ) → g ≤ m → i < from g → (x : ℕ) × InRun i x
  run_below i zero h l = absurd (omega (arith, r.first))
  run_below i (suc g) h l = elim (dec_le (from g) i) [
    | yes q ↦ (g, record { run = h; begun = q; before = l })
    | no q ↦ run_below i g (omega arith) (omega arith)
  ]

  -- every rule is in a run
  pub run_of : (i : ℕ) → i < n → (g : ℕ) × InRun i g
  run_of i h = run_below i m (omega arith) (omega (arith, r.last))

  pub some_runs : 0 < n → 0 < m
  some_runs h = elim (dec_le 1 m) [
    | yes q ↦ q
    | no q ↦ let e : m ≡ 0 = omega arith in absurd (omega (arith, r.first, r.last, ap from e))
  ]

-- ---- one more

-- what does not begin a run is as the one before
goes_on : (val len : ℕ → ℕ) (n : ℕ) → begins_run val len n ≡ false → (k : ℕ) × (n ≡ suc k) × (val n ≡ val k) × (len n ≡ len k)
unfolding begins_run
goes_on val len zero e = absurd (true≢false e)
goes_on val len (suc k) e =
    let p = and_true (eqb (val k) (val (suc k))) (eqb (len k) (len (suc k))) (not-false _ e) in
    (k, refl, sym (eqb-true _ _ p.0), sym (eqb-true _ _ p.1))

-- what does is not
is_other : (val len : ℕ → ℕ) (n : ℕ) → begins_run val len n ≡ true → (k : ℕ) → n ≡ suc k → val k ≡ val n → len k ≡ len n → ⊥
unfolding begins_run
is_other val len zero t k e v l = omega arith
is_other val len (suc n) t k e v l =
    let z : k ≡ n = omega arith in
    true≢false (sym t ∙ rw (eq-eqb (val n) (val (suc n)) (rw z at v), eq-eqb (len n) (len (suc n)) (rw z at l)))

-- no rule, no run
pub runs_none : (val len from : ℕ → ℕ) → from 0 ≡ 0 → Runs val len 0 0 from
runs_none val len from e = record {
  first = e;
  last = e;
  some = λ g h. absurd (not-suc-le-zero h);
  same = λ g i h a b. absurd (not-suc-le-zero h);
  apart = λ g h. absurd (not-suc-le-zero h);
}

module _ {val len : ℕ → ℕ} {n m : ℕ} {from : ℕ → ℕ} (r : Runs val len n m from) (from' : ℕ → ℕ) where
  -- the next one goes on with the last run
  pub runs_same : begins_run val len n ≡ false → ((g : ℕ) → g < m → from' g ≡ from g) → from' m ≡ suc n → Runs val len (suc n) m from'
  runs_same t keeps end = record {
    first = keeps 0 (some_runs r (omega (arith, (goes_on val len n t).1))) ∙ r.first;
    last = end;
    some = λ g h.
        ⊎_elim (λ (q : suc g ≡ m). omega (arith, keeps g h, ap from' q, from_inside r g h))
        (λ (q : suc g < m). omega (arith, keeps g h, keeps (suc g) q, r.some g h)) (eq-or-lt_of_le h);
    same = λ g i h a b. rw (keeps g h) (inner g i h (rw (keeps g h) at a) b);
    apart = λ g h p q. r.apart g h (rw (keeps g (omega arith), keeps (suc g) h) at p) (rw (keeps g (omega arith), keeps (suc g) h) at q);
  }
    where
      inner : (g i : ℕ) → g < m → from g ≤ i → i < from' (suc g) → (val i ≡ val (from g)) × (len i ≡ len (from g))
      inner g i h a b =
          ⊎_elim (λ (q : suc g ≡ m). let z : i < suc n = omega (arith, ap from' q) in
          let stop : from (suc g) ≡ n = ap from q ∙ r.last in
          ⊎_elim (λ (y : i ≡ n).
          let p = goes_on val len n t in
          let o = r.same g p.0 h (omega (arith, from_inside r g h, p.1)) (omega (arith, p.1)) in (ap val y ∙ p.2 ∙ o.0, ap len y ∙ p.3 ∙ o.1))
          (λ (y : i < n). r.same g i h a (omega arith)) (eq-or-lt_of_le (le_of_suc-le-suc z)))
          (λ (q : suc g < m). r.same g i h a (omega (arith, keeps (suc g) q))) (eq-or-lt_of_le h)

  -- the next one begins a run of its own
  pub runs_new : begins_run val len n ≡ true → ((g : ℕ) → g ≤ m → from' g ≡ from g) → from' (suc m) ≡ suc n → Runs val len (suc n) (suc m) from'
  runs_new t keeps end = record {
    first = keeps 0 (omega arith) ∙ r.first;
    last = end;
    some = λ g h.
        ⊎_elim (λ (q : g ≡ m). omega (arith, keeps g (omega arith), ap from' (ap suc q), ap from q, r.last))
        (λ (q : g < m). omega (arith, keeps g (omega arith), keeps (suc g) q, r.some g q)) (eq-or-lt_of_le (le_of_suc-le-suc h));
    same = λ g i h a b. rw (keeps g (omega arith)) (inner g i h (rw (keeps g (omega arith)) at a) b);
    apart = λ g h p q.
        let l : suc g ≤ m = le_of_suc-le-suc h in
        other g l (rw (keeps g (omega arith), keeps (suc g) l) at p) (rw (keeps g (omega arith), keeps (suc g) l) at q);
  }
    where
      inner : (g i : ℕ) → g < suc m → from g ≤ i → i < from' (suc g) → (val i ≡ val (from g)) × (len i ≡ len (from g))
      inner g i h a b =
          ⊎_elim (λ (q : g ≡ m). let e : i ≡ from g = omega (arith, ap from' (ap suc q), ap from q, r.last) in (ap val e, ap len e))
          (λ (q : g < m). r.same g i q a (omega (arith, keeps (suc g) q))) (eq-or-lt_of_le (le_of_suc-le-suc h))

      other : (g : ℕ) → suc g ≤ m → val (from g) ≡ val (from (suc g)) → len (from g) ≡ len (from (suc g)) → ⊥
      other g h p q =
          ⊎_elim (λ (z : suc g ≡ m).
          let stop : from (suc g) ≡ n = ap from z ∙ r.last in
          let k = n - 1 in
          let e : n ≡ suc k = omega (arith, from_inside r g h) in
          let o = r.same g k h (omega (arith, from_inside r g h)) (omega arith) in
          is_other val len n t k e (o.0 ∙ p ∙ ap val stop) (o.1 ∙ q ∙ ap len stop))
          (λ (z : suc g < m). r.apart g z p q) (eq-or-lt_of_le h)

-- they are one
module _ {val len : ℕ → ℕ} {n m m' : ℕ} {from from' : ℕ → ℕ} (r : Runs val len n m from) (s : Runs val len n m' from') where
  -- run g of the one does not end before run g of the other
  not_before : (g : ℕ) → g < m → g < m' → from g ≡ from' g → from (suc g) < from' (suc g) → ⊥
  not_before g h k e l =
      let o = s.same g (from (suc g)) k (omega (arith, r.some g h)) l in
      ⊎_elim (λ (z : suc g ≡ m). omega (arith, ap from z, r.last, from_within s (suc g) k))
      (λ (z : suc g < m). r.apart g z (ap val e ∙ sym o.0) (ap len e ∙ sym o.1)) (eq-or-lt_of_le h)

pub from_same : {val len : ℕ → ℕ} {n m m' : ℕ} {from from' : ℕ → ℕ} → Runs val len n m from → Runs val len n m' from' → (g : ℕ) → g ≤ m → g ≤ m' → from g ≡ from' g
from_same r s zero h k = r.first ∙ sym s.first
from_same {from = from} {from' = from'} r s (suc g) h k =
    let e = from_same r s g (omega arith) (omega arith) in
    elim (dec_le (from (suc g)) (from' (suc g))) [
      | yes p ↦ elim (dec_le (from' (suc g)) (from (suc g))) [ yes q ↦ omega arith | no q ↦ absurd (not_before r s g h k e (omega arith)) ]
      | no p ↦ absurd (not_before s r g k h (sym e) (omega arith))
    ]

pub runs_unique : {val len : ℕ → ℕ} {n m m' : ℕ} {from from' : ℕ → ℕ} → Runs val len n m from → Runs val len n m' from'
    → (m ≡ m') × ((g : ℕ) → g ≤ m → from g ≡ from' g)
runs_unique {m = m} {m' = m'} r s =
    let e : m ≡ m' = elim (dec_le m m') [
      | yes p ↦ elim (dec_le m' m) [ yes q ↦ omega arith | no q ↦ absurd (omega (arith, from_same r s m (omega arith) p, r.last, from_inside s m (omega arith))) ]
      | no p ↦ absurd (omega (arith, from_same r s m' (omega arith) (omega arith), s.last, from_inside r m' (omega arith)))
    ] in
    (e, λ g h. from_same r s g h (omega arith))

-- ---- every list has them

-- the runs of the first n, and where each begins: one more joins the last run or begins a new one
unfoldable pub run_count : (val len : ℕ → ℕ) → ℕ → ℕ
run_count val len zero = 0
run_count val len (suc n) = cond (begins_run val len n) (suc (run_count val len n)) (run_count val len n)

unfoldable pub run_from : (val len : ℕ → ℕ) → ℕ → ℕ → ℕ
run_from val len zero g = 0
run_from val len (suc n) g = cond (ltb g (run_count val len (suc n))) (run_from val len n g) (suc n)

pub runs_exist : (val len : ℕ → ℕ) (n : ℕ) → Runs val len n (run_count val len n) (run_from val len n)
unfolding run_count run_from
runs_exist val len zero = runs_none val len (λ g. 0) refl
runs_exist val len (suc n) = go (begins_run val len n) refl (runs_exist val len n)
  where
    m : ℕ
    m = run_count val len n

    go : (t : Bool) → begins_run val len n ≡ t → Runs val len n m (run_from val len n)
        → Runs val len (suc n) (cond t (suc m) m) (λ g. cond (ltb g (cond t (suc m) m)) (run_from val len n g) (suc n))
    go true e r =
        runs_new r (λ g. cond (ltb g (suc m)) (run_from val len n g) (suc n)) e (λ g h. rw (lt-ltb g (suc m) (omega arith))) (rw (le-ltb (suc m) (suc m) (omega arith)))
    go false e r = runs_same r (λ g. cond (ltb g m) (run_from val len n g) (suc n)) e (λ g h. rw (lt-ltb g m h)) (rw (le-ltb m m (omega arith)))
