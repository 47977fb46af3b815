-- The chain of source tries (02, [6]): "after the destination walk, source tries are visited from the longest matching destination down
-- until one matches". It visits exactly the destinations that begin the address, from the longest down, to the first whose trie matches.
use mathlib.Core.Path.{◌≡◌, refl, sym, ap, ◌∙◌}
use mathlib.Core.Bool.{Bool, true, false, cond, ◌&&◌, true≢false}
use mathlib.Core.List.Memᴰ
use mathlib.Core.List.{List, [], ◌∷◌, Memᴰ}
use mathlib.Core.Logic.{◌⊎◌, inl, inr, ⊎_elim, ◌↔◌}
use Prim.Native.Nat.{ℕ, zero, suc, ◌≤◌, ◌<◌}
use native.Mathlib.Nat.{le_of_lt, eq-or-lt_of_le}
use native.Mathlib.Omega.{arith}
use lib.Dec.{ltb, eqb}
use borrow.Author.Tests.{ltb-true, lt-ltb, eqb-true, eq-eqb}
use Rattle.table.specs.Prefix.{start, starts_with}
use Rattle.table.specs.Table.{Entry}
use Rattle.table.specs.Longest.{matches, IsBest, Wins, no_winner, some}
use Rattle.table.proofs.Bools.{and_true, and_both, true_or_false}
use Rattle.table.proofs.Starts.{start_less}
use Rattle.table.proofs.Table.{match_one}
use Rattle.fields.specs.Runs.{starts_shorter, Falls}

-- ---- the chain: a number is suc g for the trie of destination g, 0 for none; `next g` is the number after g, and `hit` says whose
-- tries match

module _ (next : ℕ → ℕ) (hit : ℕ → Bool) where
  -- the destinations visited from number n on, at most f
  unfoldable pub visited_from : (f n : ℕ) → List ℕ
  visited_from zero n = []
  visited_from (suc f) zero = []
  visited_from (suc f) (suc g) = g ∷ cond (hit g) [] (visited_from f (next g))

  -- the number at which the visiting stops because the trie matches, 0 where none does
  unfoldable pub stops_at : (f n : ℕ) → ℕ
  stops_at zero n = 0
  stops_at (suc f) zero = 0
  stops_at (suc f) (suc g) = cond (hit g) (suc g) (stops_at f (next g))

  -- one more is called for than f
  unfoldable pub overrun : (f n : ℕ) → Bool
  overrun zero zero = false
  overrun zero (suc g) = true
  overrun (suc f) zero = false
  overrun (suc f) (suc g) = cond (hit g) false (overrun f (next g))

-- ---- marks

-- marks that say the same have the same winners
pub wins_same : (p q : ℕ → Bool) (len : ℕ → ℕ) (n b : ℕ) → ((i : ℕ) → i < n → (p i ≡ true) ↔ (q i ≡ true)) → Wins p len n b → Wins q len n b
wins_same p q len n zero e (no_winner nil) =
    no_winner (λ k h. ⊎_elim (λ (t : q k ≡ true). absurd (true≢false (sym ((e k h).1 t) ∙ nil k h))) (λ (f : q k ≡ false). f) (true_or_false (q k)))
wins_same p q len n (suc j) e (some r) =
    some (record { inside = r.inside; marked = (e j r.inside).0 r.marked; most = λ k h t. r.most k h ((e k h).1 t) })

-- the prefixes that begin a and are shorter than c
abbrev pub matches_below : ℕ → (val len : ℕ → ℕ) → (a c j : ℕ) → Bool
matches_below W val len a c j = matches W val len a j && ltb (len j) c

module _ (W : ℕ) (val len hop : ℕ → ℕ) (m a : ℕ) (entry : (i : ℕ) → i < m → Entry W val len hop i) where
  below_is : (c j : ℕ) → matches_below W val len a c j ≡ true → (matches W val len a j ≡ true) × (len j < c)
  below_is c j e = let p = and_true (matches W val len a j) (ltb (len j) c) e in (p.0, ltb-true _ _ p.1)

  below_of : (c j : ℕ) → matches W val len a j ≡ true → len j < c → matches_below W val len a c j ≡ true
  below_of c j e l = and_both _ _ e (lt-ltb _ _ l)

  -- where g begins a, what is shorter than g begins g exactly when it begins a
  pub starts_match : (g j : ℕ) → g < m → matches W val len a g ≡ true → (starts_shorter W val len g j ≡ true) ↔ (matches_below W val len a (len g) j ≡ true)
  unfolding starts_shorter matches starts_with
  starts_match g j h e =
      let q : start W (len g) a ≡ start W (len g) (val g) = eqb-true _ _ e in
      let less : len j < len g → start W (len j) a ≡ start W (len j) (val g)
      = λ l. start_less W (len j) (len g) a (val g) (le_of_lt l) (entry g h).prefix.short q in (
        λ t.
            let p = and_true (eqb (start W (len j) (val g)) (start W (len j) (val j))) (ltb (len j) (len g)) t in
            and_both _ _ (eq-eqb _ _ (less (ltb-true _ _ p.1) ∙ eqb-true _ _ p.0)) p.1,
        λ t.
            let p = and_true (eqb (start W (len j) a) (start W (len j) (val j))) (ltb (len j) (len g)) t in
            and_both _ _ (eq-eqb _ _ (sym (less (ltb-true _ _ p.1)) ∙ eqb-true _ _ p.0)) p.1,
      )

  module _ (next : ℕ → ℕ) (links : (g : ℕ) → g < m → Wins (starts_shorter W val len g) len m (next g)) (hit : ℕ → Bool) where
    -- so the number after g is that of the longest destination that begins a and is shorter than g
    pub next_wins : (g : ℕ) → g < m → matches W val len a g ≡ true → Wins (matches_below W val len a (len g)) len m (next g)
    next_wins g h e = wins_same _ _ len m (next g) (λ j l. starts_match g j h e) (links g h)

    next_best : (c g : ℕ) → IsBest (matches_below W val len a c) len m g → Wins (matches_below W val len a (len g)) len m (next g)
    next_best c g r = next_wins g r.inside (below_is c g r.marked).0

    below_c : (c g : ℕ) → IsBest (matches_below W val len a c) len m g → len g < c
    below_c c g r = (below_is c g r.marked).1

    -- g is the longest that is shorter than c: another one that begins a and is shorter than c is g, or shorter than g
    same_or_less : (c g j : ℕ) → IsBest (matches_below W val len a c) len m g → j < m → matches W val len a j ≡ true → len j < c → (j ≡ g) ⊎ (len j < len g)
    same_or_less c g j r l e s =
        ⊎_elim (λ (q : len j ≡ len g). inl (match_one W val len hop m entry a j g l r.inside q e (below_is c g r.marked).0)) (λ (q : len j < len g). inr q)
        (eq-or-lt_of_le (r.most j l (below_of c j e s)))

    -- one that matches is shorter than one that does not
    hit_less : (c g j : ℕ) → IsBest (matches_below W val len a c) len m g → hit g ≡ false → j < m → matches W val len a j ≡ true → len j < c → hit j ≡ true
        → len j < len g
    hit_less c g j r miss l e s t =
        ⊎_elim (λ (q : j ≡ g). absurd (true≢false (sym t ∙ ap hit q ∙ miss))) (λ (q : len j < len g). q) (same_or_less c g j r l e s)

    -- ---- where it stops

    -- begins a, is shorter than c, and its trie matches
    abbrev hits : ℕ → ℕ → Bool
    hits c j = matches_below W val len a c j && hit j

    pass_on : (c g b : ℕ) → IsBest (matches_below W val len a c) len m g → hit g ≡ false → Wins (hits (len g)) len m b → Wins (hits c) len m b
    pass_on c g b r miss w = wins_same _ _ len m b (λ j l. (up j l, down j l)) w
      where
        up : (j : ℕ) → j < m → hits (len g) j ≡ true → hits c j ≡ true
        up j l t =
            let p = and_true (matches_below W val len a (len g) j) (hit j) t in
            let q = below_is (len g) j p.0 in
            and_both _ _ (below_of c j q.0 (omega (arith, below_c c g r))) p.1

        down : (j : ℕ) → j < m → hits c j ≡ true → hits (len g) j ≡ true
        down j l t =
            let p = and_true (matches_below W val len a c j) (hit j) t in
            let q = below_is c j p.0 in
            and_both _ _ (below_of (len g) j q.0 (hit_less c g j r miss l q.0 q.1 p.1)) p.1

    stops_none : (c : ℕ) → ((k : ℕ) → k < m → matches_below W val len a c k ≡ false) → Wins (hits c) len m 0
    stops_none c nil = no_winner (λ k l. rw (nil k l) refl)

    -- the visiting stops at the longest destination that begins a, is shorter than c and whose trie matches; where f is at least c, as
    -- lengths fall, there is always one left
    stops_wins : (f c n : ℕ) → c ≤ f → Wins (matches_below W val len a c) len m n → Wins (hits c) len m (stops_at next hit f n)
    unfolding stops_at
    stops_wins zero c zero h (no_winner nil) = stops_none c nil
    stops_wins zero c (suc g) h (some r) = absurd (omega (arith, below_c c g r))
    stops_wins (suc f) c zero h (no_winner nil) = stops_none c nil
    stops_wins (suc f) c (suc g) h (some r) = go (hit g) refl (stops_wins f (len g) (next g) (omega (arith, below_c c g r)) (next_best c g r))
      where
        go : (t : Bool) → hit g ≡ t → Wins (hits (len g)) len m (stops_at next hit f (next g))
            → Wins (hits c) len m (cond t (suc g) (stops_at next hit f (next g)))
        go true e w = some (record {
          inside = r.inside;
          marked = and_both _ _ r.marked e;
          most = λ k l t. r.most k l (and_true (matches_below W val len a c k) (hit k) t).0;
        })
        go false e w = pass_on c g _ r e w

    -- and never is one called for after the f-th
    never_over : (f c n : ℕ) → c ≤ f → Wins (matches_below W val len a c) len m n → overrun next hit f n ≡ false
    unfolding overrun
    never_over zero c zero h (no_winner nil) = refl
    never_over zero c (suc g) h (some r) = absurd (omega (arith, below_c c g r))
    never_over (suc f) c zero h (no_winner nil) = refl
    never_over (suc f) c (suc g) h (some r) = go (hit g) (never_over f (len g) (next g) (omega (arith, below_c c g r)) (next_best c g r))
      where
        go : (t : Bool) → overrun next hit f (next g) ≡ false → cond t false (overrun next hit f (next g)) ≡ false
        go true e = refl
        go false e = e

    -- ---- what is visited

    -- destination g begins a, is shorter than c, and no longer such destination has a trie that matches
    record Due (c g : ℕ) : Type 0 where
      inside : g < m
      begun : matches W val len a g ≡ true
      less : len g < c
      due : (j : ℕ) → j < m → matches W val len a j ≡ true → len j < c → hit j ≡ true → len j ≤ len g

    due_best : (c g : ℕ) → IsBest (matches_below W val len a c) len m g → Due c g
    due_best c g r = record {
      inside = r.inside;
      begun = (below_is c g r.marked).0;
      less = below_c c g r;
      due = λ j l e s t. r.most j l (below_of c j e s);
    }

    due_up : (c g x : ℕ) → IsBest (matches_below W val len a c) len m g → hit g ≡ false → Due (len g) x → Due c x
    due_up c g x r miss d = record {
      inside = d.inside;
      begun = d.begun;
      less = omega (arith, below_c c g r, d.less);
      due = λ j l e s t. d.due j l e (hit_less c g j r miss l e s t) t;
    }

    due_down : (c g x : ℕ) → IsBest (matches_below W val len a c) len m g → len x < len g → Due c x → Due (len g) x
    due_down c g x r less d = record {
      inside = d.inside;
      begun = d.begun;
      less = less;
      due = λ j l e s t. d.due j l e (omega (arith, below_c c g r)) t;
    }

    visited_due : (f c n : ℕ) → c ≤ f → Wins (matches_below W val len a c) len m n → (x : ℕ) → Memᴰ x (visited_from next hit f n) → Due c x
    unfolding visited_from
    visited_due zero c n h w x i = absurd (Memᴰ.not-nil i)
    visited_due (suc f) c zero h w x i = absurd (Memᴰ.not-nil i)
    visited_due (suc f) c (suc g) h (some r) x i =
        go (hit g) refl (visited_due f (len g) (next g) (omega (arith, below_c c g r)) (next_best c g r) x) i
      where
        go : (t : Bool) → hit g ≡ t → (Memᴰ x (visited_from next hit f (next g)) → Due (len g) x)
            → Memᴰ x (g ∷ cond t [] (visited_from next hit f (next g))) → Due c x
        go true e rest i = elim (Memᴰ.cases_cons i) [ inl q ↦ rw q (due_best c g r) | inr k ↦ absurd (Memᴰ.not-nil k) ]
        go false e rest i = elim (Memᴰ.cases_cons i) [ inl q ↦ rw q (due_best c g r) | inr k ↦ due_up c g x r e (rest k) ]

    due_visited : (f c n : ℕ) → c ≤ f → Wins (matches_below W val len a c) len m n → (x : ℕ) → Due c x → Memᴰ x (visited_from next hit f n)
    unfolding visited_from
    due_visited zero c zero h (no_winner nil) x d = absurd (omega (arith, d.less))
    due_visited (suc f) c zero h (no_winner nil) x d = absurd (true≢false (sym (below_of c x d.begun d.less) ∙ nil x d.inside))
    due_visited zero c (suc g) h (some r) x d = absurd (omega (arith, below_c c g r))
    due_visited (suc f) c (suc g) h (some r) x d =
        go (hit g) refl (same_or_less c g x r d.inside d.begun d.less)
        (due_visited f (len g) (next g) (omega (arith, below_c c g r)) (next_best c g r) x)
      where
        long : hit g ≡ true → len g ≤ len x
        long e = d.due g r.inside (below_is c g r.marked).0 (below_c c g r) e

        go : (t : Bool) → hit g ≡ t → (x ≡ g) ⊎ (len x < len g) → (Due (len g) x → Memᴰ x (visited_from next hit f (next g)))
            → Memᴰ x (g ∷ cond t [] (visited_from next hit f (next g)))
        go t e (inl q) rest = Memᴰ.head q
        go true e (inr q) rest = absurd (omega (arith, long e))
        go false e (inr q) rest = Memᴰ.tail (rest (due_down c g x r q d))

    -- ---- their lengths fall

    visited_falls : (f c n : ℕ) → Wins (matches_below W val len a c) len m n → Falls len c (visited_from next hit f n)
    unfolding visited_from
    visited_falls zero c n w = tt
    visited_falls (suc f) c zero w = tt
    visited_falls (suc f) c (suc g) (some r) = (below_c c g r, go (hit g) (visited_falls f (len g) (next g) (next_best c g r)))
      where
        go : (t : Bool) → Falls len (len g) (visited_from next hit f (next g)) → Falls len (len g) (cond t [] (visited_from next hit f (next g)))
        go true w = tt
        go false w = w

    -- ---- the whole chain, from the number that the destination walk answers; f is above every length

    module _ (f n : ℕ) (high : W < f) (start_at : Wins (matches W val len a) len m n) where
      all_below : Wins (matches_below W val len a (suc W)) len m n
      all_below =
          wins_same _ _ len m n (λ j l. (λ e. below_of (suc W) j e (omega (arith, (entry j l).prefix.short)), λ e. (below_is (suc W) j e).0)) start_at

      -- it stops at the longest destination that begins a and whose trie matches
      pub chain_stops : Wins (λ j. matches W val len a j && hit j) len m (stops_at next hit f n)
      chain_stops =
          wins_same _ _ len m _ (λ j l. (
            λ e. let p = and_true (matches_below W val len a (suc W) j) (hit j) e in and_both _ _ (below_is (suc W) j p.0).0 p.1,
            λ e. let p = and_true (matches W val len a j) (hit j) e in and_both _ _ (below_of (suc W) j p.0 (omega (arith, (entry j l).prefix.short))) p.1,
          )) (stops_wins f (suc W) n high all_below)

      -- no more than f are called for
      pub chain_never_over : overrun next hit f n ≡ false
      chain_never_over = never_over f (suc W) n high all_below

      -- it visits exactly the destinations that begin a and than which no destination that begins a and whose trie matches is longer
      pub chain_visits : (x : ℕ) → Memᴰ x (visited_from next hit f n)
          ↔ ((x < m) × (matches W val len a x ≡ true) × ((j : ℕ) → j < m → matches W val len a j ≡ true → hit j ≡ true → len j ≤ len x))
      chain_visits x = (
        λ i. let d = visited_due f (suc W) n high all_below x i in
            (d.inside, d.begun, λ j l e t. d.due j l e (omega (arith, (entry j l).prefix.short)) t),
        λ d. due_visited f (suc W) n high all_below x
            (record { inside = d.0; begun = d.1; less = omega (arith, (entry x d.0).prefix.short); due = λ j l e s t. d.2 j l e t }),
      )

      -- each shorter than the one before
      pub chain_falls : Falls len (suc W) (visited_from next hit f n)
      chain_falls = visited_falls f (suc W) n all_below
