-- Counting the nodes of each level as the rows are made: a run of levels gets one more each; an entry's new nodes are such a run.
use mathlib.Core.Path.{◌≡◌, refl, ap, ◌∙◌}
use mathlib.Core.List.{List}
use mathlib.Core.Logic.{⊎_elim}
use Prim.Native.Nat.{ℕ, zero, suc, ◌+◌, ◌^◌, ◌≤◌, ◌<◌}
use native.Mathlib.Numerals.{add-one}
use native.Mathlib.Omega.{arith}
use lib.ListN.{length, get_or, set}
use lib.Pow.{pow_mono}
use lib.Seq.{get_or-set_same, get_or-set_other}
use Rattle.strides.specs.Trie.{Trie, none, node, kid, mark_on, bit, sum_by, nodes_at}
use Rattle.strides.specs.Insertion.{insert_t, place, mark_for, met}
use Rattle.strides.proofs.Insertion.{met_none}
use Rattle.strides.proofs.Sums.{nodes_bound}
use Rattle.walk.specs.Limits.{WIDTH}
use Rattle.choosers.specs.LevelCounts.{in_levels, CanCount, LevelsAdded, CountsOf}
use Rattle.choosers.proofs.Gathering.{same?}

-- ---- a run of levels

pub in_levels_same : (a i : ℕ) → in_levels a a i ≡ 0
unfolding in_levels
in_levels_same zero i = refl
in_levels_same (suc a) zero = refl
in_levels_same (suc a) (suc i) = in_levels_same a i

in_levels_own : (a j : ℕ) → a ≤ j → in_levels a (suc j) j ≡ 1
unfolding in_levels
in_levels_own zero zero h = refl
in_levels_own zero (suc j) h = in_levels_own zero j (omega arith)
in_levels_own (suc a) zero h = absurd (omega arith)
in_levels_own (suc a) (suc j) h = in_levels_own a j (omega arith)

in_levels_end : (a j : ℕ) → in_levels a j j ≡ 0
unfolding in_levels
in_levels_end a zero = refl
in_levels_end zero (suc j) = in_levels_end zero j
in_levels_end (suc a) (suc j) = in_levels_end a j

in_levels_off : (a j i : ℕ) → (i ≡ j → ⊥) → in_levels a (suc j) i ≡ in_levels a j i
unfolding in_levels
in_levels_off zero zero zero ne = absurd (ne refl)
in_levels_off zero zero (suc i) ne = refl
in_levels_off zero (suc j) zero ne = refl
in_levels_off zero (suc j) (suc i) ne = in_levels_off zero j i (λ e. ne (ap suc e))
in_levels_off (suc a) zero zero ne = refl
in_levels_off (suc a) zero (suc i) ne = refl
in_levels_off (suc a) (suc j) zero ne = refl
in_levels_off (suc a) (suc j) (suc i) ne = in_levels_off a j i (λ e. ne (ap suc e))

pub in_levels_one : (a b i : ℕ) → in_levels a b i ≤ 1
unfolding in_levels
in_levels_one a zero i = omega arith
in_levels_one zero (suc b) zero = omega arith
in_levels_one zero (suc b) (suc i) = in_levels_one zero b i
in_levels_one (suc a) (suc b) zero = omega arith
in_levels_one (suc a) (suc b) (suc i) = in_levels_one a b i

-- one level more in the run
pub run_next : (counts counts1 : List ℕ) (a j : ℕ) → length counts1 ≡ WIDTH → j < WIDTH → a ≤ j
    → ((i : ℕ) → i < WIDTH → get_or counts1 i 0 ≡ get_or counts i 0 + in_levels a j i)
    → (i : ℕ) → i < WIDTH → get_or (set counts1 j (get_or counts1 j 0 + 1)) i 0 ≡ get_or counts i 0 + in_levels a (j + 1) i
run_next counts counts1 a j len hj ha inv i hi =
    rw (add-one j)
    (⊎_elim
    (λ (z : i ≡ j). rw z (get_or-set_same counts1 j (get_or counts1 j 0 + 1) 0 (omega arith) ∙ omega (arith, inv j hj, in_levels_own a j ha, in_levels_end a j)))
    (λ (z : i ≡ j → ⊥). get_or-set_other counts1 j i (get_or counts1 j 0 + 1) 0 z ∙ omega (arith, inv i hi, in_levels_off a j i z)) (same? i j))

-- ---- an entry's new nodes

pub insert_levels : (l v mark : ℕ) (t : Trie) (j : ℕ) → nodes_at j (insert_t l v mark t) ≡ nodes_at j t + in_levels (met l v t) l j
unfolding insert_t met nodes_at sum_by in_levels
insert_levels zero v mark t j = omega arith
insert_levels (suc l) v mark none j = go (bit l v) j (insert_levels l v mark none)
  where
    go : (i j : ℕ) → ((j : ℕ) → nodes_at j (insert_t l v mark none) ≡ nodes_at j none + in_levels (met l v none) l j)
        → nodes_at j (place i (mark_for l mark (mark_on i none)) (insert_t l v mark (kid i none)) none) ≡ 0 + in_levels 0 (suc l) j
    go zero zero h = refl
    go (suc i) zero h = refl
    go zero (suc j) h = omega (arith, h j, ap (λ (m : ℕ). in_levels m l j) (met_none l v))
    go (suc i) (suc j) h = omega (arith, h j, ap (λ (m : ℕ). in_levels m l j) (met_none l v))
insert_levels (suc l) v mark (node p a q b) j = go (bit l v) j (insert_levels l v mark a) (insert_levels l v mark b)
  where
    t : Trie
    t = node p a q b

    go : (i j : ℕ) → ((j : ℕ) → nodes_at j (insert_t l v mark a) ≡ nodes_at j a + in_levels (met l v a) l j)
        → ((j : ℕ) → nodes_at j (insert_t l v mark b) ≡ nodes_at j b + in_levels (met l v b) l j)
        → nodes_at j (place i (mark_for l mark (mark_on i t)) (insert_t l v mark (kid i t)) t) ≡ nodes_at j t + in_levels (suc (met l v (kid i t))) (suc l) j
    go zero zero h g = refl
    go (suc i) zero h g = refl
    go zero (suc j) h g = omega (arith, h j)
    go (suc i) (suc j) h g = omega (arith, g j)

-- counts of a trie can grow: a level has at most as many nodes as there are paths to it
pub counts_can : (counts : List ℕ) (t : Trie) → CountsOf counts t → CanCount counts
counts_can counts t c = record {
  long = c.long;
  small = λ j h. let p : 2 ^ j ≤ 2 ^ 32 = pow_mono {j = 32} (omega arith) in omega (arith, c.nodes j h, nodes_bound t j);
}

-- with an entry more they count its trie
pub counts_next : (counts counts' : List ℕ) (t : Trie) (l v mark : ℕ) → CountsOf counts t → LevelsAdded counts (met l v t) l counts' → CountsOf counts' (insert_t l v mark t)
counts_next counts counts' t l v mark c a = record {
  long = a.long;
  nodes = λ j h. omega (arith, a.more j h, c.nodes j h, insert_levels l v mark t j);
}
