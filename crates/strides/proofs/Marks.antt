-- What a trie costs is a matter of its nodes, not of their marks: tables of the same prefixes have the same least cost, whatever their
-- hops are, a discard's too. And what each entry's mark has, each mark of their trie has, and each that is met along a path.
use Prim.Native.Nat.{ℕ, zero, suc, pred, max, ◌+◌, ◌*◌, ◌^◌, ◌≤◌, ◌<◌}
use mathlib.Core.Path.{◌≡◌, refl, sym, ap, ap₂, ◌∙◌, subst}
use mathlib.Core.Bool.{Bool, true, false, cond}
use native.Mathlib.Omega.{arith}
use lib.Dec.{eqb}
use mathlib.Core.List.{List, [], ◌∷◌}
use Rattle.table.specs.Longest.{newer}
use Rattle.strides.specs.Trie.{Trie, none, node, kid, mark_on, bit, mark_along, sub_along, depth, sum_by, nodes_at}
use Rattle.strides.specs.Choice.{Choice, on_side, Valid, cost, ValidFixed, cost_fixed}
use Rattle.strides.specs.Cheapest.{Kind, fixed, variable, Cheapest}
use Rattle.strides.specs.Entries.{with_bit, node_if, trie_below, whole_entry, some_start, mark_at, trie_of}

-- two tries have nodes at the same places
abbrev pub SameNodes : Trie → Trie → Type 0
SameNodes none none = Unit {0}
SameNodes none (node p a q b) = ⊥
SameNodes (node p a q b) none = ⊥
SameNodes (node p a q b) (node p' a' q' b') = SameNodes a a' × SameNodes b b'

same_back : (t u : Trie) → SameNodes t u → SameNodes u t
same_back none none s = tt
same_back none (node p a q b) s = absurd s
same_back (node p a q b) none s = absurd s
same_back (node p a q b) (node p' a' q' b') s = (same_back a a' s.0, same_back b b' s.1)

-- the trie of a table's entries has them at the same places, whatever the marks are
node_if_same : (t : Bool) (p p' q q' : ℕ) (a a' b b' : Trie) → SameNodes a a' → SameNodes b b' → SameNodes (node_if t p a q b) (node_if t p' a' q' b')
unfolding node_if
node_if_same true p p' q q' a a' b b' s u = (s, u)
node_if_same false p p' q q' a a' b b' s u = tt

below_same : (S : ℕ → ℕ → Bool) (M M' : ℕ → ℕ → ℕ) (m d q : ℕ) → SameNodes (trie_below S M m d q) (trie_below S M' m d q)
unfolding trie_below
below_same S M M' zero d q = tt
below_same S M M' (suc m) d q =
    node_if_same (S d q) _ _ _ _ _ _ _ _ (below_same S M M' m (suc d) (with_bit q 0)) (below_same S M M' m (suc d) (with_bit q 1))

pub trie_nodes : (W : ℕ) (val len mark mark' : ℕ → ℕ) (n : ℕ) → SameNodes (trie_of W val len mark n) (trie_of W val len mark' n)
unfolding trie_of
trie_nodes W val len mark mark' n = below_same (some_start W val len n) (mark_at W val len mark n) (mark_at W val len mark' n) W 0 0

-- ---- what is read of nodes alone

depth_same : (t u : Trie) → SameNodes t u → depth t ≡ depth u
unfolding depth
depth_same none none s = refl
depth_same none (node p a q b) s = absurd s
depth_same (node p a q b) none s = absurd s
depth_same (node p a q b) (node p' a' q' b') s = ap suc (ap₂ max (depth_same a a' s.0) (depth_same b b' s.1))

nodes_same : (i : ℕ) (t u : Trie) → SameNodes t u → nodes_at i t ≡ nodes_at i u
unfolding nodes_at sum_by
nodes_same i none none s = refl
nodes_same i none (node p a q b) s = absurd s
nodes_same i (node p a q b) none s = absurd s
nodes_same zero (node p a q b) (node p' a' q' b') s = refl
nodes_same (suc i) (node p a q b) (node p' a' q' b') s = ap₂ ◌+◌ (nodes_same i a a' s.0) (nodes_same i b b' s.1)

valid_same : (t u : Trie) (c k : ℕ) (σ : Choice) → SameNodes t u → Valid t c k σ → Valid u c k σ
valid_same none none c k σ s v = tt
valid_same none (node p a q b) c k σ s v = absurd s
valid_same (node p a q b) none c k σ s v = absurd s
valid_same (node p a q b) (node p' a' q' b') (suc c) k σ s v =
    (valid_same a a' c k (on_side false σ) s.0 v.0, valid_same b b' c k (on_side true σ) s.1 v.1)
valid_same (node p a q b) (node p' a' q' b') zero zero σ s v = absurd v
valid_same (node p a q b) (node p' a' q' b') zero (suc k) σ s v = (
  v.0,
  subst (λ (d : ℕ). σ [] ≤ d) (depth_same (node p a q b) (node p' a' q' b') s) v.1,
  valid_same a a' (pred (σ [])) k (on_side false σ) s.0 v.2,
  valid_same b b' (pred (σ [])) k (on_side true σ) s.1 v.3,
)

cost_same : (t u : Trie) (c : ℕ) (σ : Choice) → SameNodes t u → cost t c σ ≡ cost u c σ
unfolding cost
cost_same none none c σ s = refl
cost_same none (node p a q b) c σ s = absurd s
cost_same (node p a q b) none c σ s = absurd s
cost_same (node p a q b) (node p' a' q' b') (suc c) σ s = ap₂ ◌+◌ (cost_same a a' c (on_side false σ) s.0) (cost_same b b' c (on_side true σ) s.1)
cost_same (node p a q b) (node p' a' q' b') zero σ s =
    ap (2 ^ σ [] +◌) (ap₂ ◌+◌ (cost_same a a' (pred (σ [])) (on_side false σ) s.0) (cost_same b b' (pred (σ [])) (on_side true σ) s.1))

cost_fixed_same : (nodes nodes' : ℕ → ℕ) → ((i : ℕ) → nodes i ≡ nodes' i) → (i : ℕ) (ss : List ℕ) → cost_fixed nodes i ss ≡ cost_fixed nodes' i ss
unfolding cost_fixed
cost_fixed_same nodes nodes' e i [] = refl
cost_fixed_same nodes nodes' e i (s ∷ ss) = ap₂ ◌+◌ (ap (◌* 2 ^ s) (e i)) (cost_fixed_same nodes nodes' e (i + s) ss)

-- ---- so the least cost is
pub cheapest_same : (kind : Kind) (k : ℕ) (t u : Trie) → SameNodes t u → (m : ℕ) → Cheapest kind k t m → Cheapest kind k u m
cheapest_same fixed k t u s m c =
    let e = cost_fixed_same (λ i. nodes_at i t) (λ i. nodes_at i u) (λ i. nodes_same i t u s) 0 in
    let d = depth_same t u s in
    let r = c.reached in
    record {
      reached = (r.0, subst (λ (n : ℕ). ValidFixed n k r.0) d r.1, sym (e r.0) ∙ r.2);
      lower = λ ss v. subst (λ (x : ℕ). m ≤ x) (e ss) (c.lower ss (subst (λ (n : ℕ). ValidFixed n k ss) (sym d) v));
    }
cheapest_same variable k t u s m c =
    let r = c.reached in
    record {
      reached = (r.0, valid_same t u 0 k r.0 s r.1, sym (cost_same t u 0 r.0 s) ∙ r.2);
      lower = λ σ v. subst (λ (x : ℕ). m ≤ x) (cost_same t u 0 σ s) (c.lower σ (valid_same u t 0 k σ (same_back t u s) v));
    }

-- ---- what each mark has
abbrev pub AllMarks : (ℕ → Type 0) → Trie → Type 0
AllMarks P none = Unit {0}
AllMarks P (node p a q b) = P p × AllMarks P a × P q × AllMarks P b

module _ (P : ℕ → Type 0) (none_has : P 0) where
  below_marks : (S : ℕ → ℕ → Bool) (M : ℕ → ℕ → ℕ) → ((d q : ℕ) → P (M d q)) → (m d q : ℕ) → AllMarks P (trie_below S M m d q)
  unfolding trie_below node_if
  below_marks S M h zero d q = tt
  below_marks S M h (suc m) d q = go (S d q) (below_marks S M h m (suc d) (with_bit q 0)) (below_marks S M h m (suc d) (with_bit q 1))
    where
      go : (t : Bool) → AllMarks P (trie_below S M m (suc d) (with_bit q 0)) → AllMarks P (trie_below S M m (suc d) (with_bit q 1))
          → AllMarks P (node_if t (M (suc d) (with_bit q 0)) (trie_below S M m (suc d) (with_bit q 0)) (M (suc d) (with_bit q 1)) (trie_below S M m (suc d) (with_bit q 1)))
      go true a b = (h (suc d) (with_bit q 0), a, h (suc d) (with_bit q 1), b)
      go false a b = tt

  mark_at_has : (W : ℕ) (val len mark : ℕ → ℕ) (n d q : ℕ) → ((i : ℕ) → i < n → P (mark i)) → P (mark_at W val len mark n d q)
  unfolding mark_at
  mark_at_has W val len mark zero d q h = none_has
  mark_at_has W val len mark (suc n) d q h = go (whole_entry W val len d q n) (mark_at_has W val len mark n d q (λ i l. h i (omega arith)))
    where
      go : (t : Bool) → P (mark_at W val len mark n d q) → P (cond t (mark n) (mark_at W val len mark n d q))
      go true r = h n (omega arith)
      go false r = r

  pub trie_marks : (W : ℕ) (val len mark : ℕ → ℕ) (n : ℕ) → ((i : ℕ) → i < n → P (mark i)) → AllMarks P (trie_of W val len mark n)
  unfolding trie_of
  trie_marks W val len mark n h = below_marks _ _ (λ d q. mark_at_has W val len mark n d q h) W 0 0

  kid_marks : (i : ℕ) (t : Trie) → AllMarks P t → AllMarks P (kid i t)
  kid_marks zero none a = tt
  kid_marks (suc i) none a = tt
  kid_marks zero (node p x q y) a = a.1
  kid_marks (suc i) (node p x q y) a = a.3

  own_mark : (i : ℕ) (t : Trie) → AllMarks P t → P (mark_on i t)
  own_mark zero none a = none_has
  own_mark (suc i) none a = none_has
  own_mark zero (node p x q y) a = a.0
  own_mark (suc i) (node p x q y) a = a.2

  newer_has : (mark best : ℕ) → P mark → P best → P (newer mark best)
  newer_has mark best m b = go (eqb mark 0)
    where
      go : (t : Bool) → P (cond t best mark)
      go true = b
      go false = m

  pub along_has : (n : ℕ) (t : Trie) (x best : ℕ) → AllMarks P t → P best → P (mark_along n t x best)
  unfolding mark_along
  along_has zero t x best a b = b
  along_has (suc n) t x best a b =
      along_has n (kid (bit n x) t) x (newer (mark_on (bit n x) t) best) (kid_marks (bit n x) t a) (newer_has _ best (own_mark (bit n x) t a) b)

  pub sub_marks : (n : ℕ) (t : Trie) (x : ℕ) → AllMarks P t → AllMarks P (sub_along n t x)
  unfolding sub_along
  sub_marks zero t x a = a
  sub_marks (suc n) t x a = sub_marks n (kid (bit n x) t) x (kid_marks (bit n x) t a)
