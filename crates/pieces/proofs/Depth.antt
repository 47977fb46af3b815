-- A supernode's children are the nodes four levels below; the levels of supernodes end with the trie, and all together are no more than
-- its nodes.
use Prim.Native.Nat.{ℕ, zero, suc, ◌+◌, ◌*◌, ◌≤◌, ◌<◌, zero-le}
use mathlib.Core.Path.{◌≡◌, refl, sym, ap, subst, ◌∙◌}
use mathlib.Core.Bool.{Bool, true, false}
use mathlib.Core.List.{List, [], ◌∷◌, ◌++◌, append_assoc, append-nil}
use native.Mathlib.Nat.{le_refl}
use native.Mathlib.Omega.{arith}
use lib.ListN.{length, length-append}
use Rattle.strides.specs.Entries.{with_bit}
use Rattle.pieces.specs.BinaryTrie.{BinaryTrie, empty, knot, binary_nodes, side_of, knot_if, binary_below, binary_trie_of}
use Rattle.pieces.specs.Maps.{STEP, place_level, subtrie_along, subtrie_at, if_node, kids_to, kids}
use Rattle.pieces.specs.Order.{kids_of, order, level}
use Rattle.pieces.proofs.Order.{kids-++}
use Rattle.pieces.specs.Depth.{deep, nodes_below}

-- ---- the nodes four levels below are the children
join : List (List BinaryTrie) → List BinaryTrie
join [] = []
join (x ∷ xs) = x ++ join xs

unfoldable leaves : ℕ → BinaryTrie → List (List BinaryTrie)
leaves zero t = if_node t ∷ []
leaves (suc c) t = leaves c (side_of 0 t) ++ leaves c (side_of 1 t)

unfoldable left : List BinaryTrie → List (List BinaryTrie) → List BinaryTrie
left acc [] = acc
left acc (x ∷ xs) = left (acc ++ x) xs

join-++ : (a b : List (List BinaryTrie)) → join (a ++ b) ≡ join a ++ join b
unfolding join
join-++ [] b = refl
join-++ (x ∷ a) b = ap (λ (q : List BinaryTrie). x ++ q) (join-++ a b) ∙ sym (append_assoc x (join a) (join b))

left_join : (acc : List BinaryTrie) (xs : List (List BinaryTrie)) → left acc xs ≡ acc ++ join xs
unfolding join left
left_join acc [] = sym (append-nil acc)
left_join acc (x ∷ xs) = left_join (acc ++ x) xs ∙ append_assoc acc x (join xs)

lower_join : (c : ℕ) (t : BinaryTrie) → nodes_below c t ≡ join (leaves c t)
unfolding nodes_below leaves join
lower_join zero t = sym (append-nil (if_node t))
lower_join (suc c) t = rw (lower_join c (side_of 0 t), lower_join c (side_of 1 t)) (sym (join-++ (leaves c (side_of 0 t)) (leaves c (side_of 1 t))))

pub kids_lower : (t : BinaryTrie) → kids t ≡ nodes_below 4 t
unfolding kids_to subtrie_at place_level subtrie_along left leaves
kids_lower t = left_join [] (leaves 4 t) ∙ sym (lower_join 4 t)

-- ---- of lists of tries
abbrev pub AllOf : (BinaryTrie → Type 0) → List BinaryTrie → Type 0
AllOf P [] = Unit {0}
AllOf P (t ∷ q) = P t × AllOf P q

pub all-++ : (P : BinaryTrie → Type 0) (a b : List BinaryTrie) → AllOf P a → AllOf P b → AllOf P (a ++ b)
all-++ P [] b x y = y
all-++ P (t ∷ a) b x y = (x.0, all-++ P a b x.1 y)

abbrev pub HasNode : BinaryTrie → Type 0
HasNode t = 0 < binary_nodes t

abbrev Deep : ℕ → BinaryTrie → Type 0
Deep d t = deep t ≤ d

unfoldable pub sizes : List BinaryTrie → ℕ
sizes [] = 0
sizes (t ∷ q) = binary_nodes t + sizes q

pub sizes-++ : (a b : List BinaryTrie) → sizes (a ++ b) ≡ sizes a + sizes b
unfolding sizes
sizes-++ [] b = omega arith
sizes-++ (t ∷ a) b = omega (arith, sizes-++ a b)

pub length_sizes : (q : List BinaryTrie) → AllOf HasNode q → length q ≤ sizes q
unfolding sizes
length_sizes [] a = zero-le
length_sizes (t ∷ q) a = omega (arith, length_sizes q a.1, a.0)

pub some_some : (t : BinaryTrie) → AllOf HasNode (if_node t)
unfolding if_node binary_nodes
some_some empty = tt
some_some (knot m l r) = (omega arith, tt)

pub some_sizes : (t : BinaryTrie) → sizes (if_node t) ≡ binary_nodes t
unfolding if_node binary_nodes sizes
some_sizes empty = refl
some_sizes (knot m l r) = omega arith

some_deep : (d : ℕ) (t : BinaryTrie) → deep t ≤ d → AllOf (Deep d) (if_node t)
unfolding if_node
some_deep d empty h = tt
some_deep d (knot m l r) h = (h, tt)

pub lower_some : (c : ℕ) (t : BinaryTrie) → AllOf HasNode (nodes_below c t)
unfolding nodes_below
lower_some zero t = some_some t
lower_some (suc c) t = all-++ HasNode (nodes_below c (side_of 0 t)) (nodes_below c (side_of 1 t)) (lower_some c (side_of 0 t)) (lower_some c (side_of 1 t))

pub lower_empty : (c : ℕ) → nodes_below c empty ≡ []
unfolding nodes_below if_node
lower_empty zero = refl
lower_empty (suc c) = rw (lower_empty c) refl

pub lower_sizes : (c : ℕ) (t : BinaryTrie) → sizes (nodes_below c t) ≤ binary_nodes t
unfolding nodes_below binary_nodes sizes
lower_sizes zero t = rw (some_sizes t) (le_refl (binary_nodes t))
lower_sizes (suc c) empty = rw (lower_empty c) zero-le
lower_sizes (suc c) (knot m l r) = omega (arith, sizes-++ (nodes_below c l) (nodes_below c r), lower_sizes c l, lower_sizes c r)

-- a child is not its supernode
pub lower_less : (c : ℕ) (t : BinaryTrie) → HasNode t → sizes (nodes_below (suc c) t) < binary_nodes t
unfolding nodes_below binary_nodes
lower_less c empty h = absurd (omega arith)
lower_less c (knot m l r) h = omega (arith, sizes-++ (nodes_below c l) (nodes_below c r), lower_sizes c l, lower_sizes c r)

lower_deep : (c d : ℕ) (t : BinaryTrie) → deep t ≤ d + c → AllOf (Deep d) (nodes_below c t)
unfolding nodes_below deep
lower_deep zero d t h = some_deep d t (omega arith)
lower_deep (suc c) d empty h = rw (lower_empty c) tt
lower_deep (suc c) d (knot m l r) h = all-++ (Deep d) (nodes_below c l) (nodes_below c r) (lower_deep c d l (omega arith)) (lower_deep c d r (omega arith))

-- ---- the levels end, and hold no more than the trie has nodes
pub kids_some : (q : List BinaryTrie) → AllOf HasNode (kids_of kids q)
unfolding kids_of
kids_some [] = tt
kids_some (t ∷ q) = all-++ HasNode (kids t) (kids_of kids q) (rw (kids_lower t) (lower_some 4 t)) (kids_some q)

kids_deep : (d : ℕ) (q : List BinaryTrie) → AllOf (Deep (d + 4)) q → AllOf (Deep d) (kids_of kids q)
unfolding kids_of
kids_deep d [] a = tt
kids_deep d (t ∷ q) a = all-++ (Deep d) (kids t) (kids_of kids q) (rw (kids_lower t) (lower_deep 4 d t a.0)) (kids_deep d q a.1)

pub kids_sizes : (q : List BinaryTrie) → AllOf HasNode q → length q + sizes (kids_of kids q) ≤ sizes q
unfolding kids_of sizes
kids_sizes [] a = zero-le
kids_sizes (t ∷ q) a =
    omega (arith, sizes-++ (kids t) (kids_of kids q), kids_sizes q a.1, subst (λ (k : List BinaryTrie). sizes k < binary_nodes t) (sym (kids_lower t)) (lower_less 3 t a.0))

pub order_length : (n : ℕ) (q : List BinaryTrie) → AllOf HasNode q → length (order kids n q) ≤ sizes q
unfolding order
order_length zero q a = zero-le
order_length (suc n) q a =
    omega (arith, length-append q (order kids n (kids_of kids q)), kids_sizes q a, order_length n (kids_of kids q) (kids_some q))

no_level : (n d : ℕ) (q : List BinaryTrie) → d ≡ 4 * n → AllOf HasNode q → AllOf (Deep d) q → level kids n q ≡ []
unfolding level deep binary_nodes
no_level zero d [] e s a = refl
no_level zero d (empty ∷ q) e s a = absurd (omega (arith, s.0))
no_level zero d (knot m l r ∷ q) e s a = absurd (omega (arith, a.0))
no_level (suc n) d q e s a =
    let z : d ≡ 4 * n + 4 = omega arith in
    no_level n (4 * n) (kids_of kids q) refl (kids_some q) (kids_deep (4 * n) q (rw z at a))

-- so W / 4 + 1 levels are all
pub levels_end : (n : ℕ) (t : BinaryTrie) → deep t ≤ 4 * n → level kids n (if_node t) ≡ []
levels_end n t h = no_level n (4 * n) (if_node t) refl (some_some t) (some_deep (4 * n) t h)

-- ---- one supernode for each node at the levels 0, 4, 8, ..
kids_of_node : (t : BinaryTrie) → kids_of kids (if_node t) ≡ nodes_below STEP t
unfolding kids_of if_node
kids_of_node empty = sym (lower_empty STEP)
kids_of_node (knot m l r) = append-nil (kids (knot m l r)) ∙ kids_lower (knot m l r)

pub kids_of_below : (c : ℕ) (t : BinaryTrie) → kids_of kids (nodes_below c t) ≡ nodes_below (c + STEP) t
unfolding nodes_below
kids_of_below zero t = kids_of_node t
kids_of_below (suc c) t =
    let e : suc c + STEP ≡ suc (c + STEP) = omega arith in
    kids-++ kids (nodes_below c (side_of 0 t)) (nodes_below c (side_of 1 t))
    ∙ ap (λ (q : List BinaryTrie). q ++ kids_of kids (nodes_below c (side_of 1 t))) (kids_of_below c (side_of 0 t))
    ∙ ap (λ (q : List BinaryTrie). nodes_below (c + STEP) (side_of 0 t) ++ q) (kids_of_below c (side_of 1 t))
    ∙ ap (λ (d : ℕ). nodes_below d t) (sym e)

level_below : (n c : ℕ) (t : BinaryTrie) → level kids n (nodes_below c t) ≡ nodes_below (c + STEP * n) t
unfolding level
level_below zero c t = let e : c + STEP * zero ≡ c = omega arith in ap (λ (d : ℕ). nodes_below d t) (sym e)
level_below (suc n) c t =
    let e : c + STEP + STEP * n ≡ c + STEP * suc n = omega arith in
    ap (level kids n) (kids_of_below c t) ∙ level_below n (c + STEP) t ∙ ap (λ (d : ℕ). nodes_below d t) e

pub supernode_levels : (n : ℕ) (t : BinaryTrie) → level kids n (if_node t) ≡ nodes_below (STEP * n) t
unfolding nodes_below
supernode_levels n t = let e : 0 + STEP * n ≡ STEP * n = omega arith in level_below n 0 t ∙ ap (λ (d : ℕ). nodes_below d t) e

-- ---- no trie of a table is deeper than W + 1 levels
below_deep : (S : ℕ → ℕ → Bool) (M : ℕ → ℕ → ℕ) (m d q : ℕ) → deep (binary_below S M m d q) ≤ m
unfolding binary_below knot_if deep
below_deep S M zero d q = zero-le
below_deep S M (suc m) d q = go (S d q) (below_deep S M m (suc d) (with_bit q 0)) (below_deep S M m (suc d) (with_bit q 1))
  where
    go : (b : Bool) → deep (binary_below S M m (suc d) (with_bit q 0)) ≤ m → deep (binary_below S M m (suc d) (with_bit q 1)) ≤ m
        → deep (knot_if b (M d q) (binary_below S M m (suc d) (with_bit q 0)) (binary_below S M m (suc d) (with_bit q 1))) ≤ suc m
    go true a b = omega arith
    go false a b = zero-le

pub tree_deep : (W : ℕ) (val len mark : ℕ → ℕ) (n : ℕ) → deep (binary_trie_of W val len mark n) ≤ suc W
unfolding binary_trie_of
tree_deep W val len mark n = below_deep _ _ (suc W) 0 0
