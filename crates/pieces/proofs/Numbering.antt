-- Numbers breadth first: how many nodes of a level stand left of a path, from the nodes four levels higher, and by the branches of a
-- supernode.
use Prim.Native.Nat.{ℕ, zero, suc, ◌+◌, ◌*◌, ◌/◌, ◌%◌, ◌^◌, ◌≤◌, ◌<◌, zero-le}
use mathlib.Core.Path.{◌≡◌, refl, sym, ap, ◌∙◌}
use mathlib.Core.Bool.{Bool}
use mathlib.Core.List.{List, ◌++◌, append_assoc}
use native.Mathlib.Nat.{two-pow-succ, mod-lt}
use native.Mathlib.Omega.{arith}
use lib.ListN.{length, length-append, take}
use lib.Pow.{pow_pos, mod-pow-add, high, low}
use lib.Seq.{take-append-le, take-append-add}
use Rattle.strides.specs.Trie.{bit}
use Rattle.strides.proofs.Paths.{bit_mod, bit_shr}
use Rattle.pieces.specs.BinaryTrie.{BinaryTrie, side_of}
use Rattle.pieces.specs.Maps.{STEP, EXTERNAL, count_set, is_node, is_kid, subtrie_along, if_node, kids}
use Rattle.pieces.specs.Order.{kids_of, order, level}
use Rattle.pieces.specs.Depth.{nodes_below, left_side, nodes_left, number_on}
use Rattle.pieces.proofs.Order.{kids-++, kids_order}
use Rattle.pieces.proofs.Depth.{kids_of_below, supernode_levels}
use Rattle.pieces.proofs.Inside.{length_node}
use Rattle.pieces.proofs.Passing.{along_same, branch_place}

bit_small : (n x : ℕ) → bit n x < 2
unfolding bit
bit_small n x = omega arith

-- ---- counts
count_same : (f g : ℕ → Bool) (n : ℕ) → ((i : ℕ) → i < n → f i ≡ g i) → count_set f n ≡ count_set g n
unfolding count_set
count_same f g zero e = refl
count_same f g (suc n) e = rw (e n (omega arith), count_same f g n (λ i h. e i (omega arith))) refl

count_add : (f : ℕ → Bool) (m n : ℕ) → count_set f (m + n) ≡ count_set f m + count_set (λ i. f (m + i)) n
unfolding count_set
count_add f m zero = let e : m + zero ≡ m = omega arith in rw e (omega arith)
count_add f m (suc n) = let e : m + suc n ≡ suc (m + n) = omega arith in rw e (omega (arith, count_add f m n))

-- ---- the nodes of a level by their paths
abbrev stands : (d : ℕ) → BinaryTrie → ℕ → Bool
stands d x i = is_node (subtrie_along d x i)

-- a path with the first bit 0, or 1
stands_0 : (d : ℕ) (x : BinaryTrie) (i : ℕ) → i < 2 ^ d → stands (suc d) x i ≡ stands d (side_of 0 x) i
unfolding subtrie_along
stands_0 d x i h =
    let e : i / 2 ^ d % 2 ≡ 0 = ap (λ (v : ℕ). v % 2) (ap (λ (y : ℕ). y / 2 ^ d) (omega arith) ∙ high 0 d h) in
    ap (λ (b : ℕ). is_node (subtrie_along d (side_of b x) i)) e

stands_1 : (d : ℕ) (x : BinaryTrie) (i : ℕ) → i < 2 ^ d → stands (suc d) x (2 ^ d + i) ≡ stands d (side_of 1 x) i
unfolding subtrie_along bit
stands_1 d x i h =
    let one : 2 ^ d + i ≡ 1 * 2 ^ d + i = omega arith in
    let e : (2 ^ d + i) / 2 ^ d % 2 ≡ 1 = ap (λ (y : ℕ). y / 2 ^ d % 2) one ∙ ap (λ (v : ℕ). v % 2) (high 1 d h) in
    let l : (2 ^ d + i) % 2 ^ d ≡ i = ap (λ (y : ℕ). y % 2 ^ d) one ∙ low 1 d h in
    ap (λ (b : ℕ). is_node (subtrie_along d (side_of b x) (2 ^ d + i))) e
    ∙ ap is_node (along_same d (side_of 1 x) (2 ^ d + i) i (λ j k. sym (bit_mod j d (2 ^ d + i) k) ∙ ap (bit j) l))

-- all of them, and those left of a path
all_stand : (d : ℕ) (x : BinaryTrie) → count_set (stands d x) (2 ^ d) ≡ length (nodes_below d x)
unfolding nodes_below count_set subtrie_along
all_stand zero x = omega (arith, length_node x)
all_stand (suc d) x =
    let e : 2 ^ suc d ≡ 2 ^ d + 2 ^ d = two-pow-succ d ∙ omega arith in
    ap (count_set (stands (suc d) x)) e
    ∙ count_add (stands (suc d) x) (2 ^ d) (2 ^ d)
    ∙ omega (
      arith,
      count_same (stands (suc d) x) (stands d (side_of 0 x)) (2 ^ d) (stands_0 d x),
      count_same (λ i. stands (suc d) x (2 ^ d + i)) (stands d (side_of 1 x)) (2 ^ d) (stands_1 d x),
      all_stand d (side_of 0 x),
      all_stand d (side_of 1 x),
      length-append (nodes_below d (side_of 0 x)) (nodes_below d (side_of 1 x)),
    )

rest_split : (d y : ℕ) → y % 2 ^ suc d ≡ bit d y * 2 ^ d + y % 2 ^ d
unfolding bit
rest_split d y = let e : suc d ≡ 1 + d = omega arith in ap (λ (k : ℕ). y % 2 ^ k) e ∙ mod-pow-add y 1 d

left_stand : (d : ℕ) (x : BinaryTrie) (y : ℕ) → count_set (stands d x) (y % 2 ^ d) ≡ nodes_left d x y
unfolding nodes_left count_set
left_stand zero x y = let e : y % 2 ^ 0 ≡ 0 = omega arith in rw e refl
left_stand (suc d) x y = ap (count_set (stands (suc d) x)) split ∙ go (bit d y) (bit_small d y) (left_stand d (side_of (bit d y) x) y)
  where
    split : y % 2 ^ suc d ≡ bit d y * 2 ^ d + y % 2 ^ d
    split = rest_split d y

    go : (b : ℕ) → b < 2 → count_set (stands d (side_of b x)) (y % 2 ^ d) ≡ nodes_left d (side_of b x) y
        → count_set (stands (suc d) x) (b * 2 ^ d + y % 2 ^ d) ≡ left_side b (length (nodes_below d (side_of 0 x))) + nodes_left d (side_of b x) y
    go zero h e =
        let z : 0 * 2 ^ d + y % 2 ^ d ≡ y % 2 ^ d = omega arith in
        let l = mod-lt y (pow_pos d) in
        ap (count_set (stands (suc d) x)) z
        ∙ count_same (stands (suc d) x) (stands d (side_of 0 x)) (y % 2 ^ d) (λ i k. stands_0 d x i (omega arith)) ∙ omega arith
    go (suc zero) h e =
        let z : 1 * 2 ^ d + y % 2 ^ d ≡ 2 ^ d + y % 2 ^ d = omega arith in
        let l = mod-lt y (pow_pos d) in
        ap (count_set (stands (suc d) x)) z ∙ count_add (stands (suc d) x) (2 ^ d) (y % 2 ^ d)
        ∙ omega (
          arith,
          count_same (stands (suc d) x) (stands d (side_of 0 x)) (2 ^ d) (stands_0 d x),
          all_stand d (side_of 0 x),
          count_same (λ i. stands (suc d) x (2 ^ d + i)) (stands d (side_of 1 x)) (y % 2 ^ d) (λ i k. stands_1 d x i (omega arith)),
        )
    go (suc (suc b)) h e = absurd (omega arith)

-- those under the branches left of a path's first four bits
pub branch_left : (x : BinaryTrie) (y : ℕ) → nodes_left STEP x y ≡ count_set (is_kid x) (y % EXTERNAL)
branch_left x y =
    sym (left_stand STEP x y)
    ∙ count_same (stands STEP x) (is_kid x) (y % EXTERNAL) (λ i h. ap is_node (sym (branch_place x i (omega (arith, mod-lt y (pow_pos STEP))))))

-- ---- four levels lower: the children of those on the left, and what stands left under the path's own node
left_le : (d : ℕ) (t : BinaryTrie) (y : ℕ) → nodes_left d t y ≤ length (nodes_below d t)
unfolding nodes_left nodes_below
left_le zero t y = zero-le
left_le (suc d) t y = go (bit d y) (bit_small d y) (left_le d (side_of (bit d y) t) y)
  where
    go : (b : ℕ) → b < 2 → nodes_left d (side_of b t) y ≤ length (nodes_below d (side_of b t))
        → left_side b (length (nodes_below d (side_of 0 t))) + nodes_left d (side_of b t) y ≤ length (nodes_below d (side_of 0 t) ++ nodes_below d (side_of 1 t))
    go zero h e = omega (arith, length-append (nodes_below d (side_of 0 t)) (nodes_below d (side_of 1 t)))
    go (suc zero) h e = omega (arith, length-append (nodes_below d (side_of 0 t)) (nodes_below d (side_of 1 t)))
    go (suc (suc b)) h e = absurd (omega arith)

abbrev left_kids : (c : ℕ) → BinaryTrie → (y : ℕ) → List BinaryTrie
left_kids c t y = kids_of kids (take (nodes_left c t y) (nodes_below c t))

pub left_lower : (c : ℕ) (t : BinaryTrie) (y : ℕ)
    → nodes_left (c + STEP) t y ≡ length (left_kids c t (y / EXTERNAL)) + nodes_left STEP (subtrie_along c t (y / EXTERNAL)) y
unfolding nodes_left nodes_below subtrie_along kids_of bit
left_lower zero t y = omega arith
left_lower (suc c) t y =
    let e : suc c + STEP ≡ suc (c + STEP) = omega arith in
    let f : bit (c + STEP) y ≡ bit c (y / EXTERNAL) = ap (λ (k : ℕ). bit k y) (omega arith) ∙ sym (bit_shr c STEP y) in
    ap (λ (k : ℕ). nodes_left k t y) e
    ∙ ap (λ (b : ℕ). left_side b (length (nodes_below (c + STEP) (side_of 0 t))) + nodes_left (c + STEP) (side_of b t) y) f
    ∙ go (bit c (y / EXTERNAL)) (bit_small c (y / EXTERNAL)) (left_lower c (side_of (bit c (y / EXTERNAL)) t) y)
  where
    z : ℕ
    z = y / EXTERNAL

    both : List BinaryTrie
    both = nodes_below c (side_of 0 t) ++ nodes_below c (side_of 1 t)

    go : (b : ℕ) → b < 2
        → nodes_left (c + STEP) (side_of b t) y ≡ length (left_kids c (side_of b t) z) + nodes_left STEP (subtrie_along c (side_of b t) z) y
        → left_side b (length (nodes_below (c + STEP) (side_of 0 t))) + nodes_left (c + STEP) (side_of b t) y
        ≡ length (kids_of kids (take (left_side b (length (nodes_below c (side_of 0 t))) + nodes_left c (side_of b t) z) both)) + nodes_left STEP (subtrie_along c (side_of b t) z) y
    go zero h e =
        let k : 0 + nodes_left c (side_of 0 t) z ≡ nodes_left c (side_of 0 t) z = omega arith in
        let s = take-append-le (nodes_left c (side_of 0 t) z) (nodes_below c (side_of 0 t)) (nodes_below c (side_of 1 t)) (left_le c (side_of 0 t) z) in
        rw (k, s) (omega arith)
    go (suc zero) h e =
        let s = take-append-add (nodes_below c (side_of 0 t)) (nodes_below c (side_of 1 t)) (nodes_left c (side_of 1 t) z) in
        let a = kids-++ kids (nodes_below c (side_of 0 t)) (take (nodes_left c (side_of 1 t) z) (nodes_below c (side_of 1 t))) in
        rw (s, a) (omega (arith, length-append (kids_of kids (nodes_below c (side_of 0 t))) (left_kids c (side_of 1 t) z), ap length (kids_of_below c (side_of 0 t))))
    go (suc (suc b)) h e = absurd (omega arith)

-- ---- the number of a supernode
-- the levels before level n, then level n and the rest
order_split : (m n : ℕ) (q : List BinaryTrie) → order kids (n + m) q ≡ order kids n q ++ order kids m (level kids n q)
unfolding order level
order_split m zero q = let e : zero + m ≡ m = omega arith in rw e refl
order_split m (suc n) q =
    let e : suc n + m ≡ suc (n + m) = omega arith in
    ap (λ (k : ℕ). order kids k q) e ∙ ap (λ (r : List BinaryTrie). q ++ r) (order_split m n (kids_of kids q))
    ∙ sym (append_assoc q (order kids n (kids_of kids q)) (order kids m (level kids n (kids_of kids q))))

-- the supernodes before number number_on n t y are the levels before level n and those of level n that stand left
pub before_number : (n m : ℕ) (t : BinaryTrie) (y : ℕ)
    → take (number_on n t y) (order kids (n + suc m) (if_node t)) ≡ order kids n (if_node t) ++ take (nodes_left (STEP * n) t y) (nodes_below (STEP * n) t)
unfolding number_on order
before_number n m t y =
    let l = supernode_levels n t in
    ap (take (length (order kids n (if_node t)) + nodes_left (STEP * n) t y)) (order_split (suc m) n (if_node t))
    ∙ take-append-add (order kids n (if_node t)) (level kids n (if_node t) ++ order kids m (kids_of kids (level kids n (if_node t)))) (nodes_left (STEP * n) t y)
    ∙ ap (λ (r : List BinaryTrie). order kids n (if_node t) ++ r)
    (ap (λ (q : List BinaryTrie). take (nodes_left (STEP * n) t y) (q ++ order kids m (kids_of kids (level kids n (if_node t))))) l
    ∙ take-append-le (nodes_left (STEP * n) t y) (nodes_below (STEP * n) t) (order kids m (kids_of kids (level kids n (if_node t)))) (left_le (STEP * n) t y))

-- so the child behind the branch that y's last four bits name has number number_on (n + 1) t y
pub child_number : (n m : ℕ) (t : BinaryTrie) (y : ℕ) → length (if_node t) ≡ 1
    → 1 + length (kids_of kids (take (number_on n t (y / EXTERNAL)) (order kids (n + suc m) (if_node t))))
    + count_set (is_kid (subtrie_along (STEP * n) t (y / EXTERNAL))) (y % EXTERNAL) ≡ number_on (suc n) t y
unfolding number_on order
child_number n m t y one =
    let z = y / EXTERNAL in
    let b = ap (kids_of kids) (before_number n m t z) ∙ kids-++ kids (order kids n (if_node t)) (take (nodes_left (STEP * n) t z) (nodes_below (STEP * n) t)) in
    let e : STEP * n + STEP ≡ STEP * suc n = omega arith in
    let down : nodes_left (STEP * suc n) t y ≡ length (left_kids (STEP * n) t z) + nodes_left STEP (subtrie_along (STEP * n) t z) y =
    ap (λ (k : ℕ). nodes_left k t y) (sym e) ∙ left_lower (STEP * n) t y in
    omega (
      arith,
      one,
      ap length b,
      length-append (kids_of kids (order kids n (if_node t))) (left_kids (STEP * n) t z),
      ap length (kids_order kids n (if_node t)),
      length-append (if_node t) (order kids n (kids_of kids (if_node t))),
      down,
      branch_left (subtrie_along (STEP * n) t z) y,
    )
