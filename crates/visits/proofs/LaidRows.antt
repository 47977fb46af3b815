-- What the lists hold where the supernodes of a trie lie in them: the row of each, its children's numbers and its hops' numbers.
use Prim.Native.Nat.{ℕ, zero, suc, ◌+◌, ◌-◌, ◌/◌, ◌^◌, ◌≤◌, ◌<◌}
use mathlib.Core.Path.{◌≡◌, refl, sym, ap, subst, ◌∙◌}
use mathlib.Core.Bool.{true}
use mathlib.Core.List.{List, [], ◌∷◌, ◌++◌, append_assoc}
use native.Mathlib.Omega.{arith}
use lib.Dec.{ltb}
use lib.ListN.{length, length-append, get_or, take, drop, take-append-drop, length-drop}
use lib.Seq.{drop-append-add, drop-append-le, drop-drop, drop-nil, get_or_at, length-take-le}
use borrow.Author.Tests.{ne_eqb}
use Rattle.table.specs.Table.{at}
use Rattle.pieces.specs.BinaryTrie.{BinaryTrie, empty, mark}
use Rattle.pieces.specs.Maps.{STEP, INTERNAL, EXTERNAL, place_on, bit_at, count_set, is_node, is_kid, is_marked, subtrie_at, subtrie_along, internal_map, external_map, if_node, kids, marks}
use Rattle.pieces.specs.Order.{kids_of, order}
use Rattle.pieces.specs.Rows.{SupernodeRow, if_any, supernode_row, supernode_rows, supernodes_of, bitmap_rows, marks_of_all, bitmap_hops}
use Rattle.pieces.specs.Cuts.{ones_before, child_at}
use Rattle.pieces.specs.Depth.{deep}
use Rattle.pieces.proofs.Order.{kid_place}
use Rattle.pieces.proofs.Depth.{levels_end}
use Rattle.pieces.proofs.Counted.{before_map}
use Rattle.pieces.proofs.Places.{place_level_lem, small_bit, true_false}
use Rattle.pieces.proofs.Inside.{node_is, external_bit, internal_bit, at_place_lem, place_few, kid_at, hop_at}
use Rattle.visits.specs.Rows.{RowLists, supernode_at, HoldRows, HoldHops}

-- a map with a bit is not 0
map_some : (map i : ℕ) → bit_at map i ≡ true → map ≡ 0 → ⊥
unfolding bit_at
map_some map i e z = true_false (small_bit 0 i (omega (arith, lib.Pow.pow_pos i))) (rw z at e)

any_is : (map i x : ℕ) → bit_at map i ≡ true → if_any map x ≡ x
any_is map i x e = rw (ne_eqb map 0 (map_some map i e)) refl

-- ---- one row, one hop
row_held : (rows : RowLists) (child hop base : ℕ) (a : List BinaryTrie) (x : BinaryTrie) (b : List BinaryTrie) (i c h : ℕ)
    → i ≡ base + length a → c ≡ child + length (kids_of kids a) → h ≡ hop + length (marks_of_all a)
    → HoldRows rows base (supernode_rows child hop (a ++ (x ∷ b))) → supernode_at rows i ≡ supernode_row c h x
unfolding supernode_rows kids_of marks_of_all
row_held rows child hop base [] x b i c h e f g held =
    let e1 : i ≡ base = omega arith in
    let f1 : c ≡ child = omega arith in
    let g1 : h ≡ hop = omega arith in
    rw (e1, f1, g1) held.0
row_held rows child hop base (y ∷ a) x b i c h e f g held =
    row_held rows (child + length (kids y)) (hop + length (marks y)) (suc base) a x b i c h (omega arith)
    (omega (arith, length-append (kids y) (kids_of kids a))) (omega (arith, length-append (marks y) (marks_of_all a))) held.1

hop_held : (hops : List ℕ) (base k : ℕ) (m : List ℕ) (v : ℕ) (rest : List ℕ) (i : ℕ) → i ≡ base + k → drop k m ≡ v ∷ rest → HoldHops hops base m
    → get_or hops i 0 ≡ v
hop_held hops base k [] v rest i e f held =
    let z : 0 ≡ length (v ∷ rest) = ap length (sym (drop-nil k) ∙ f) in
    absurd (omega arith)
hop_held hops base zero (y ∷ m) v rest i e f held =
    let z : i ≡ base = omega arith in
    rw z (held.0 ∙ ap (λ (l : List ℕ). get_or l 0 0) f)
hop_held hops base (suc k) (y ∷ m) v rest i e f held = hop_held hops (suc base) k m v rest i (omega arith) f held.1

marks_append : (a b : List BinaryTrie) → marks_of_all (a ++ b) ≡ marks_of_all a ++ marks_of_all b
unfolding marks_of_all
marks_append [] b = refl
marks_append (x ∷ a) b = ap (λ (q : List ℕ). marks x ++ q) (marks_append a b) ∙ sym (append_assoc (marks x) (marks_of_all a) (marks_of_all b))

drop_some : {X : Type 0} (k : ℕ) (l : List X) (v : X) (rest : List X) → drop k l ≡ v ∷ rest → k < length l
drop_some k l v rest e = omega (arith, length-drop k l, ap length e)

-- ---- number i is the supernode x
pub record AtNumber (W : ℕ) (t : BinaryTrie) (i : ℕ) (x : BinaryTrie) : Type 0 where
  pub before : List BinaryTrie
  pub after : List BinaryTrie
  pub place : length before ≡ i
  pub all : supernodes_of W t ≡ before ++ (x ∷ after)

module _ {W : ℕ} {t : BinaryTrie} where
  pub numbered_lt : {i : ℕ} {x : BinaryTrie} → AtNumber W t i x → i < length (supernodes_of W t)
  numbered_lt {x = x} n = omega (arith, n.place, ap length n.all, length-append n.before (x ∷ n.after))

  pub numbered_is : {i : ℕ} {x : BinaryTrie} → AtNumber W t i x → get_or (supernodes_of W t) i empty ≡ x
  numbered_is {i} {x} n = ap (λ (q : List BinaryTrie). get_or q i empty) n.all ∙ get_or_at n.before x n.after empty i n.place

  of_drop : (i : ℕ) (x : BinaryTrie) (rest : List BinaryTrie) → drop i (supernodes_of W t) ≡ x ∷ rest → AtNumber W t i x
  of_drop i x rest e = record {
    before = take i (supernodes_of W t);
    after = rest;
    place = length-take-le i (supernodes_of W t) (omega (arith, drop_some i (supernodes_of W t) x rest e));
    all = sym (take-append-drop i (supernodes_of W t)) ∙ ap (λ (q : List BinaryTrie). take i (supernodes_of W t) ++ q) e;
  }

  -- the root is number 0
  pub numbered_root : is_node t ≡ true → AtNumber W t 0 t
  unfolding supernodes_of order
  numbered_root e = record {
    before = [];
    after = order kids (W / STEP) (kids_of kids (if_node t));
    place = refl;
    all = ap (λ (q : List BinaryTrie). q ++ order kids (W / STEP) (kids_of kids (if_node t))) (node_is t e);
  }

  module _ (rows : RowLists) {i : ℕ} {x : BinaryTrie} (n : AtNumber W t i x) (held : HoldRows rows 0 (bitmap_rows W t)) where
    -- its row: the children and the hops of all before it come first
    abbrev kids_before : ℕ
    kids_before = length (kids_of kids n.before)

    abbrev hops_before : ℕ
    hops_before = length (marks_of_all n.before)

    pub numbered_row : supernode_at rows i ≡ supernode_row (1 + kids_before) hops_before x
    unfolding bitmap_rows
    numbered_row =
        row_held rows 1 0 0 n.before x n.after i _ _ (omega (arith, n.place)) refl (omega arith)
        (subst (λ (q : List BinaryTrie). HoldRows rows 0 (supernode_rows 1 0 q)) n.all held)

    -- the child behind the branch p
    kid_numbered : is_node t ≡ true → deep t ≤ suc W → (p : ℕ) → p < EXTERNAL → is_kid x p ≡ true
        → AtNumber W t (1 + kids_before + count_set (is_kid x) p) (subtrie_at (INTERNAL + p) x)
    unfolding supernodes_of
    kid_numbered root flat p h e =
        let k = kid_at x EXTERNAL p h e in
        let c = count_set (is_kid x) p in
        let end = levels_end (suc (W / STEP)) t (omega arith) in
        let all = kid_place kids (suc (W / STEP)) (if_node t) n.before n.after x end n.all in
        let one : length (if_node t) ≡ 1 = ap length (node_is t root) in
        of_drop (1 + kids_before + c) (subtrie_at (INTERNAL + p) x) (k.0 ++ kids_of kids n.after) (
        sym (drop-drop c (1 + kids_before) (supernodes_of W t))
        ∙ ap (λ (m : ℕ). drop c (drop (m + kids_before) (supernodes_of W t))) (sym one)
        ∙ ap (drop c) all
        ∙ drop-append-le c (kids x) (kids_of kids n.after) (omega (arith, drop_some c (kids x) _ k.0 k.1))
        ∙ ap (λ (q : List BinaryTrie). q ++ kids_of kids n.after) k.1)

    module _ (p : ℕ) (h : p < EXTERNAL) (e : bit_at (supernode_at rows i).external p ≡ true) where
      branch_set : bit_at (external_map x) p ≡ true
      branch_set = subst (λ (r : SupernodeRow). bit_at r.external p ≡ true) numbered_row e

      pub child_is : child_at (supernode_at rows i) p ≡ 1 + kids_before + count_set (is_kid x) p
      unfolding external_map
      child_is =
          ap (λ (r : SupernodeRow). child_at r p) numbered_row
          ∙ ap (λ (m : ℕ). m + ones_before (external_map x) p) (any_is (external_map x) p (1 + kids_before) branch_set)
          ∙ ap (λ (m : ℕ). 1 + kids_before + m) (before_map EXTERNAL p (is_kid x) (omega arith))

      pub numbered_child : is_node t ≡ true → deep t ≤ suc W → AtNumber W t (child_at (supernode_at rows i) p) (subtrie_at (INTERNAL + p) x)
      numbered_child root flat = rw child_is (kid_numbered root flat p h (sym (external_bit x p h) ∙ branch_set))

    -- the hop of the place on the path p at level j
    module _ (hops : List ℕ) (hopped : HoldHops hops 0 (bitmap_hops W t)) (p j : ℕ) (h : p < EXTERNAL) (l : j ≤ 3) where
      hop_numbered : is_marked x (place_on p j) ≡ true → (v : ℕ) → mark (subtrie_at (place_on p j) x) ≡ v
          → (get_or hops (hops_before + count_set (is_marked x) (place_on p j)) 0 ≡ v) × (hops_before + count_set (is_marked x) (place_on p j) < length (bitmap_hops W t))
      unfolding bitmap_hops marks_of_all
      hop_numbered e v m =
          let c = count_set (is_marked x) (place_on p j) in
          let k = hop_at x INTERNAL (place_on p j) (place_few (place_on p j) j (place_level_lem p j h l)) e in
          let there : drop (hops_before + c) (marks_of_all (supernodes_of W t)) ≡ mark (subtrie_at (place_on p j) x) ∷ (k.0 ++ marks_of_all n.after) =
          ap (λ (q : List BinaryTrie). drop (hops_before + c) (marks_of_all q)) n.all
          ∙ ap (drop (hops_before + c)) (marks_append n.before (x ∷ n.after))
          ∙ drop-append-add (marks_of_all n.before) (marks x ++ marks_of_all n.after) c
          ∙ drop-append-le c (marks x) (marks_of_all n.after) (omega (arith, drop_some c (marks x) _ k.0 k.1))
          ∙ ap (λ (q : List ℕ). q ++ marks_of_all n.after) k.1 in (
            hop_held hops 0 (hops_before + c) (marks_of_all (supernodes_of W t)) _ _ (hops_before + c) (omega arith) there hopped ∙ m,
            drop_some (hops_before + c) (marks_of_all (supernodes_of W t)) _ _ there,
          )

      pub numbered_hop : bit_at (supernode_at rows i).internal (place_on p j) ≡ true →
          let place = (supernode_at rows i).first_hop + ones_before (supernode_at rows i).internal (place_on p j) in
          (at hops place ≡ mark (subtrie_along j x (p / 2 ^ (STEP - j)))) × (place < length (bitmap_hops W t))
      unfolding internal_map
      numbered_hop e =
          let s : bit_at (internal_map x) (place_on p j) ≡ true = subst (λ (r : SupernodeRow). bit_at r.internal (place_on p j) ≡ true) numbered_row e in
          let c : (supernode_at rows i).first_hop + ones_before (supernode_at rows i).internal (place_on p j) ≡ hops_before + count_set (is_marked x) (place_on p j) =
          ap (λ (r : SupernodeRow). r.first_hop + ones_before r.internal (place_on p j)) numbered_row
          ∙ ap (λ (m : ℕ). m + ones_before (internal_map x) (place_on p j)) (any_is (internal_map x) (place_on p j) hops_before s)
          ∙ ap (λ (m : ℕ). hops_before + m) (before_map INTERNAL (place_on p j) (is_marked x) (omega (arith, place_few (place_on p j) j (place_level_lem p j h l)))) in
          let w = at_place_lem x p j h l in
          let marked : is_marked x (place_on p j) ≡ true = ap (λ (u : BinaryTrie). ltb 0 (mark u)) w ∙ sym (internal_bit x p j h l) ∙ s in
          rw c (hop_numbered marked _ (ap mark w))
