-- The numbers that an address's way visits, in the rows of a trie: those of the supernodes at its own nodes, level by level.
use Prim.Native.Nat.{ℕ, zero, suc, ◌+◌, ◌-◌, ◌*◌, ◌/◌, ◌%◌, ◌^◌, ◌≤◌, ◌<◌}
use mathlib.Core.Path.{◌≡◌, sym, ap, ◌∙◌}
use mathlib.Core.Bool.{Bool, true}
use mathlib.Core.List.{List, ◌∷◌}
use native.Mathlib.Omega.{arith}
use lib.ListN.{length, get_or, take}
use lib.Pow.{shr-shr}
use lib.Seq.{take_at}
use Rattle.pieces.specs.BinaryTrie.{BinaryTrie}
use Rattle.pieces.specs.Maps.{STEP, INTERNAL, EXTERNAL, bit_at, count_set, is_node, is_kid, subtrie_at, subtrie_along, if_node, kids}
use Rattle.pieces.specs.Order.{kids_of, order}
use Rattle.pieces.specs.Rows.{supernodes_of, bitmap_rows}
use Rattle.pieces.specs.Cuts.{path_at, child_at}
use Rattle.pieces.specs.Depth.{deep, number_on}
use Rattle.pieces.proofs.Inside.{node_is}
use Rattle.pieces.proofs.Passing.{along_split, along_path, cut_start, branch_place}
use Rattle.pieces.proofs.Numbering.{child_number}
use Rattle.visits.specs.Winner.{Best}
use Rattle.visits.specs.Rows.{RowLists, supernode_at, HoldRows}
use Rattle.visits.specs.Meaning.{Way, past, last, above, on}
use Rattle.visits.proofs.Means.{path_small}
use Rattle.visits.proofs.LaidRows.{AtNumber, child_is, numbered_child}

module _ (W : ℕ) (t : BinaryTrie) (rows : RowLists) (address : ℕ) (held : HoldRows rows 0 (bitmap_rows W t)) (root : is_node t ≡ true) (flat : deep t ≤ suc W) where
  -- number i is the supernode at level 4n on the address's path, where `left` bits are left
  pub record OnNode (n left i : ℕ) : Type 0 where
    pub whole : STEP * n + left ≡ W
    pub trie : BinaryTrie
    pub own : trie ≡ subtrie_along (STEP * n) t (address / 2 ^ left)
    pub at : AtNumber W t i trie
    pub number : i ≡ number_on n t (address / 2 ^ left)

  module _ {n left i : ℕ} (s : OnNode n left i) (l : STEP ≤ left) (e : bit_at (supernode_at rows i).external (path_at address left) ≡ true) where
    abbrev y : ℕ
    y = address / 2 ^ (left - STEP)

    upper : y / EXTERNAL ≡ address / 2 ^ left
    upper = let d : left - STEP + STEP ≡ left = omega arith in shr-shr address (left - STEP) STEP ∙ ap (λ (k : ℕ). address / 2 ^ k) d

    lower_bits : y % EXTERNAL ≡ path_at address left
    lower_bits = sym (cut_start address left STEP (omega arith) l) ∙ omega arith

    -- the child's number
    child_on : child_at (supernode_at rows i) (path_at address left) ≡ number_on (suc n) t y
    unfolding supernodes_of
    child_on =
        let m : ℕ = W / STEP - n in
        let levels : suc (W / STEP) ≡ n + suc m = omega (arith, s.whole) in
        let a = s.at in
        let before : a.before ≡ take (number_on n t (y / EXTERNAL)) (order kids (n + suc m) (if_node t)) =
        sym (take_at a.before (s.trie ∷ a.after) i a.place)
        ∙ ap (take i) (sym a.all ∙ ap (λ (k : ℕ). order kids k (if_node t)) levels)
        ∙ ap (λ (k : ℕ). take k (order kids (n + suc m) (if_node t))) (s.number ∙ ap (number_on n t) (sym upper)) in
        child_is rows s.at held (path_at address left) (path_small address left) e
        ∙ ap (λ (q : List BinaryTrie). 1 + length (kids_of kids q) + count_set (is_kid s.trie) (path_at address left)) before
        ∙ ap (λ (u : BinaryTrie). 1 + length (kids_of kids (take (number_on n t (y / EXTERNAL)) (order kids (n + suc m) (if_node t)))) + count_set (is_kid u) (path_at address left))
        (s.own ∙ ap (subtrie_along (STEP * n) t) (sym upper))
        ∙ ap (λ (k : ℕ). 1 + length (kids_of kids (take (number_on n t (y / EXTERNAL)) (order kids (n + suc m) (if_node t)))) + count_set (is_kid (subtrie_along (STEP * n) t (y / EXTERNAL))) k)
        (sym lower_bits)
        ∙ child_number n m t y (ap length (node_is t root))

    child_trie : subtrie_at (INTERNAL + path_at address left) s.trie ≡ subtrie_along (STEP * suc n) t y
    child_trie =
        let k : STEP * n + STEP ≡ STEP * suc n = omega arith in
        let z : path_at address left / 2 ^ 0 ≡ path_at address left = omega arith in
        branch_place s.trie (path_at address left) (path_small address left)
        ∙ ap (subtrie_along STEP s.trie) (sym z) ∙ along_path s.trie address left STEP (omega arith) l
        ∙ ap (λ (u : BinaryTrie). subtrie_along STEP u y) (s.own ∙ ap (subtrie_along (STEP * n) t) (sym upper))
        ∙ sym (along_split (STEP * n) STEP t y) ∙ ap (λ (d : ℕ). subtrie_along d t y) k

    next_on : OnNode (suc n) (left - STEP) (child_at (supernode_at rows i) (path_at address left))
    next_on = record {
      whole = omega (arith, s.whole);
      trie = subtrie_at (INTERNAL + path_at address left) s.trie;
      own = child_trie;
      at = numbered_child rows s.at held (path_at address left) (path_small address left) e root flat;
      number = child_on;
    }

  here : {n left i : ℕ} → OnNode n left i → i ≡ number_on (n + 0) t (address / 2 ^ (left - STEP * 0))
  here {n} {left} s =
      let e : n ≡ n + 0 = omega arith in
      let f : left ≡ left - STEP * 0 = omega arith in
      s.number ∙ ap (λ (k : ℕ). number_on k t (address / 2 ^ left)) e ∙ ap (λ (k : ℕ). number_on (n + 0) t (address / 2 ^ k)) f

  -- each number visited is that of the supernode at the address's own node
  pub numbers_on : {count i left : ℕ} {b c : Best} {is : List ℕ} {w : Bool} → Way count address (supernode_at rows) i left b is c w → {n : ℕ} → OnNode n left i
      → (m : ℕ) → m < length is → get_or is m 0 ≡ number_on (n + m) t (address / 2 ^ (left - STEP * m))
  numbers_on (past g) s m h = absurd (omega arith)
  numbers_on (last g a e) s zero h = here s
  numbers_on (last g a e) s (suc m) h = absurd (omega arith)
  numbers_on (above g a e l) s zero h = here s
  numbers_on (above g a e l) s (suc m) h = absurd (omega arith)
  numbers_on (on g a e l p) s zero h = here s
  numbers_on {left = left} (on g a e l p) {n} s (suc m) h =
      let j : suc n + m ≡ n + suc m = omega arith in
      let k : left - STEP - STEP * m ≡ left - STEP * suc m = omega arith in
      numbers_on p (next_on s l e) m (omega arith) ∙ ap (λ (d : ℕ). number_on d t (address / 2 ^ (left - STEP - STEP * m))) j
      ∙ ap (λ (d : ℕ). number_on (n + suc m) t (address / 2 ^ d)) k
