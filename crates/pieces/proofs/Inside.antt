-- What the maps of a supernode say of the trie: a place on the path is a node along the path's first bits; the child behind a branch
-- stands in the list of children as far on as there are ones before the branch.
use Prim.Native.Nat.{ℕ, zero, suc, ◌+◌, ◌-◌, ◌/◌, ◌^◌, ◌≤◌, ◌<◌}
use mathlib.Core.Path.{◌≡◌, refl, sym, ap, ◌∙◌}
use mathlib.Core.Bool.{Bool, true, false}
use mathlib.Core.List.{List, [], ◌∷◌, ◌++◌, append_assoc, append-nil}
use mathlib.Core.Logic.{⊎_elim, ◌↔◌}
use native.Mathlib.Nat.{eq-or-lt_of_le}
use native.Mathlib.Omega.{arith}
use lib.Count.{ones, ones_in}
use lib.Dec.{ltb}
use borrow.Author.Tests.{lt-ltb}
use lib.ListN.{length, length-append, drop}
use lib.Seq.{drop-append_seam, drop-append-le}
use Rattle.pieces.specs.BinaryTrie.{BinaryTrie, empty, knot, mark}
use Rattle.pieces.specs.Maps.{INTERNAL, EXTERNAL, is_kid, is_marked, kids, marks, digit, map_of, bit_at}
use Rattle.pieces.specs.Maps.{place_on, is_node, count_set, subtrie_along, subtrie_at, internal_map, external_map, if_node, if_mark, kids_to, marks_to}
use Rattle.pieces.proofs.Bits.{bit_map, map_lt, no_bits}
use Rattle.pieces.proofs.Places.{Level, level_of_lem, place_level_lem}
use Rattle.pieces.proofs.Counted.{ones_map}

off : (a b c : ℕ) → c ≡ a + b → c - a ≡ b
off a b c e = omega arith

place_rest : (p j : ℕ) → place_on p j - (2 ^ j - 1) ≡ p / 2 ^ (4 - j)
unfolding place_on
place_rest p j = off (2 ^ j - 1) (p / 2 ^ (4 - j)) (place_on p j) refl

pub at_place_lem : (t : BinaryTrie) (p j : ℕ) → p < 16 → j ≤ 3 → subtrie_at (place_on p j) t ≡ subtrie_along j t (p / 2 ^ (4 - j))
unfolding subtrie_at
at_place_lem t p j h k =
    ap (λ (i : ℕ). subtrie_along i t (place_on p j - (2 ^ i - 1))) (level_of_lem (place_on p j) j (place_level_lem p j h k)) ∙ ap (subtrie_along j t) (place_rest p j)

pub place_few : (i j : ℕ) → Level i j → i < INTERNAL
place_few i zero v = omega (arith, v.high)
place_few i (suc zero) v = omega (arith, v.high)
place_few i (suc (suc zero)) v = omega (arith, v.high)
place_few i (suc (suc (suc zero))) v = omega (arith, v.high)
place_few i (suc (suc (suc (suc j)))) v = absurd (omega (arith, v.few))

-- the internal bit on the path at level j
pub internal_bit : (t : BinaryTrie) (p j : ℕ) → p < 16 → j ≤ 3 → bit_at (internal_map t) (place_on p j) ≡ ltb 0 (mark (subtrie_along j t (p / 2 ^ (4 - j))))
unfolding internal_map
internal_bit t p j h k =
    bit_map 15 (λ i. ltb 0 (mark (subtrie_at i t))) (place_on p j) (place_few (place_on p j) j (place_level_lem p j h k))
    ∙ ap (λ (u : BinaryTrie). ltb 0 (mark u)) (at_place_lem t p j h k)

-- the branch
pub external_bit : (t : BinaryTrie) (p : ℕ) → p < 16 → bit_at (external_map t) p ≡ is_node (subtrie_at (15 + p) t)
unfolding external_map
external_bit t p h = bit_map 16 (λ i. is_node (subtrie_at (15 + i) t)) p h

-- ---- what stands at the places, in order
count_mono : (f : ℕ → Bool) (i n : ℕ) → i ≤ n → count_set f i ≤ count_set f n
unfolding count_set
count_mono f i zero h = let e : i ≡ 0 = omega arith in rw e (omega arith)
count_mono f i (suc n) h = ⊎_elim (λ (e : i ≡ suc n). rw e (omega arith)) (λ (l : i < suc n). omega (arith, count_mono f i n (omega arith))) (eq-or-lt_of_le h)

-- at place i one thing stands where f says so, else none
module _ {X : Type 0} (g : ℕ → List X) (f : ℕ → Bool) (one : (i : ℕ) → length (g i) ≡ digit (f i)) where
  gather : ℕ → List X
  gather zero = []
  gather (suc n) = gather n ++ g n

  gather_length : (n : ℕ) → length (gather n) ≡ count_set f n
  unfolding count_set gather
  gather_length zero = refl
  gather_length (suc n) = length-append (gather n) (g n) ∙ omega (arith, gather_length n, one n)

  -- what stands at place p is the one before which as many stand as are set before p
  gather_at : (n p : ℕ) → p < n → (rest : List X) × (drop (count_set f p) (gather n) ≡ g p ++ rest)
  unfolding gather
  gather_at zero p h = absurd (omega arith)
  gather_at (suc n) p h = ⊎_elim (λ (q : p ≡ n). here q) (λ (l : p < n). further (gather_at n p l)) (eq-or-lt_of_le (omega arith))
    where
      here : p ≡ n → (rest : List X) × (drop (count_set f p) (gather n ++ g n) ≡ g p ++ rest)
      here q = ([], rw q (ap (λ (k : ℕ). drop k (gather n ++ g n)) (sym (gather_length n)) ∙ drop-append_seam (gather n) (g n) ∙ sym (append-nil (g n))))

      further : (rest : List X) × (drop (count_set f p) (gather n) ≡ g p ++ rest) → (rest : List X) × (drop (count_set f p) (gather n ++ g n) ≡ g p ++ rest)
      further r = (
        r.0 ++ g n,
        drop-append-le (count_set f p) (gather n) (g n) (omega (arith, gather_length n, count_mono f p n (omega arith)))
            ∙ ap (λ (q : List X). q ++ g n) r.1 ∙ append_assoc (g p) r.0 (g n),
      )

-- ---- the children
pub length_node : (u : BinaryTrie) → length (if_node u) ≡ digit (is_node u)
unfolding if_node is_node
length_node empty = refl
length_node (knot m l r) = refl

pub node_is : (u : BinaryTrie) → is_node u ≡ true → if_node u ≡ u ∷ []
unfolding if_node is_node
node_is empty e = cc
node_is (knot m l r) e = refl

kids_gather : (t : BinaryTrie) (n : ℕ) → gather (λ i. if_node (subtrie_at (INTERNAL + i) t)) (is_kid t) (λ i. length_node (subtrie_at (INTERNAL + i) t)) n ≡ kids_to n t
unfolding gather kids_to
kids_gather t zero = refl
kids_gather t (suc n) = ap (λ (q : List BinaryTrie). q ++ if_node (subtrie_at (INTERNAL + n) t)) (kids_gather t n)

pub length_kids : (t : BinaryTrie) (n : ℕ) → length (kids_to n t) ≡ count_set (is_kid t) n
length_kids t n = ap length (sym (kids_gather t n)) ∙ gather_length _ (is_kid t) (λ i. length_node (subtrie_at (INTERNAL + i) t)) n

-- the node behind branch p is the child that as many children stand before as there are ones before the branch
pub kid_at : (t : BinaryTrie) (n p : ℕ) → p < n → is_kid t p ≡ true
    → (rest : List BinaryTrie) × (drop (count_set (is_kid t) p) (kids_to n t) ≡ subtrie_at (INTERNAL + p) t ∷ rest)
kid_at t n p h e =
    let r = gather_at (λ i. if_node (subtrie_at (INTERNAL + i) t)) (is_kid t) (λ i. length_node (subtrie_at (INTERNAL + i) t)) n p h in
    (r.0, ap (drop (count_set (is_kid t) p)) (sym (kids_gather t n)) ∙ r.1 ∙ ap (λ (q : List BinaryTrie). q ++ r.0) (node_is (subtrie_at (INTERNAL + p) t) e))

-- ---- the hops
length_mark : (m : ℕ) → length (if_mark m) ≡ digit (ltb 0 m)
unfolding if_mark
length_mark zero = refl
length_mark (suc m) = rw (lt-ltb 0 (suc m) (omega arith)) refl

mark_is : (m : ℕ) → ltb 0 m ≡ true → if_mark m ≡ m ∷ []
unfolding if_mark
mark_is zero e = cc
mark_is (suc m) e = refl

marks_gather : (t : BinaryTrie) (n : ℕ) → gather (λ i. if_mark (mark (subtrie_at i t))) (is_marked t) (λ i. length_mark (mark (subtrie_at i t))) n ≡ marks_to n t
unfolding gather marks_to
marks_gather t zero = refl
marks_gather t (suc n) = ap (λ (q : List ℕ). q ++ if_mark (mark (subtrie_at n t))) (marks_gather t n)

-- and so with the hop of place i
pub hop_at : (t : BinaryTrie) (n i : ℕ) → i < n → is_marked t i ≡ true
    → (rest : List ℕ) × (drop (count_set (is_marked t) i) (marks_to n t) ≡ mark (subtrie_at i t) ∷ rest)
hop_at t n i h e =
    let r = gather_at (λ j. if_mark (mark (subtrie_at j t))) (is_marked t) (λ j. length_mark (mark (subtrie_at j t))) n i h in
    (r.0, ap (drop (count_set (is_marked t) i)) (sym (marks_gather t n)) ∙ r.1 ∙ ap (λ (q : List ℕ). q ++ r.0) (mark_is (mark (subtrie_at i t)) e))

length_marks : (t : BinaryTrie) (n : ℕ) → length (marks_to n t) ≡ count_set (is_marked t) n
length_marks t n = ap length (sym (marks_gather t n)) ∙ gather_length _ (is_marked t) (λ i. length_mark (mark (subtrie_at i t))) n

-- ---- a map is 0 exactly where there is none
off_digit : (b : Bool) → digit b ≡ 0 → b ≡ false
off_digit true e = absurd (omega arith)
off_digit false e = refl

none_set : (f : ℕ → Bool) (n i : ℕ) → i < n → count_set f n ≡ 0 → f i ≡ false
unfolding count_set
none_set f zero i h e = absurd (omega arith)
none_set f (suc n) i h e =
    ⊎_elim (λ (q : i ≡ n). rw q (off_digit (f n) (omega arith))) (λ (l : i < n). none_set f n i l (omega arith)) (eq-or-lt_of_le (omega arith))

ones_zero : ones 0 ≡ 0
unfolding ones ones_in
ones_zero = refl

map_none : (n : ℕ) (f : ℕ → Bool) → (map_of n f ≡ 0) ↔ (count_set f n ≡ 0)
map_none n f = (
  λ e. sym (ones_map n f) ∙ ap ones e ∙ ones_zero,
  λ e. no_bits n (map_of n f) (map_lt n f) (λ k h. bit_map n f k h ∙ none_set f n k h e),
)

no_length : {X : Type 0} (xs : List X) → length xs ≡ 0 → xs ≡ []
no_length [] e = refl
no_length (x ∷ xs) e = absurd (omega arith)

pub kids_none : (t : BinaryTrie) → (external_map t ≡ 0) ↔ (kids t ≡ [])
unfolding external_map
kids_none t =
    let m = map_none EXTERNAL (is_kid t) in
    let l = length_kids t EXTERNAL in
    (λ e. no_length (kids t) (l ∙ m.0 e), λ e. m.1 (sym l ∙ ap length e))

pub marks_none : (t : BinaryTrie) → (internal_map t ≡ 0) ↔ (marks t ≡ [])
unfolding internal_map
marks_none t =
    let m = map_none INTERNAL (is_marked t) in
    let l = length_marks t INTERNAL in
    (λ e. no_length (marks t) (l ∙ m.0 e), λ e. m.1 (sym l ∙ ap length e))
