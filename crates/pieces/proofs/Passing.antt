-- Along an address's path, from supernode to supernode: what a supernode's places on the path are.
use Prim.Native.Nat.{ℕ, zero, suc, ◌+◌, ◌-◌, ◌*◌, ◌/◌, ◌%◌, ◌^◌, ◌≤◌, ◌<◌, zero-le}
use mathlib.Core.Path.{◌≡◌, refl, sym, ap, ◌∙◌}
use mathlib.Core.Bool.{true, false≢true}
use native.Mathlib.Omega.{arith}
use lib.Pow.{shr-shr, shl-shr, field}
use borrow.Author.Tests.{le-ltb}
use Rattle.strides.specs.Trie.{bit}
use Rattle.strides.proofs.Paths.{SameBits, bit_mod, bit_shr}
use Rattle.pieces.specs.BinaryTrie.{BinaryTrie, empty, knot, side_of}
use Rattle.pieces.specs.Maps.{STEP, INTERNAL, EXTERNAL, place_level, subtrie_along, subtrie_at, is_node}
use Rattle.pieces.specs.Cuts.{path_at}
use Rattle.pieces.specs.Depth.{deep}

-- ---- only the last j bits count
pub along_same : (j : ℕ) (t : BinaryTrie) (x y : ℕ) → SameBits j x y → subtrie_along j t x ≡ subtrie_along j t y
unfolding subtrie_along bit
along_same zero t x y e = refl
along_same (suc j) t x y e =
    ap (λ (i : ℕ). subtrie_along j (side_of i t) x) (e j (omega arith)) ∙ along_same j (side_of (bit j y) t) x y (λ i h. e i (omega arith))

pub along_empty : (j x : ℕ) → subtrie_along j empty x ≡ empty
unfolding subtrie_along
along_empty zero x = refl
along_empty (suc j) x = along_empty j x

-- a path of c + m bits is one of c bits and one of m bits
pub along_split : (c m : ℕ) (t : BinaryTrie) (x : ℕ) → subtrie_along (c + m) t x ≡ subtrie_along m (subtrie_along c t (x / 2 ^ m)) x
unfolding subtrie_along bit
along_split zero m t x = let e : zero + m ≡ m = omega arith in rw e refl
along_split (suc c) m t x =
    let e : suc c + m ≡ suc (c + m) = omega arith in
    let f : m + c ≡ c + m = omega arith in
    let b : bit c (x / 2 ^ m) ≡ bit (c + m) x = bit_shr c m x ∙ ap (λ (k : ℕ). bit k x) f in
    ap (λ (k : ℕ). subtrie_along k t x) e ∙ along_split c m (side_of (bit (c + m) x) t) x
    ∙ ap (λ (k : ℕ). subtrie_along m (subtrie_along c (side_of k t) (x / 2 ^ m)) x) (sym b)

-- ---- the four bits of an address at a supernode
-- of which the first j, where so many are left
pub cut_start : (a left j : ℕ) → j ≤ STEP → j ≤ left → path_at a left / 2 ^ (STEP - j) ≡ a / 2 ^ (left - j) % 2 ^ j
unfolding path_at
cut_start a left j h l =
    let e : 4 ≡ j + (4 - j) = omega arith in
    let f : left + (4 - j) ≡ 4 + (left - j) = omega arith in
    ap (λ (k : ℕ). a * 16 / 2 ^ left % 2 ^ k / 2 ^ (4 - j)) e
    ∙ field (a * 16 / 2 ^ left) j (4 - j)
    ∙ ap (λ (v : ℕ). v % 2 ^ j) (shr-shr (a * 16) left (4 - j) ∙ ap (λ (k : ℕ). a * 16 / 2 ^ k) f ∙ sym (shr-shr (a * 16) 4 (left - j))
    ∙ ap (λ (v : ℕ). v / 2 ^ (left - j)) (shl-shr a 4))

-- so the path's levels are the address's
pub along_path : (t : BinaryTrie) (a left j : ℕ) → j ≤ STEP → j ≤ left → subtrie_along j t (path_at a left / 2 ^ (STEP - j)) ≡ subtrie_along j t (a / 2 ^ (left - j))
along_path t a left j h l =
    ap (subtrie_along j t) (cut_start a left j h l) ∙ along_same j t (a / 2 ^ (left - j) % 2 ^ j) (a / 2 ^ (left - j)) (λ i k. bit_mod i j (a / 2 ^ (left - j)) k)

-- the place behind the branch p
pub branch_place : (t : BinaryTrie) (p : ℕ) → p < EXTERNAL → subtrie_at (INTERNAL + p) t ≡ subtrie_along STEP t p
unfolding subtrie_at place_level
branch_place t p h =
    let e : 15 + p - 15 ≡ p = omega arith in
    rw (le-ltb (15 + p) 1 (omega arith), le-ltb (15 + p) 3 (omega arith), le-ltb (15 + p) 7 (omega arith), le-ltb (15 + p) 15 (omega arith), e) refl

-- ---- levels
side_deep : (i : ℕ) (t : BinaryTrie) (d : ℕ) → deep t ≤ suc d → deep (side_of i t) ≤ d
unfolding deep
side_deep i empty d h = zero-le
side_deep zero (knot m l r) d h = omega arith
side_deep (suc i) (knot m l r) d h = omega arith

pub along_deep : (j : ℕ) (t : BinaryTrie) (x d : ℕ) → deep t ≤ j + d → deep (subtrie_along j t x) ≤ d
unfolding subtrie_along
along_deep zero t x d h = omega arith
along_deep (suc j) t x d h = along_deep j (side_of (x / 2 ^ j % 2) t) x d (side_deep (x / 2 ^ j % 2) t (j + d) (omega arith))

pub node_deep : (t : BinaryTrie) → is_node t ≡ true → 0 < deep t
unfolding is_node deep
node_deep empty e = absurd (false≢true e)
node_deep (knot m l r) e = omega arith
