-- A tree and its trie: what an entry laid into the tree is in the trie, and how deep it then reaches.
use mathlib.Core.Path.{◌≡◌, refl, ap, ◌∙◌}
use Prim.Native.Nat.{ℕ, zero, suc, max}
use Rattle.strides.specs.Trie.{Trie, kid, mark_on, bit, depth}
use Rattle.strides.specs.Insertion.{insert_t, place}
use Rattle.strides.proofs.Insertion.{insert_depth}
use Rattle.choosers.specs.Trees.{Tree, nil, fork, shape, row_for, next, side, set_side, set_mark, insert_r, add_entry}

side_shape : (s : ℕ) (t : Tree) → shape (side s t) ≡ kid s (shape t)
unfolding shape
side_shape zero nil = refl
side_shape (suc s) nil = refl
side_shape zero (fork x p l q r) = refl
side_shape (suc s) (fork x p l q r) = refl

mark_shape : (s x h : ℕ) (t : Tree) → shape (set_mark s x t h) ≡ place s h (kid s (shape t)) (shape t)
unfolding shape
mark_shape zero x h nil = refl
mark_shape (suc s) x h nil = refl
mark_shape zero x h (fork y p l q r) = refl
mark_shape (suc s) x h (fork y p l q r) = refl

set_shape : (s x : ℕ) (t k : Tree) → shape (set_side s x t k) ≡ place s (mark_on s (shape t)) (shape k) (shape t)
unfolding shape
set_shape zero x nil k = refl
set_shape (suc s) x nil k = refl
set_shape zero x (fork y p l q r) k = refl
set_shape (suc s) x (fork y p l q r) k = refl

pub insert_shape : (n u : ℕ) (t : Tree) (v h : ℕ) → shape (insert_r n u t v h) ≡ insert_t (suc n) v h (shape t)
unfolding insert_r insert_t
insert_shape zero u t v h = mark_shape (bit 0 v) (row_for u t) h t
insert_shape (suc n) u t v h =
    let s = bit (suc n) v in
    set_shape s (row_for u t) t (insert_r n (next u t) (side s t) v h)
    ∙ ap (λ (k : Trie). place s (mark_on s (shape t)) k (shape t)) (insert_shape n (next u t) (side s t) v h ∙ ap (insert_t (suc n) v h) (side_shape s t))

pub add_shape : (l u : ℕ) (t : Tree) (v h : ℕ) → shape (add_entry l u t v h) ≡ insert_t l v h (shape t)
unfolding add_entry insert_t
add_shape zero u t v h = refl
add_shape (suc n) u t v h = insert_shape n u t v h

pub depth_insert : (n u : ℕ) (t : Tree) (v h : ℕ) → depth (shape (insert_r n u t v h)) ≡ max (suc n) (depth (shape t))
depth_insert n u t v h = ap depth (insert_shape n u t v h) ∙ insert_depth (suc n) v h (shape t)
