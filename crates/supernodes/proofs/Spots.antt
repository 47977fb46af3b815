-- The places of a supernode in level order: place i + 1 stands on side i % 2 of place i / 2.
use Prim.Native.Nat.{ℕ, zero, suc, ◌*◌, ◌/◌, ◌%◌, ◌≤◌, ◌<◌}
use mathlib.Core.Path.{◌≡◌, refl, sym, ap, subst, ◌∙◌}
use mathlib.Core.List.{List}
use mathlib.Core.Logic.{⊎_elim}
use native.Mathlib.Nat.{eq-or-lt_of_le}
use native.Mathlib.Omega.{arith}
use lib.ListN.{length, get_or, set, length-set}
use lib.Seq.{get_or-set_same, get_or-set_other}
use Rattle.pieces.specs.BinaryTrie.{BinaryTrie, side_of}
use Rattle.pieces.specs.Maps.{place_level, subtrie_along, subtrie_at}
use Rattle.supernodes.specs.Limits.{node_row}
use Rattle.supernodes.specs.Linked.{node_column, Nodes}
use Rattle.supernodes.specs.Spots.{all_places, PlaceAsk, PlacesFound}

-- P holds of all numbers below n, the highest first
abbrev AllBelow : (ℕ → Type 0) → ℕ → Type 0
AllBelow P zero = Unit {0}
AllBelow P (suc n) = P n × AllBelow P n

one_of : (P : ℕ → Type 0) (n : ℕ) → AllBelow P n → (i : ℕ) → i < n → P i
one_of P zero a i h = absurd (omega arith)
one_of P (suc n) a i h = ⊎_elim (λ (e : i ≡ n). subst P (sym e) a.0) (λ (l : i < n). one_of P n a.1 i l) (eq-or-lt_of_le (omega arith))

abbrev OnSide : BinaryTrie → ℕ → Type 0
OnSide t i = subtrie_at (suc i) t ≡ side_of (i % 2) (subtrie_at (i / 2) t)

level_1 : (t : BinaryTrie) → AllBelow (OnSide t) 2
unfolding subtrie_at place_level subtrie_along
level_1 t = (refl, (refl, tt))

level_2 : (t : BinaryTrie) → AllBelow (OnSide t) 6
unfolding subtrie_at place_level subtrie_along
level_2 t = (refl, (refl, (refl, (refl, level_1 t))))

level_3 : (t : BinaryTrie) → AllBelow (OnSide t) 14
unfolding subtrie_at place_level subtrie_along
level_3 t = (refl, (refl, (refl, (refl, (refl, (refl, (refl, (refl, level_2 t))))))))

level_4 : (t : BinaryTrie) → AllBelow (OnSide t) 30
unfolding subtrie_at place_level subtrie_along
level_4 t =
    (refl, (refl, (refl, (refl, (refl, (refl, (refl, (refl, (refl, (refl, (refl, (refl, (refl, (refl, (refl, (refl, level_3 t))))))))))))))))

place_side : (i : ℕ) (t : BinaryTrie) → i < 30 → subtrie_at (suc i) t ≡ side_of (i % 2) (subtrie_at (i / 2) t)
place_side i t h = one_of (OnSide t) 30 (level_4 t) i h

-- ---- the links of the places
side_tree : (tree : ℕ → BinaryTrie) (used : ℕ) (rows : List ℕ) → Nodes tree used rows → (l c : ℕ) → l ≤ used → c < 2
    → (node_column rows l c ≤ used) × (tree (node_column rows l c) ≡ side_of c (tree l))
unfolding node_column
side_tree tree used rows n zero c h b = (omega arith, rw n.none refl)
side_tree tree used rows n (suc l) zero h b = let o = n.each (suc l) (omega arith) h in (o.left, rw o.is refl)
side_tree tree used rows n (suc l) (suc zero) h b = let o = n.each (suc l) (omega arith) h in (o.right, rw o.is refl)
side_tree tree used rows n (suc l) (suc (suc c)) h b = absurd (omega arith)

pub place_first : (rows : List ℕ) (k : ℕ) (p : List ℕ) → length p ≡ all_places → PlacesFound rows k 1 (set p 0 k)
unfolding subtrie_at place_level subtrie_along
place_first rows k p e = record {
  long = length-set p 0 k ∙ e;
  each = λ tree used n h j l.
      let z : j ≡ 0 = omega arith in
      let s = get_or-set_same p 0 k 0 (omega arith) in
      rw (z, s) (h, refl);
}

module _ {rows : List ℕ} {k i : ℕ} {p : List ℕ} (g : PlacesFound rows k (suc i) p) (h : i < 30) where
  pub place_fits : PlaceAsk rows k → get_or p (i / 2) 0 * node_row ≤ length rows
  place_fits (tree, used, n, l) = omega (arith, (g.each tree used n l (i / 2) (omega arith)).0, n.fits)

  pub place_next : {v i' : ℕ} → v ≡ node_column rows (get_or p (i / 2) 0) (i % 2) → i' ≡ suc i → PlacesFound rows k (suc i') (set p i' v)
  place_next {v} e f = rw f (record {
    long = length-set p (suc i) v ∙ g.long;
    each = λ tree used n l j m. ⊎_elim (λ (z : j ≡ suc i). here tree used n l j z) (λ (z : j < suc i).
        let s = get_or-set_other p (suc i) j v 0 (λ y. omega arith) in rw s (g.each tree used n l j z)) (eq-or-lt_of_le (omega arith));
  })
    where
      here : (tree : ℕ → BinaryTrie) (used : ℕ) → Nodes tree used rows → k ≤ used → (j : ℕ) → j ≡ suc i
          → (get_or (set p (suc i) v) j 0 ≤ used) × (tree (get_or (set p (suc i) v) j 0) ≡ subtrie_at j (tree k))
      here tree used n l j z =
          let a = g.each tree used n l (i / 2) (omega arith) in
          let s = side_tree tree used rows n (get_or p (i / 2) 0) (i % 2) a.0 (omega arith) in
          let w = get_or-set_same p (suc i) v 0 (omega (arith, g.long)) in
          rw (z, w, e) (s.0, s.1 ∙ ap (side_of (i % 2)) a.1 ∙ sym (place_side i (tree k) h))
