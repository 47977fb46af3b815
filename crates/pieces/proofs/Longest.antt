-- The longest match is the deepest marked node on the address's path: its mark is the hop, its depth the length (02, [5]). For the marked
-- nodes on that path are the entries that begin the address.
use Prim.Native.Nat.{ℕ, zero, suc, ◌^◌, ◌≤◌, ◌<◌}
use mathlib.Core.Path.{◌≡◌, refl, sym, subst, ◌∙◌}
use mathlib.Core.Bool.{true, true≢false}
use mathlib.Core.Logic.{⊎_elim}
use native.Mathlib.Omega.{arith}
use native.Mathlib.Decide.{dec_le}
use borrow.Author.Tests.{eqb-true, eq-eqb}
use Rattle.table.specs.Prefix.{start, starts_with, IsPrefix}
use Rattle.table.specs.Longest.{best, of_winner, matches, NoMatch, Wins, no_winner, some, LongestIs, match}
use Rattle.table.proofs.Bools.{true_or_false}
use Rattle.table.proofs.Longest.{best_wins}
use Rattle.strides.specs.Entries.{whole_entry}
use Rattle.strides.proofs.Entries.{whole_is, whole_of}
use Rattle.strides.proofs.Longest.{exact_mark}
use Rattle.pieces.specs.BinaryTrie.{mark, binary_trie_of}
use Rattle.pieces.specs.Maps.{subtrie_along}
use Rattle.pieces.proofs.Over.{mark_on_lem}

module _ (W : ℕ) (val len hop : ℕ → ℕ) (n : ℕ) (prefix : (i : ℕ) → i < n → IsPrefix W (val i) (len i)) (some_hop : (i : ℕ) → i < n → 0 < hop i)
    (a : ℕ) (small : a < 2 ^ W) where
  -- the mark of the node where the first d bits of the address lead
  abbrev mark_after : ℕ → ℕ
  mark_after d = mark (subtrie_along d (binary_trie_of W val len hop n) (start W d a))

  -- it is that of the entry that they are, where there is one
  whole : (d : ℕ) → d ≤ W → (b : ℕ) × Wins (whole_entry W val len d (start W d a)) len n b × (of_winner hop b ≡ mark_after d)
  whole d l =
      let m = whole_entry W val len d (start W d a) in
      (best m len n, best_wins m len n, exact_mark W val len hop n d (start W d a) ∙ sym (mark_on_lem W val len hop n prefix some_hop a d small l))

  -- an entry of length d begins the address exactly where its first d bits lead to a mark
  marked_entry : (d : ℕ) → d ≤ W → 0 < mark_after d → (i : ℕ) × (i < n) × (matches W val len a i ≡ true) × (len i ≡ d) × (hop i ≡ mark_after d)
  unfolding of_winner matches starts_with
  marked_entry d l h = let w = whole d l in go w.0 w.1 w.2
    where
      go : (b : ℕ) → Wins (whole_entry W val len d (start W d a)) len n b → of_winner hop b ≡ mark_after d
          → (i : ℕ) × (i < n) × (matches W val len a i ≡ true) × (len i ≡ d) × (hop i ≡ mark_after d)
      go zero w e = absurd (omega arith)
      go (suc j) (some r) e =
          let w = whole_is W val len d (start W d a) j r.marked in
          (j, r.inside, rw w.0 (eq-eqb _ _ (sym w.1)), w.0, e)

  entry_marked : (i : ℕ) → i < n → matches W val len a i ≡ true → 0 < mark_after (len i)
  unfolding of_winner matches starts_with
  entry_marked i h e = let w = whole (len i) (prefix i h).short in go w.0 w.1 w.2
    where
      go : (b : ℕ) → Wins (whole_entry W val len (len i) (start W (len i) a)) len n b → of_winner hop b ≡ mark_after (len i) → 0 < mark_after (len i)
      go zero (no_winner nil) z =
          absurd (true≢false (sym (whole_of W val len (len i) (start W (len i) a) i refl (sym (eqb-true _ _ e))) ∙ nil i h))
      go (suc j) (some r) z = omega (arith, some_hop j r.inside)

  -- the deepest of them is the longest match, and without one there is none
  pub deepest_longest : (d : ℕ) → d ≤ W → 0 < mark_after d → ((k : ℕ) → d < k → k ≤ W → mark_after k ≡ 0) → LongestIs W val len hop n a (mark_after d) d
  deepest_longest d l h f = go (marked_entry d l h)
    where
      go : (i : ℕ) × (i < n) × (matches W val len a i ≡ true) × (len i ≡ d) × (hop i ≡ mark_after d) → LongestIs W val len hop n a (mark_after d) d
      go (i, g, m, z, e) = subst (LongestIs W val len hop n a (mark_after d)) z (subst (λ (v : ℕ). LongestIs W val len hop n a v (len i)) e (match (record {
        inside = g;
        marked = m;
        most = λ j o p. elim (dec_le (len j) d) [
          | yes s ↦ omega arith
          | no s ↦ absurd (omega (arith, entry_marked j o p, f (len j) (omega arith) (prefix j o).short))
        ];
      })))

  pub unmarked_none : ((k : ℕ) → k ≤ W → mark_after k ≡ 0) → NoMatch W val len n a
  unmarked_none f i h =
      ⊎_elim (λ (e : matches W val len a i ≡ true). absurd (omega (arith, entry_marked i h e, f (len i) (prefix i h).short))) (λ e. e) (true_or_false (matches W val len a i))
