-- The row rule over the table (01: "For a block starting at depth d, a row's hop is that of the longest entry with length above d
-- and at most d + s that begins the row's path, else 0"; 02, [5]: and its length is that entry's). The block's node is where the d bits of q lead, the row is x, and the row's
-- path, filled up with zeros, is an address: only its first d + s bits count.
use Prim.Native.Nat.{ℕ, ◌+◌, ◌-◌, ◌*◌, ◌/◌, ◌^◌, ◌≤◌, ◌<◌}
use mathlib.Core.Path.{◌≡◌, sym, ap, ap₂, ◌∙◌}
use native.Mathlib.Omega.{arith}
use lib.Arith.{digits_lt}
use lib.Pow.{pow-add, shl_lt, shl-shr, shr-shr, high, low}
use Rattle.table.specs.Prefix.{start, IsPrefix}
use Rattle.table.specs.Longest.{of_winner, winner_in}
use Rattle.strides.specs.Trie.{bit, mark_along, sub_along}
use Rattle.strides.specs.Entries.{trie_of}
use Rattle.strides.proofs.Paths.{bit_mod, SameBits, mark_same}
use Rattle.strides.proofs.Longest.{mark_block}
use Rattle.layout.specs.PathBlocks.{row_path}

module _ (W d s q x : ℕ) (fits : d + s ≤ W) (first : q < 2 ^ d) (index : x < 2 ^ s) where
  pub path_lt : row_path W d s q x < 2 ^ W
  path_lt =
      let e : d + s + (W - (d + s)) ≡ W = omega arith in
      let small : q * 2 ^ s + x < 2 ^ (d + s) = rw (pow-add 2 d s) (digits_lt first index) in
      let whole = shl_lt (d + s) (W - (d + s)) small in
      rw e at whole

  pub path_row : start W (d + s) (row_path W d s q x) ≡ q * 2 ^ s + x
  unfolding start
  path_row = shl-shr (q * 2 ^ s + x) (W - (d + s))

  pub path_node : start W d (row_path W d s q x) ≡ q
  unfolding start
  path_node =
      let e : W - d ≡ W - (d + s) + s = omega arith in
      ap (λ (v : ℕ). row_path W d s q x / 2 ^ v) e
      ∙ sym (shr-shr (row_path W d s q x) (W - (d + s)) s)
      ∙ ap (λ (v : ℕ). v / 2 ^ s) (shl-shr (q * 2 ^ s + x) (W - (d + s)))
      ∙ high q s index

  module _ (val len mark : ℕ → ℕ) (n : ℕ) (prefix : (i : ℕ) → i < n → IsPrefix W (val i) (len i)) (some_mark : (i : ℕ) → i < n → 0 < mark i) where
    -- the mark that the row is made of is the winner's
    pub row_mark : mark_along s (sub_along d (trie_of W val len mark n) q) x 0 ≡ of_winner mark (winner_in W val len n d (d + s) (row_path W d s q x))
    row_mark =
        let T = trie_of W val len mark n in
        let a = row_path W d s q x in
        let same : SameBits s x (q * 2 ^ s + x) = λ j h. ap (bit j) (sym (low q s index)) ∙ bit_mod j s (q * 2 ^ s + x) h in
        mark_same s (sub_along d T q) x (q * 2 ^ s + x) 0 same
        ∙ sym (ap₂ (λ (v y : ℕ). mark_along s (sub_along d T v) y 0) path_node path_row)
        ∙ mark_block W val len mark n prefix some_mark a path_lt d s fits
