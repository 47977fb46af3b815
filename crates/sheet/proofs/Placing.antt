-- Laws of an entry's bits as a value: it fits, it is a prefix of the width, and its leading bits are those of the text.
use mathlib.Core.Path.{◌≡◌, ap, ◌∙◌}
use mathlib.Core.Bool.{true}
use mathlib.Core.List.{List}
use Prim.Native.Nat.{ℕ, ◌+◌, ◌-◌, ◌*◌, ◌%◌, ◌^◌, ◌≤◌, ◌<◌}
use native.Mathlib.Omega.{arith}
use native.Mathlib.Nat.{mul-mod_left}
use lib.ListN.{length, take, set}
use lib.Seq.{get_or-take, length-take-le}
use lib.Pow.{shl_exact, shl_lt, shl-shr, pow_mono}
use borrow.Author.Tests.{lt-ltb, le-ltb}
use Rattle.table.specs.Limits.{width_limit}
use Rattle.table.specs.Prefix.{start, prefix_bad, IsPrefix}
use Rattle.table.specs.Table.{at}
use Rattle.table.proofs.Lists.{listed_same}
use Rattle.reading.specs.declared.parsing.Contents.{Contents}
use Rattle.reading.specs.Contents.{sheet_in, GoodContents}
use Rattle.table.specs.Lists.{FilledTo}
use Rattle.table.proofs.Lists.{filled_to_more}
use Rattle.sheet.specs.Values.{value_of, values_of}

module _ (W b l : ℕ) (spells : b < 2 ^ l) (short : l ≤ W) where
  placed_below : b * 2 ^ (W - l) < 2 ^ W
  placed_below = let e : l + (W - l) ≡ W = omega arith in rw e at (shl_lt {a = b} l (W - l) spells)

  pub placed_fits : W ≤ width_limit → b * 2 ^ (W - l) < 2 ^ width_limit
  placed_fits h = omega (arith, placed_below, pow_mono {i = W} {j = width_limit} h)

  pub placed_shl : W ≤ width_limit → (b * 2 ^ (W - l)) % 2 ^ 64 ≡ b * 2 ^ (W - l)
  placed_shl h = shl_exact {a = b} l (W - l) 64 spells (omega arith)

  pub value_is : W ≤ width_limit → value_of W b l ≡ b * 2 ^ (W - l)
  unfolding value_of
  value_is h = rw (le-ltb width_limit W h, le-ltb W l short)

  -- the value is a prefix of the width, and its first l bits are b
  pub value_prefix : W ≤ width_limit → IsPrefix W (value_of W b l) l
  value_prefix h = rw (value_is h) (record { short = short; small = placed_below; clear = mul-mod_left b (2 ^ (W - l)) })

  pub value_start : W ≤ width_limit → start W l (value_of W b l) ≡ b
  unfolding start
  value_start h = rw (value_is h) (shl-shr b (W - l))

-- bits longer than the width are no prefix, whatever stands for their value: test 4 fails
pub long_bits_fail : (W v l : ℕ) → W < l → prefix_bad W v l ≡ true
unfolding prefix_bad
long_bits_fail W v l h = rw (lt-ltb W l h)

-- ---- the loop that puts values in the place of bits: the list begins with values, the other places are bits yet

module _ (W : ℕ) (vs₀ ls : List ℕ) where
  -- entry j's value
  abbrev pub placed_at : ℕ → ℕ
  placed_at j = value_of W (at vs₀ j) (at ls j)

  pub placed_more : (vs : List ℕ) (i : ℕ) {v : ℕ} → i < length vs → v ≡ value_of W (at vs i) (at ls i) → FilledTo placed_at vs₀ vs i
      → FilledTo placed_at vs₀ (set vs i v) (i + 1)
  placed_more vs i h e b = filled_to_more placed_at vs₀ vs i h (e ∙ ap (λ (x : ℕ). value_of W x (at ls i)) (b.rest i (omega arith))) b

  pub placed_all : (vs : List ℕ) (n : ℕ) → n ≤ length vs₀ → FilledTo placed_at vs₀ vs n → take n vs ≡ values_of W (take n vs₀) (take n ls)
  unfolding values_of
  placed_all vs n h b =
      rw (length-take-le n vs₀ h)
      (b.start
      ∙ listed_same placed_at (λ i. value_of W (at (take n vs₀) i) (at (take n ls) i)) n
      (λ i k. rw (get_or-take n vs₀ i 0 k, get_or-take n ls i 0 k)))

-- the bits of a good text's entries, and how many they are
pub entry_spelled : (r : Contents) → GoodContents r → (i : ℕ) → i < r.entries → at r.bits i < 2 ^ at r.lengths i
unfolding sheet_in
entry_spelled r fine i h =
    let n = r.entries in
    let e = length-take-le n r.bits (omega (arith, fine.bits, fine.entries_few)) in
    rw (get_or-take n r.bits i 0 h, get_or-take n r.lengths i 0 h) at (fine.sound.entry i (omega arith)).1
