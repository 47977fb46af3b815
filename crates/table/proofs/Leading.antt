-- The shared length in a word of any size: the exclusive or of two numbers is 0 as far as they agree, so its leading zeros tell how far.
use mathlib.Core.Path.{◌≡◌, sym, ap, ◌∙◌}
use Prim.Native.Nat.{ℕ, suc, min, ◌+◌, ◌-◌, ◌*◌, ◌/◌, ◌%◌, ◌^◌, ◌≤◌, ◌<◌}
use native.Mathlib.Nat.{div-eq_of_lt, lt_of_lt_of_le, mod-lt, pow-suc}
use native.Mathlib.Decide.{dec_le}
use native.Mathlib.Omega.{arith}
use lib.Bits.{bit_xor, xor_shr, xor_self, xor_lt, xor_add_and, and_le_l, and_le_r}
use lib.Count.{count_leading_zeros, leading_length}
use lib.Pow.{split, pow_mono, pow_pos}
use Rattle.table.specs.Prefix.{start}
use Rattle.table.specs.Shared.{shared, IsShared}
use Rattle.table.proofs.SharedLength.{shared_is, shared_unique}

xor_zero_same : (a b : ℕ) → bit_xor a b ≡ 0 → a ≡ b
xor_zero_same a b e = omega (arith, xor_add_and a b, and_le_l a b, and_le_r a b)

-- ---- m is the number of digits of the difference: past them the two agree, and nowhere else

same_past : (a b m j : ℕ) → bit_xor a b < 2 ^ m → m ≤ j → a / 2 ^ j ≡ b / 2 ^ j
same_past a b m j h l = xor_zero_same _ _ (sym (xor_shr a b j) ∙ div-eq_of_lt (lt_of_lt_of_le h (pow_mono l)))

-- a number below 2 ^ j has at most j digits
pub digits_most : (x m j : ℕ) → 2 ^ m ≤ 2 * x + 1 → x < 2 ^ j → m ≤ j
digits_most x m j h l = elim (dec_le m j) [ yes p ↦ p | no p ↦ absurd (omega (arith, pow_mono (more p), pow-suc 2 j)) ]
  where
    more : (m ≤ j → ⊥) → suc j ≤ m
    more p = omega arith

past_same : (a b m j : ℕ) → 2 ^ m ≤ 2 * bit_xor a b + 1 → a / 2 ^ j ≡ b / 2 ^ j → m ≤ j
past_same a b m j h e =
    let z : bit_xor a b / 2 ^ j ≡ 0 = xor_shr a b j ∙ ap (λ (y : ℕ). bit_xor y (b / 2 ^ j)) e ∙ xor_self (b / 2 ^ j) in
    let y : bit_xor a b ≡ 0 * 2 ^ j + bit_xor a b % 2 ^ j = rw (← z) (sym (split (bit_xor a b) j)) in
    digits_most (bit_xor a b) m j h (omega (arith, y, mod-lt (bit_xor a b) (pow_pos j)))

-- ---- numbers of W bits in a word of w

module _ (w W a b : ℕ) (fits : W ≤ w) (p : a < 2 ^ W) (q : b < 2 ^ W) where
  abbrev zeros : ℕ
  zeros = count_leading_zeros w (bit_xor a b)

  -- the digits of the difference, at most W, and the zeros before them make the word
  difference_digits : (m : ℕ) × (zeros + m ≡ w) × (bit_xor a b < 2 ^ m) × (2 ^ m ≤ 2 * bit_xor a b + 1) × (m ≤ W)
  difference_digits =
      let x = xor_lt W a b p q in
      let s = leading_length w (bit_xor a b) (lt_of_lt_of_le x (pow_mono fits)) in
      (s.0, s.1, s.2, s.3, digits_most (bit_xor a b) s.0 W s.3 x)

  -- the bits that the numbers leave unused are zeros too
  pub unused_zeros : w - W ≤ zeros
  unused_zeros = let s = difference_digits in omega (arith, s.1, s.4)

  leading_is_shared : (k : ℕ) → k ≤ W → IsShared W a b k (min (zeros - (w - W)) k)
  unfolding start
  leading_is_shared k short =
      let s = difference_digits in
      let m = s.0 in
      let r = min (zeros - (w - W)) k in
      let e : r ≡ min (W - m) k = omega (arith, s.1) in
      record {
        most = omega arith;
        same = same_past a b m (W - r) s.2 (omega (arith, e, s.4));
        all = λ i h g. omega (arith, past_same a b m (W - i) s.3 g, e);
      }

  pub shared_leading : (k : ℕ) → k ≤ W → min (zeros - (w - W)) k ≡ shared W a b k
  shared_leading k short = shared_unique (leading_is_shared k short) (shared_is W a b k p q)
