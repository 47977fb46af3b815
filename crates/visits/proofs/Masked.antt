-- The masks and counts of one supernode, as the machine has them.
use Prim.Native.Nat.{ℕ, zero, suc, ◌+◌, ◌-◌, ◌*◌, ◌/◌, ◌%◌, ◌^◌, ◌≤◌, ◌<◌}
use mathlib.Core.Path.{◌≡◌, refl, sym, ap, subst, ◌∙◌}
use mathlib.Core.Bool.{true, false}
use mathlib.Core.Logic.{⊎_elim}
use native.Mathlib.Nat.{mod-lt, eq-or-lt_of_le, lt_of_lt_of_le}
use native.Mathlib.Omega.{arith}
use native.Mathlib.Decide.{dec_le}
use lib.Bits.{bit_and, and_mask, and_le_l}
use lib.Count.{ones, ones-le, count_leading_zeros, leading_length}
use lib.Pow.{pow_mono, pow_pos, shr_lt, split}
use Rattle.table.proofs.Shifts.{one_shl}
use Rattle.table.proofs.Leading.{digits_most}
use Rattle.walk.proofs.Bits.{and_shl}
use Rattle.pieces.specs.Maps.{INTERNAL, EXTERNAL, mask_of, bit_at, place_level}
use Rattle.pieces.specs.Cuts.{path_at, limit, found, ones_before, highest}
use Rattle.pieces.proofs.Bits.{bit_zero, no_bits, highest_is, Highest}
use Rattle.pieces.proofs.Places.{level_of_lem, level_some, limit_within, limit_15, small_bit, true_false}

-- ---- the places within the width, as bits
pub within_0 : (left : ℕ) → left ≡ 0 → 1 ≡ 2 ^ limit left - 1
unfolding limit
within_0 left e = rw e refl

pub within_1 : (left : ℕ) → left ≡ 1 → 7 ≡ 2 ^ limit left - 1
unfolding limit
within_1 left e = rw e refl

pub within_2 : (left : ℕ) → left ≡ 2 → 127 ≡ 2 ^ limit left - 1
unfolding limit
within_2 left e = rw e refl

pub within_more : (left : ℕ) → (left ≡ 0 → ⊥) → (left ≡ 1 → ⊥) → (left ≡ 2 → ⊥) → 32767 ≡ 2 ^ limit left - 1
unfolding limit
within_more zero a b c = absurd (a refl)
within_more (suc zero) a b c = absurd (b refl)
within_more (suc (suc zero)) a b c = absurd (c refl)
within_more (suc (suc (suc n))) a b c = refl

pub found_on : (map mask left : ℕ) {r : ℕ} → r ≡ 2 ^ limit left - 1
    → ((p : ℕ) → mask ≡ mask_of p → bit_and (bit_and map mask) r ≡ found map p left) × (bit_and (bit_and map mask) r < 2 ^ limit left)
unfolding found
found_on map mask left {r} f =
    let is : bit_and (bit_and map mask) r ≡ bit_and map mask % 2 ^ limit left = ap (bit_and (bit_and map mask)) f ∙ and_mask (bit_and map mask) (limit left) in (
      λ p e. is ∙ ap (λ (m : ℕ). bit_and map m % 2 ^ limit left) e,
      rw is (mod-lt (bit_and map mask) (pow_pos (limit left))),
    )

-- so they are internal places
pub found_few : (left : ℕ) {on : ℕ} → on < 2 ^ limit left → on < 2 ^ INTERNAL
found_few left h = lt_of_lt_of_le h (pow_mono {j = INTERNAL} (limit_15 left))

-- ---- the highest bit
-- no bit from h on: below 2 ^ h
bits_below : (n x h : ℕ) → x < 2 ^ n → h ≤ n → ((k : ℕ) → h ≤ k → k < n → bit_at x k ≡ false) → x < 2 ^ h
unfolding bit_at
bits_below zero x h l g f = let e : h ≡ 0 = omega arith in rw e l
bits_below (suc n) x h l g f = ⊎_elim (λ (e : h ≡ suc n). rw e l) (λ (e : h < suc n). bits_below n x h (less e) (omega arith) (λ k a b. f k a (omega arith))) (eq-or-lt_of_le g)
  where
    whole : (a b c x : ℕ) → a ≡ 0 → a * c + b ≡ x → b ≡ x
    whole zero b c x e h = omega arith
    whole (suc a) b c x e h = absurd (omega arith)

    less : h < suc n → x < 2 ^ n
    less e =
        let s : suc n ≡ 1 + n = omega arith in
        let v : x / 2 ^ n ≡ 0 = bit_zero (x / 2 ^ n) (shr_lt 1 n (subst (λ (m : ℕ). x < 2 ^ m) s l)) (f n (omega arith) (omega arith)) in
        let m : x % 2 ^ n ≡ x = whole (x / 2 ^ n) (x % 2 ^ n) (2 ^ n) x v (split x n) in
        omega (arith, mod-lt x (pow_pos n))

bit_le : (x h : ℕ) → bit_at x h ≡ true → 2 ^ h ≤ x
bit_le x h e = elim (dec_le (2 ^ h) x) [ yes p ↦ p | no p ↦ absurd (true_false (small_bit x h (omega arith)) e) ]

more : (x h m : ℕ) → 2 ^ h ≤ x → x < 2 ^ m → h < m
more x h m a b = elim (dec_le m h) [ yes p ↦ absurd (omega (arith, pow_mono p)) | no p ↦ omega arith ]

module _ (x : ℕ) (some : 0 < x) (small : x < 32768) where
  top : Highest 15 x (highest 15 x)
  top = ⊎_elim (λ (f : (k : ℕ) → k < 15 → bit_at x k ≡ false). absurd (omega (arith, no_bits 15 x small f))) (λ (g : Highest 15 x (highest 15 x)). g) (highest_is 15 x)

  highest_le : 2 ^ highest 15 x ≤ x
  highest_le = bit_le x (highest 15 x) top.set

  highest_lt : x < 2 ^ suc (highest 15 x)
  highest_lt = bits_below 15 x (suc (highest 15 x)) small top.within (λ k a b. top.above k a b)

  pub leading_highest : count_leading_zeros 32 x + suc (highest 15 x) ≡ 32
  leading_highest =
      let s = leading_length 32 x (omega arith) in
      let a : highest 15 x < s.0 = more x (highest 15 x) s.0 highest_le s.2 in
      let b : s.0 ≤ suc (highest 15 x) = digits_most x s.0 (suc (highest 15 x)) s.3 highest_lt in
      omega (arith, s.1)

  pub highest_lead : (31 - count_leading_zeros 32 x ≡ highest 15 x) × (31 - count_leading_zeros 32 x < 15)
  highest_lead = (omega (arith, leading_highest), omega (arith, leading_highest, top.within))

  -- below 2 ^ n it is below n
  highest_below : (n : ℕ) → x < 2 ^ n → highest 15 x < n
  highest_below n h = more x (highest 15 x) n highest_le h

-- ---- the level of a place
-- 2 ^ j - 1 places come before level j, so it is the highest bit of the place's number counted from 1
pub highest_level : (i : ℕ) → i < 15 → highest 15 (i + 1) ≡ place_level i
highest_level i h =
    let v = level_some i h in
    let j = v.0 in
    let le : 2 ^ j ≤ i + 1 = omega (arith, v.1.low) in
    let lt : i + 1 < 2 ^ suc j = omega (arith, v.1.high) in
    let a : highest 15 (i + 1) < suc j = highest_below (i + 1) (omega arith) (omega arith) (suc j) lt in
    let b : j < suc (highest 15 (i + 1)) = more (i + 1) j (suc (highest 15 (i + 1))) le (highest_lt (i + 1) (omega arith) (omega arith)) in
    let e : highest 15 (i + 1) ≡ j = omega arith in
    e ∙ sym (level_of_lem i j v.1)

-- that of a place within the width is within it, and so is the highest bit found
pub level_within : (left i : ℕ) {l : ℕ} → l ≡ place_level i → i < limit left → l ≤ left
level_within left i e h =
    let v = level_some i (omega (arith, limit_15 left)) in
    rw (e ∙ level_of_lem i v.0 v.1) (limit_within i v.0 left v.1 h)

pub highest_within : (left : ℕ) {on : ℕ} → 0 < on → on < 2 ^ limit left → highest INTERNAL on < limit left
highest_within left {on} some h = highest_below on some (found_few left h) (limit left) h

-- ---- the count before a place
pub before_is : (map i : ℕ) → map < 65536 → i < EXTERNAL
    → (ones (bit_and map ((1 * 2 ^ i) % 4294967296 - 1)) ≡ ones_before map i) × (ones (bit_and map ((1 * 2 ^ i) % 4294967296 - 1)) ≤ EXTERNAL)
unfolding ones_before
before_is map i h l = (
  ap ones (and_shl 32 i map (omega arith)),
  ones-le 16 _ (omega (arith, and_le_l map ((1 * 2 ^ i) % 4294967296 - 1))),
)

pub shl_some : (i : ℕ) → i < EXTERNAL → 1 ≤ (1 * 2 ^ i) % 4294967296
shl_some i l = rw (one_shl 32 i (omega arith)) (pow_pos i)

pub path_is : (address left : ℕ) → (address * 16 / 2 ^ left % 16 ≡ path_at address left) × (address * 16 / 2 ^ left % 16 < EXTERNAL)
unfolding path_at
path_is address left = (refl, omega arith)
