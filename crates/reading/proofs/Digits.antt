-- Laws of the digits that stand in the text: how many they are, and what they spell.
use mathlib.Core.Path.{◌≡◌, refl, sym, ap, subst, ◌∙◌}
use mathlib.Core.List.{List}
use mathlib.Core.Bool.{Bool, true, false, not, cond}
use Prim.Native.Nat.{ℕ, zero, suc, ◌+◌, ◌-◌, ◌*◌, ◌^◌, ◌≤◌, ◌<◌}
use native.Mathlib.Omega.{arith}
use native.Mathlib.Numerals.{add-one}
use native.Mathlib.Nat.{pow-suc, pow-zero, pow-le-pow_right, mul-le-mul_right, suc-mul, add-zero, sub-zero}
use lib.ListN.{length}
use lib.Dec.{lit<}
use borrow.Author.Tests.{leb-true, ltb-true, not-true, not-false}
use Rattle.std.proofs.lemmas.Bool.{and_parts}
use Rattle.reading.specs.Limits.{zero_digit, KEY}
use Rattle.reading.specs.Lines.{byte_at, is_digit, count_at, value_at, digits_at}
use Rattle.reading.specs.declared.lines.Digits.{Digits}
use Rattle.reading.proofs.Keys.{byte_inside}

-- ---- one digit

pub record IsDigit (b c : ℕ) : Type 0 where
  pub low : zero_digit ≤ c
  pub high : c < zero_digit + b

pub is_digit_lem : (b c : ℕ) → is_digit b c ≡ true → IsDigit b c
unfolding is_digit
is_digit_lem b c e = let w = and_parts _ _ e in record { low = leb-true _ _ w.0; high = ltb-true _ _ w.1 }

pub digit_inside : (b : ℕ) (s : List ℕ) (p : ℕ) → is_digit b (byte_at s p) ≡ true → p < length s
digit_inside b s p e = let d = is_digit_lem b (byte_at s p) e in byte_inside s p (λ z. omega arith)

-- one digit more
pub value_more : (b n v d : ℕ) → v < b ^ n → d < b → v * b + d < b ^ (n + 1)
value_more b n v d h k = rw (add-one, pow-suc) (omega (arith, mul-le-mul_right b h, suc-mul v b))

-- ---- how many

pub count_most : (b k : ℕ) (s : List ℕ) (p : ℕ) → count_at b k s p ≤ k
unfolding count_at
count_most b zero s p = omega arith
count_most b (suc k) s p = go (is_digit b (byte_at s p)) (count_most b k s (suc p))
  where
    go : (t : Bool) → count_at b k s (suc p) ≤ k → cond t (suc (count_at b k s (suc p))) zero ≤ suc k
    go true h = omega arith
    go false h = omega arith

-- each of those counted is a digit
pub counted : (b k : ℕ) (s : List ℕ) (p j : ℕ) → j < count_at b k s p → is_digit b (byte_at s (p + j)) ≡ true
unfolding count_at
counted b zero s p j h = absurd (omega arith)
counted b (suc k) s p j h = go (is_digit b (byte_at s p)) refl j h (counted b k s (suc p))
  where
    go : (t : Bool) → is_digit b (byte_at s p) ≡ t → (j : ℕ) → j < cond t (suc (count_at b k s (suc p))) zero
        → ((i : ℕ) → i < count_at b k s (suc p) → is_digit b (byte_at s (suc p + i)) ≡ true)
        → is_digit b (byte_at s (p + j)) ≡ true
    go true e zero h rec = rw add-zero e
    go true e (suc i) h rec = let f : p + suc i ≡ suc p + i = omega arith in rw f (rec i (omega arith))
    go false e j h rec = absurd (omega arith)

-- n digits spell a number below b ^ n
pub value_below : (b k n : ℕ) (s : List ℕ) (p : ℕ) → n ≤ count_at b k s p → value_at b n s p < b ^ n
unfolding value_at
value_below b k zero s p h = rw pow-zero (lit< tt)
value_below b k (suc n) s p h =
    let d = is_digit_lem b (byte_at s (p + n)) (counted b k s p n (omega arith)) in
    subst (λ (m : ℕ). value_at b n s p * b + (byte_at s (p + n) - zero_digit) < b ^ m) (add-one n)
    (value_more b n (value_at b n s p) (byte_at s (p + n) - zero_digit) (value_below b k n s p (omega arith)) (omega arith))

pub digits_are : (b most : ℕ) (s : List ℕ) (p v n : ℕ) → v ≡ value_at b n s p → count_at b most s p ≡ n → digits_at b most s p ≡ record { value = v; count = n }
unfolding digits_at
digits_are b most s p v n e f = rw (f, e)

-- ---- the loop over the digits: n of them were read from p on, and spell v

pub record DigitsBegun (b most : ℕ) (s : List ℕ) (p n v : ℕ) : Type 0 where
  pub inside : p + n ≤ length s + KEY
  pub below : v < b ^ n
  pub spelled : v ≡ value_at b n s p
  pub left : count_at b most s p ≡ n + count_at b (most - n) s (p + n)

pub begun_none : (b most : ℕ) (s : List ℕ) (p : ℕ) → p ≤ length s + KEY → DigitsBegun b most s p 0 0
unfolding value_at
begun_none b most s p h =
    record {
      inside = omega arith;
      below = rw pow-zero (lit< tt);
      spelled = refl;
      left = rw (sub-zero, add-zero) (omega arith);
    }

module _ {b most : ℕ} {s : List ℕ} {p n v : ℕ} (so-far : DigitsBegun b most s p n v) where
  pub begun_fits : n ≤ most → 2 ≤ b → b ^ most ≤ 2 ^ 64 → v < 2 ^ 64
  begun_fits h two m = omega (arith, so-far.below, pow-le-pow_right {n = b} (omega arith) {i = n} {j = most} h)

  -- nothing was left to read
  pub begun_end : most ≤ n → n ≤ most → ◌≡◌ {A = Digits} (record { value = v; count = most }) (digits_at b most s p)
  unfolding count_at
  begun_end h k =
      let f : most - n ≡ 0 = omega arith in
      let e : n ≡ most = omega arith in
      sym (digits_are b most s p v most (so-far.spelled ∙ ap (λ (k : ℕ). value_at b k s p) e) (so-far.left ∙ rw f (omega arith)))

  -- c is the next byte, and t its test
  module _ {c : ℕ} {t : Bool} (read : c ≡ byte_at s (p + n)) (test : t ≡ is_digit b c) where
    pub begun_stop : not t ≡ true → ◌≡◌ {A = Digits} (record { value = v; count = n }) (digits_at b most s p)
    unfolding count_at
    begun_stop e = sym (digits_are b most s p v n so-far.spelled (omega (arith, so-far.left, go (most - n) (ap (is_digit b) (sym read) ∙ sym test ∙ not-true _ e))))
      where
        go : (k : ℕ) → is_digit b (byte_at s (p + n)) ≡ false → count_at b k s (p + n) ≡ 0
        go zero f = refl
        go (suc k) f = rw f

    module _ (on : not t ≡ false) where
      pub next_digit : IsDigit b c
      next_digit = is_digit_lem b c (sym test ∙ not-false _ on)

      pub begun_more : n < most → DigitsBegun b most s p (n + 1) (v * b + (c - zero_digit))
      unfolding value_at count_at
      begun_more h =
          let d = next_digit in
          let took : is_digit b (byte_at s (p + n)) ≡ true = ap (is_digit b) (sym read) ∙ sym test ∙ not-false _ on in
          let f : most - n ≡ suc (most - (n + 1)) = omega arith in
          let g : p + (n + 1) ≡ suc (p + n) = omega arith in
          let after : count_at b (most - n) s (p + n) ≡ suc (count_at b (most - (n + 1)) s (p + (n + 1))) = rw (f, g, took) in
          record {
            inside = omega (arith, digit_inside b s (p + n) took);
            below = value_more b n v (c - zero_digit) so-far.below (omega arith);
            spelled = rw (read, so-far.spelled, add-one);
            left = omega (arith, so-far.left, after);
          }

-- ---- what a call that read digits handed back

module _ (b most : ℕ) (s : List ℕ) (p : ℕ) {d : Digits} (read : d ≡ digits_at b most s p) where
  pub read_most : d.count ≤ most
  unfolding digits_at
  read_most = rw read (count_most b most s p)
