-- Laws of how numbers are written: the fewest digits are those that are written; and lines one after the other.
use mathlib.Core.Path.{◌≡◌, refl, sym, ap, ◌∙◌}
use mathlib.Core.List.{List, ◌∷◌, []}
use Prim.Native.Nat.{ℕ, zero, suc, pred, ◌+◌, ◌-◌, ◌/◌, ◌%◌, ◌^◌, ◌≤◌, ◌<◌}
use Prim.Dec.{yes, no}
use native.Mathlib.Omega.{arith}
use native.Mathlib.Decide.{dec_le}
use native.Mathlib.Numerals.{add-one}
use native.Mathlib.Nat.{pow-le-pow_right}
use lib.ListN.{length, length-append}
use lib.Dec.{lit≤}
use borrow.Author.Tests.{lt-ltb, le-ltb}
use Rattle.io.specs.Digits.{last_digits, hex_digit_ascii, IsDigitCount}
use Rattle.reading.specs.Limits.{decimal_digits}
use Rattle.reading.specs.Numerals.{decimal_length_from, decimal_length, decimal, joined}

pub fewest_length : (n k : ℕ) → IsDigitCount 10 1 n k → k ≤ decimal_digits → decimal_length n ≡ k
unfolding decimal_length decimal_length_from
fewest_length n k w h = go (pred decimal_digits) 1 (lit≤ tt) w.0 (omega arith)
  where
    go : (f i : ℕ) → 1 ≤ i → i ≤ k → k ≤ i + f → decimal_length_from f i n ≡ k
    go zero i o a b = omega arith
    go (suc f) i o a b =
        elim (dec_le k i) [
          | yes p ↦ let e : i ≡ k = omega arith in rw (e, lt-ltb n (10 ^ k) w.1)
          | no p ↦
              let m : 10 ^ i ≤ n = omega (arith, pow-le-pow_right {n = 10} (lit≤ tt) {i = i} {j = k - 1} (omega arith), w.2 (omega arith)) in
              rw (le-ltb n (10 ^ i) m) (go f (suc i) (omega arith) (omega arith) (omega arith))
        ]

pub fewest_decimal : (n k : ℕ) → IsDigitCount 10 1 n k → k ≤ decimal_digits → last_digits 10 k n ≡ decimal n
unfolding decimal
fewest_decimal n k w h = ap (λ (x : ℕ). last_digits 10 x n) (sym (fewest_length n k w h))

pub length_digits : (b k n : ℕ) → length (last_digits b k n) ≡ k
length_digits b zero n = refl
length_digits b (suc k) n =
    length-append (last_digits b k (n / b)) (hex_digit_ascii (n % b) ∷ []) ∙ ap (λ (x : ℕ). x + 1) (length_digits b k (n / b)) ∙ add-one k

pub joined_same : (f g : ℕ → List ℕ) (n : ℕ) → ((i : ℕ) → i < n → f i ≡ g i) → joined f n ≡ joined g n
unfolding joined
joined_same f g zero h = refl
joined_same f g (suc n) h = rw (joined_same f g n (λ i k. h i (omega arith)), h n (omega arith))
