-- Laws of what is printed: the digits of a number, and how long a line can be.
use mathlib.Core.Path.{◌≡◌, sym, ap, ◌∙◌}
use mathlib.Core.List.{List, [], ◌∷◌, ◌++◌}
use mathlib.Core.Bool.{Bool, true, false, cond}
use Prim.Native.Nat.{ℕ, zero, suc, pred, ◌+◌, ◌-◌, ◌*◌, ◌/◌, ◌%◌, ◌^◌, ◌≤◌, ◌<◌}
use Prim.Dec.{yes, no}
use native.Mathlib.Omega.{arith}
use native.Mathlib.Decide.{dec_le}
use native.Mathlib.Nat.{suc-mul, pow-le-pow_right, mod-lt}
use lib.ListN.{length, length-append}
use lib.Dec.{ltb, lit<, lit≤}
use borrow.Author.Tests.{lt-ltb}
use Rattle.std.proofs.Common.{append_assoc}
use Rattle.std.proofs.Math.Nat.{div-div-eq-div-mul, pow-suc}
use Rattle.std.proofs.lemmas.List.{append-nil}
use Rattle.io.specs.Digits.{IsDigitCount}
use Rattle.reading.specs.Limits.{BITS, LF, zero_digit, decimal_digits}
use Rattle.reading.specs.Keys.{address_key, hop_key}
use Rattle.reading.specs.Numerals.{decimal_length_from, decimal_length, decimal, binary, line_of, bits_line_of, joined}
use Rattle.reading.proofs.Numerals.{length_digits}
use Rattle.sheet.specs.Limits.{refusal_bytes, head_bytes, answer_bytes, decimal_bytes, address_bytes}
use Rattle.sheet.specs.Keys.{refusal_key, detail_key, elements_key, root_key, length_key, reads_key}
use Rattle.sheet.specs.Printing.{address_line, refusal_lines, head_lines, answer_lines}

-- ---- decimal

-- a number of 64 bits takes at most decimal_digits
pub fewest_few : (n k : ℕ) → n < 2 ^ 64 → IsDigitCount 10 1 n k → k ≤ decimal_digits
fewest_few n k h w =
    elim (dec_le k decimal_digits) [
      | yes p ↦ p
      | no p ↦ absurd (omega (arith, pow-le-pow_right {n = 10} (lit≤ tt) {i = decimal_digits} {j = k - 1} (omega arith), w.2 (omega arith)))
    ]

-- ---- binary digits, put from the first to the last

binary_more : (j v : ℕ) → binary (suc j) v ≡ binary j (v / 2) ++ ((zero_digit + v % 2) ∷ [])
unfolding binary
binary_more j v = rw (lt-ltb (v % 2) 10 (omega (arith, mod-lt v {m = 2} (lit< tt))))

pub length_binary : (n v : ℕ) → length (binary n v) ≡ n
unfolding binary
length_binary n v = length_digits 2 n v

pub bits_none : (xs : List ℕ) (k v : ℕ) → k ≡ 0 → xs ≡ xs ++ binary k v
unfolding binary
bits_none xs k v e = rw e (sym (append-nil xs))

pub bits_more : (old xs : List ℕ) (n i v : ℕ) → 0 < i → i ≤ n → xs ≡ old ++ binary (n - i) (v / 2 ^ i)
    → xs ++ ((zero_digit + v / 2 ^ (i - 1) % 2) ∷ []) ≡ old ++ binary (n - (i - 1)) (v / 2 ^ (i - 1))
bits_more old xs n i v h w e =
    let k : n - (i - 1) ≡ suc (n - i) = omega arith in
    let p : 2 ^ i ≡ 2 ^ (i - 1) * 2 = rw (sym (pow-suc 2 (i - 1))) (ap (λ x. 2 ^ x) (omega arith)) in
    let d : v / 2 ^ (i - 1) / 2 ≡ v / 2 ^ i = div-div-eq-div-mul v (2 ^ (i - 1)) 2 ∙ ap (λ x. v / x) (sym p) in
    rw (k, binary_more (n - i) (v / 2 ^ (i - 1)), d, e) (append_assoc old _ _)

pub bits_fit : (old xs : List ℕ) (n i v : ℕ) → i ≤ n → xs ≡ old ++ binary (n - i) (v / 2 ^ i) → length xs ≡ length old + (n - i)
bits_fit old xs n i v w e = rw (e, length-append old (binary (n - i) (v / 2 ^ i)), length_binary (n - i) (v / 2 ^ i)) (omega arith)

-- ---- how long a line can be

decimal_le : (f i n : ℕ) → decimal_length_from f i n ≤ i + f
unfolding decimal_length_from
decimal_le zero i n = omega arith
decimal_le (suc f) i n = go (ltb n (10 ^ i)) (decimal_le f (suc i) n)
  where
    go : (t : Bool) → decimal_length_from f (suc i) n ≤ suc i + f → cond t i (decimal_length_from f (suc i) n) ≤ i + suc f
    go true h = omega arith
    go false h = omega arith

pub length_decimal : (n : ℕ) → length (decimal n) ≤ decimal_digits
unfolding decimal decimal_length
length_decimal n = omega (arith, length_digits 10 (decimal_length_from (pred decimal_digits) 1 n) n, decimal_le (pred decimal_digits) 1 n)

pub length_line : (key : List ℕ) (n : ℕ) → length (line_of key n) ≤ length key + decimal_bytes
unfolding line_of
length_line key n = omega (arith, length-append (key ++ decimal n) (LF ∷ []), length-append key (decimal n), length_decimal n)

pub length_address : (v n : ℕ) → length (address_line v n) ≡ n + address_bytes
unfolding bits_line_of
length_address v n =
    omega (arith, length-append (address_key ++ binary n v) (LF ∷ []), length-append address_key (binary n v), length_binary n v)

-- what stands on a page after one line more
pub longer_by_line : (old : List ℕ) {new : List ℕ} (key : List ℕ) (n : ℕ) → new ≡ old ++ line_of key n → length new ≤ length old + (length key + decimal_bytes)
longer_by_line old key n e = omega (arith, ap length e, length-append old (line_of key n), length_line key n)

pub longer_by_address : (old : List ℕ) {new : List ℕ} (v n : ℕ) → new ≡ old ++ address_line v n → length new ≡ length old + (n + address_bytes)
longer_by_address old v n e = omega (arith, ap length e, length-append old (address_line v n), length_address v n)

-- a query's four lines, put one after the other, where each number has the answer's value
pub lines_put : (old : List ℕ) {p q r new : List ℕ} (v n : ℕ) {a b c hop len reads : ℕ}
    → p ≡ old ++ address_line v n → q ≡ p ++ line_of hop_key a → r ≡ q ++ line_of length_key b → new ≡ r ++ line_of reads_key c
    → a ≡ hop → b ≡ len → c ≡ reads → new ≡ old ++ (address_line v n ++ line_of hop_key hop ++ line_of length_key len ++ line_of reads_key reads)
lines_put old v n e f g h i j k = rw (h, g, f, e, i, j, k) (simp append_assoc)

pub length_refusal : (a b : ℕ) → length (refusal_lines a b) ≤ refusal_bytes
unfolding refusal_lines
length_refusal a b = omega (arith, length-append (line_of refusal_key a) (line_of detail_key b), length_line refusal_key a, length_line detail_key b)

pub length_head : (e r : ℕ) → length (head_lines e r) ≤ head_bytes
unfolding head_lines
length_head e r =
    omega (
      arith,
      length-append (refusal_lines 0 0 ++ line_of elements_key e) (line_of root_key r),
      length-append (refusal_lines 0 0) (line_of elements_key e),
      length_refusal 0 0,
      length_line elements_key e,
      length_line root_key r,
    )

pub length_answer : (v n h l r : ℕ) → n ≤ BITS → length (answer_lines v n h l r) ≤ answer_bytes
unfolding answer_lines
length_answer v n h l r few =
    simp length-append (omega (arith, length_address v n, length_line hop_key h, length_line length_key l, length_line reads_key r))

-- ---- query by query

pub length_joined : (f : ℕ → List ℕ) (b n : ℕ) → ((i : ℕ) → i < n → length (f i) ≤ b) → length (joined f n) ≤ n * b
unfolding joined
length_joined f b zero h = omega arith
length_joined f b (suc n) h =
    omega (arith, length-append (joined f n) (f n), length_joined f b n (λ i k. h i (omega arith)), h n (omega arith), suc-mul n b)
