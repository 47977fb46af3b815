-- How numbers are written, in the text and in the report alike (01, "The tablet program"): a line is a key, a value and LF; "numbers are
-- decimal without leading zeros", bits and addresses are binary digits.
use Rattle.std.specs.Prelude.{cond, List, [], ◌∷◌, ◌++◌, ℕ, zero, suc, pred, ◌^◌, ltb}
use Rattle.io.specs.Digits.{last_digits}
use Rattle.reading.specs.Limits.{LF, decimal_digits}

-- the first d from i on, at most f further, with n below 10 ^ d
unfoldable pub decimal_length_from : ℕ → ℕ → ℕ → ℕ
decimal_length_from zero i n = i
decimal_length_from (suc f) i n = cond (ltb n (10 ^ i)) i (decimal_length_from f (suc i) n)

-- how many decimal digits a number of at most decimal_digits takes
unfoldable pub decimal_length : ℕ → ℕ
decimal_length n = decimal_length_from (pred decimal_digits) 1 n

-- the number in decimal, without leading zeros
unfoldable pub decimal : ℕ → List ℕ
decimal n = last_digits 10 (decimal_length n) n

-- the n binary digits of v
unfoldable pub binary : (n v : ℕ) → List ℕ
binary n v = last_digits 2 n v

-- a line with a number
unfoldable pub line_of : List ℕ → ℕ → List ℕ
line_of key n = key ++ decimal n ++ (LF ∷ [])

-- a line with n binary digits
unfoldable pub bits_line_of : List ℕ → (v n : ℕ) → List ℕ
bits_line_of key v n = key ++ binary n v ++ (LF ∷ [])

-- f at 0, 1, .. below n, one after the other
unfoldable pub joined : (ℕ → List ℕ) → ℕ → List ℕ
joined f zero = []
joined f (suc n) = joined f n ++ f n
