-- A decimal number in a text: the next digit at or after a place begins it, the next byte that is no digit ends it.
-- Other bytes are skipped, so that a case's line can say what its numbers mean.
use Rattle.std.specs.Prelude.{Bool, cond, ◌&&◌, List, [], ◌∷◌, ℕ, suc, ◌+◌, ◌-◌, ◌*◌, leb, ltb, drop}
use Rattle.cases.specs.Limits.{first_digit, last_digit, one_more}

-- a number, and the place past its last digit
pub record Numeral : Type 0 where
  pub value : ℕ
  pub next : ℕ

abbrev pub between : ℕ → ℕ → ℕ → Bool
between low high c = leb low c && leb c high

-- the first place whose byte is within the bounds; the list is the text from place p on
unfoldable pub seek_in : ℕ → ℕ → List ℕ → ℕ → ℕ
seek_in low high [] p = p
seek_in low high (c ∷ cs) p = cond (between low high c) p (seek_in low high cs (suc p))

abbrev pub seek_at : ℕ → ℕ → List ℕ → ℕ → ℕ
seek_at low high s p = seek_in low high (drop p s) p

-- one digit more; past 19 digits the number stays, so that it fits 64 bits
unfoldable pub more : ℕ → ℕ → ℕ
more v c = cond (ltb v one_more) (v * 10 + (c - first_digit)) v

-- the digits from place p on, after a number v; the list is the text from there on
unfoldable pub digits_in : List ℕ → ℕ → ℕ → Numeral
digits_in [] v p = record { value = v; next = p }
digits_in (c ∷ cs) v p = cond (between first_digit last_digit c) (digits_in cs (more v c) (suc p)) (record { value = v; next = p })

abbrev pub numeral_at : List ℕ → ℕ → Numeral
numeral_at s p = digits_in (drop p s) 0 p

unfoldable pub number_at : List ℕ → ℕ → Numeral
number_at s p = numeral_at s (seek_at first_digit last_digit s p)
