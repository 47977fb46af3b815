-- Rows of three numbers in a text: a number that says how many, then the rows. They are written to the start of
-- three lists of a table, as many as the shortest has places, each number held at the largest that its places take.
use Rattle.std.specs.Prelude.{◌≡◌, List, ℕ, zero, suc, min, length, set}
use Rattle.cases.specs.Limits.{most_32, most_16, most_8}
use Rattle.cases.specs.Numerals.{Numeral, number_at}

pub record ThreeLists : Type 0 where
  pub first : List ℕ
  pub second : List ℕ
  pub third : List ℕ

-- the second and third number of the row at place p, and the one after them; its first is the number there
abbrev pub second_at : List ℕ → ℕ → Numeral
second_at s p = number_at s (number_at s p).next

abbrev pub third_at : List ℕ → ℕ → Numeral
third_at s p = number_at s (second_at s p).next

abbrev pub fourth_at : List ℕ → ℕ → Numeral
fourth_at s p = number_at s (third_at s p).next

unfoldable pub put_three : ThreeLists → ℕ → ℕ → ℕ → ℕ → ThreeLists
put_three t i x y z =
    record {
      first = set t.first i (min x most_32);
      second = set t.second i (min y most_8);
      third = set t.third i (min z most_16);
    }

-- n rows from place p of the text on, written from place i of the lists on
unfoldable pub fill : List ℕ → ℕ → ℕ → ℕ → ThreeLists → ThreeLists
fill s zero p i t = t
fill s (suc n) p i t = fill s n (third_at s p).next (suc i) (put_three t i (number_at s p).value (second_at s p).value (third_at s p).value)

-- the place past n rows
unfoldable pub past : List ℕ → ℕ → ℕ → ℕ
past s zero p = p
past s (suc n) p = past s n (third_at s p).next

pub record Reads (s : List ℕ) (p : ℕ) (a b c a' b' c' : List ℕ) (r : ℕ) : Type 0 where
  pub count : ℕ
  pub fits : count ≡ min (number_at s p).value (min (length a) (min (length b) (length c)))
  pub next : r ≡ past s count (number_at s p).next
  pub lists : record { first = a'; second = b'; third = c' } ≡ fill s count (number_at s p).next 0 (record { first = a; second = b; third = c })
