-- The lengths of three lists as a line gives them. They go with the rows that the text gives next where these are not more than the
-- room, and no list is longer than they are.
use Rattle.std.specs.Prelude.{Bool, ◌||◌, List, ℕ, ltb}
use Rattle.cases.specs.Numerals.{number_at}
use Rattle.cases.specs.Triples.{second_at, third_at}
use Rattle.cases.specs.declared.lists.ThreeLengths.{ThreeLengths}

abbrev pub three_at : List ℕ → ℕ → ThreeLengths
three_at s p = record { first = (number_at s p).value; second = (second_at s p).value; third = (third_at s p).value }

unfoldable pub is_longer : ThreeLengths → ℕ → Bool
is_longer l n = ltb n l.first || (ltb n l.second || ltb n l.third)

unfoldable pub is_unfit : List ℕ → ℕ → ThreeLengths → ℕ → Bool
is_unfit s p l room = ltb room (number_at s p).value || is_longer l (number_at s p).value

-- the lengths on a table's line, after the width and the number of links
abbrev pub table_lists : List ℕ → ℕ → ThreeLengths
table_lists s p = three_at s (second_at s p).next

-- where the entries begin
abbrev pub table_rows : List ℕ → ℕ → ℕ
table_rows s p = (third_at s (second_at s p).next).next

-- they do not go with the entries that come next
abbrev pub bad_table : List ℕ → ℕ → ℕ → Bool
bad_table s p room = is_unfit s (table_rows s p) (table_lists s p) room
