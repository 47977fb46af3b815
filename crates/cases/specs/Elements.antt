-- The four element lists of a line: their lengths, and rows of four numbers, hop, length, link and stride, that the line gives for them. A
-- number says how many rows, and they are written to the start of the lists of the room, as many as the shortest has places, each number held at
-- the largest that its places take.
use Rattle.std.specs.Prelude.{◌≡◌, Bool, ◌||◌, List, ℕ, zero, suc, min, ltb, length}
use Rattle.cases.specs.Limits.{most_32, most_16, most_8}
use Rattle.cases.specs.Numerals.{number_at}
use Rattle.cases.specs.Triples.{second_at, third_at, fourth_at}
use Rattle.cases.specs.Rising.{set_first}
use Rattle.cases.specs.declared.elements.FourLengths.{FourLengths}

-- the four numbers of a row
pub record ElementRow : Type 0 where
  pub hop : ℕ
  pub length : ℕ
  pub link : ℕ
  pub stride : ℕ

abbrev pub no_lists : FourLengths
no_lists = record { hops = 0; lengths = 0; links = 0; strides = 0 }

abbrev pub four_at : List ℕ → ℕ → FourLengths
four_at s p =
    record {
      hops = (number_at s p).value;
      lengths = (second_at s p).value;
      links = (third_at s p).value;
      strides = (fourth_at s p).value;
    }

unfoldable pub is_past : FourLengths → ℕ → Bool
is_past l n = ltb n l.hops || (ltb n l.lengths || (ltb n l.links || ltb n l.strides))

-- the row at place p
unfoldable pub element_at : List ℕ → ℕ → ElementRow
element_at s p =
    record {
      hop = min (number_at s p).value most_16;
      length = min (second_at s p).value most_8;
      link = min (third_at s p).value most_32;
      stride = min (fourth_at s p).value most_8;
    }

-- where row i begins, of rows that begin at place p
unfoldable pub element_place : List ℕ → ℕ → ℕ → ℕ
element_place s p zero = p
element_place s p (suc i) = (fourth_at s (element_place s p i)).next

-- row i of them
abbrev pub element_row : List ℕ → ℕ → ℕ → ElementRow
element_row s p i = element_at s (element_place s p i)

pub record ElementsRead (s : List ℕ) (p : ℕ) (a b c d a' b' c' d' : List ℕ) (r : ℕ) : Type 0 where
  pub count : ℕ
  pub fits : count ≡ min (number_at s p).value (min (min (length a) (length b)) (min (length c) (length d)))
  pub hops : a' ≡ set_first (λ i. (element_row s (number_at s p).next i).hop) count a
  pub lengths : b' ≡ set_first (λ i. (element_row s (number_at s p).next i).length) count b
  pub links : c' ≡ set_first (λ i. (element_row s (number_at s p).next i).link) count c
  pub strides : d' ≡ set_first (λ i. (element_row s (number_at s p).next i).stride) count d
  pub next : r ≡ element_place s (number_at s p).next count
