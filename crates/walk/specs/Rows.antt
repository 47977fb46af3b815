-- The element rows of document 01 and 02, [5]: an element is a row of four lent lists, hop, length, link and child stride, of which
-- the shortest counts. All else speaks of a row and of the lists as wholes, and leaves to this page what they consist of.
use Rattle.std.specs.Prelude.{ℕ, min, ◌+◌, ◌-◌, ◌/◌, ◌%◌, ◌^◌, List, length, get_or}
use Rattle.walk.specs.declared.record.Record.{Record}

pub record Row : Type 0 where
  pub hop : ℕ
  pub len : ℕ
  pub link : ℕ
  pub stride : ℕ

pub record Lists : Type 0 where
  pub hop : List ℕ
  pub len : List ℕ
  pub link : List ℕ
  pub stride : List ℕ

abbrev pub lists : (hop len link stride : List ℕ) → Lists
lists hop len link stride = record { hop = hop; len = len; link = link; stride = stride }

-- the number of rows that all lists have
abbrev pub shortest : Lists → ℕ
shortest ls = min (length ls.hop) (min (length ls.len) (min (length ls.link) (length ls.stride)))

abbrev pub row_at : Lists → ℕ → Row
row_at ls r = record { hop = get_or ls.hop r 0; len = get_or ls.len r 0; link = get_or ls.link r 0; stride = get_or ls.stride r 0 }

-- the root's stride, the record's first
abbrev pub root : Record → ℕ
root rec = get_or rec.strides 0 0

-- the row of a block that starts at row `base`, picked by the next s of the `left` address bits that are left
unfoldable pub row_of : (address base s left : ℕ) → ℕ
row_of address base s left = base + address / 2 ^ (left - s) % 2 ^ s
