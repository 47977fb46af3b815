-- A table's line: its width, the number of links, how many entries each of the three lists has, and the entries themselves, which are
-- read to the start of the table's lists. The cases of the lines below it lend the fronts of those lengths.
use Rattle.std.specs.Prelude.{◌≡◌, List, ℕ, min}
use Rattle.cases.specs.Limits.{most_32, most_16}
use Rattle.cases.specs.Numerals.{number_at}
use Rattle.cases.specs.Triples.{second_at, Reads}
use Rattle.cases.specs.Lists.{table_lists, table_rows}
use Rattle.cases.specs.declared.tables.Held.{Held}

abbrev pub no_table : Held
no_table = record { width = 0; links = 0; values = 0; lengths = 0; hops = 0 }

pub record Holds (s : List ℕ) (p : ℕ) (a b c a' b' c' : List ℕ) (r : Held) (q : ℕ) : Type 0 where
  pub width : r.width ≡ min (number_at s p).value most_32
  pub links : r.links ≡ min (second_at s p).value most_16
  pub values : r.values ≡ (table_lists s p).first
  pub lengths : r.lengths ≡ (table_lists s p).second
  pub hops : r.hops ≡ (table_lists s p).third
  pub entries : Reads s (table_rows s p) a b c a' b' c' q
