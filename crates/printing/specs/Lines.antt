-- A line that is bad is passed over, to the byte that ends it, and changes no table.
use Rattle.std.specs.Prelude.{Bool, List, ℕ, length}
use Rattle.cases.specs.Numerals.{seek_at}
use Rattle.cases.specs.Rising.{Risen}
use Rattle.cases.specs.Tables.{Holds}
use Rattle.cases.specs.declared.tables.Table.{Table}
use Rattle.cases.specs.declared.text.Text.{Text}

-- the byte between two lines
abbrev pub line_feed : ℕ
line_feed = 10

-- the text where the line ends
abbrev pub passed : Text → Text
passed t = record t { at = seek_at line_feed line_feed t.bytes.now t.at }

-- the line is bad for the room of the table
abbrev pub bad_for : (List ℕ → ℕ → ℕ → Bool) → Text → Table → Bool
bad_for bad t table = bad t.bytes.now t.at (length table.values.now)

-- a table's line that is not bad
abbrev pub HoldsLine : Text → Table → Text → Table → Type 0
HoldsLine t table t' table' =
    Holds t.bytes.now t.at table.values.now table.lengths.now table.hops.now table'.values.now table'.lengths.now table'.hops.now table'.held t'.at

-- a line that makes a table and is not bad
abbrev pub RisenLine : Text → Table → Text → Table → Type 0
RisenLine t table t' table' =
    Risen t.bytes.now t.at table.values.now table.lengths.now table.hops.now table'.values.now table'.lengths.now table'.hops.now table'.held t'.at
