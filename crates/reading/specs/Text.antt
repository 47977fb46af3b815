-- The whole text, as it is read: "anything else, extra text or an early end is 11" (01, "The tablet program"). A text is good and says
-- a sheet, or its first bad line has a number; text after the last line is bad at the line after it. What the call means
-- (Contents) does without it: there a text is that of a sound sheet (Spelling), or has a first bad line (FirstBad).
use Rattle.std.specs.Prelude.{◌≡◌, List, false, ◌&&◌, cond, ℕ, length, eqb, Result, Ok, Err, MatchResult}
use Rattle.reading.specs.Sheet.{Sheet}
use Rattle.reading.specs.declared.lines.BadLine.{BadLine}
use Rattle.reading.specs.declared.parsing.Head.{Head}
use Rattle.reading.specs.declared.parsing.Contents.{Contents}
use Rattle.reading.specs.Limits.{COUNT, number_digits, NUMBER, SHORT}
use Rattle.reading.specs.Keys.{width_key, levels_key, links_key, entries_key, queries_key}
use Rattle.reading.specs.Lines.{Spot, Item, spot_at, number_line, kind_line, kind_named}
use Rattle.reading.specs.Taking.{bad_at}
use Rattle.reading.specs.Contents.{sheet_contents}
use Rattle.table.specs.Lists.{listed}
use Rattle.reading.specs.Entries.{after_entries, after_queries, entry_bits, entry_length, entry_hop, query_address, query_places}

pub data Text : Type 0 where
  good : Sheet → Text
  bad : ℕ → Text

-- lines are numbered from 1
abbrev pub text_start : Spot
text_start = spot_at 0 1

module _ (s : List ℕ) where
  -- the single lines, in their order
  unfoldable pub width_item : Item
  width_item = number_line number_digits NUMBER width_key s text_start

  unfoldable pub kind_item : Item
  kind_item = kind_line s width_item.spot

  unfoldable pub levels_item : Item
  levels_item = number_line number_digits NUMBER levels_key s kind_item.spot

  unfoldable pub links_item : Item
  links_item = number_line number_digits SHORT links_key s levels_item.spot

  unfoldable pub entries_item : Item
  entries_item = number_line number_digits COUNT entries_key s links_item.spot

  unfoldable pub queries_item : Item
  queries_item = number_line number_digits COUNT queries_key s (after_entries s entries_item.spot entries_item.value)

  -- after the last line
  unfoldable pub last_spot : Spot
  last_spot = after_queries s queries_item.spot queries_item.value

  unfoldable pub sheet_of : Sheet
  sheet_of =
      record {
        width = width_item.value;
        kind = kind_named kind_item.value;
        levels = levels_item.value;
        links = links_item.value;
        bits = listed (entry_bits s entries_item.spot) entries_item.value;
        lengths = listed (entry_length s entries_item.spot) entries_item.value;
        hops = listed (entry_hop s entries_item.spot) entries_item.value;
        addresses = listed (query_address s queries_item.spot) queries_item.value;
        places = listed (query_places s queries_item.spot) queries_item.value;
      }

  unfoldable pub text_of : Text
  text_of = cond (last_spot.good && eqb last_spot.at (length s)) (good sheet_of) (bad last_spot.line)

  -- the first five lines together
  unfoldable pub head_of : Head
  head_of =
      record {
        width = width_item.value;
        kind = kind_named kind_item.value;
        levels = levels_item.value;
        links = links_item.value;
        entries = entries_item.value;
      }

-- what the call that reads them answers: them, and the reading stands after them; or their first bad line
pub record HeadTook (s : List ℕ) (r : Result Head BadLine) (after : Spot) : Type 0 where
  pub said : MatchResult r (λ h. (h ≡ head_of s) × (after ≡ (entries_item s).spot))
      (λ b. ((entries_item s).spot.good ≡ false) × (b ≡ bad_at (entries_item s).spot.line))

-- what the call that reads a text hands back
unfoldable pub contents_of : Text → Result Contents BadLine
contents_of (good sh) = Ok (sheet_contents sh)
contents_of (bad line) = Err (bad_at line)
