-- What the call that reads a text hands back (01, "The tablet program"): what the sheet says, or the first bad line. A text is that of a
-- sound sheet or has a first bad line, and no reading is in this: one answer is left (proofs/Holding.antt, `contents_unique`).
use Rattle.std.specs.Prelude.{◌≡◌, List, ◌⊎◌, ℕ, ◌≤◌, length, take, Result, Ok, Err}
use Rattle.table.specs.Lists.{padded}
use Rattle.reading.specs.declared.lines.BadLine.{BadLine}
use Rattle.reading.specs.declared.parsing.Contents.{Contents}
use Rattle.reading.specs.Limits.{COUNT}
use Rattle.reading.specs.Sheet.{Sheet}
use Rattle.reading.specs.Spelling.{sheet_text, Sound}
use Rattle.reading.specs.FirstBad.{FirstBad}
use Rattle.reading.specs.Taking.{bad_at}

-- what a sheet says, its lists in COUNT places, those after the last 0
unfoldable pub sheet_contents : Sheet → Contents
sheet_contents sh =
    record {
      width = sh.width;
      kind = sh.kind;
      levels = sh.levels;
      links = sh.links;
      entries = length sh.bits;
      queries = length sh.addresses;
      bits = padded COUNT sh.bits;
      lengths = padded COUNT sh.lengths;
      hops = padded COUNT sh.hops;
      addresses = padded COUNT sh.addresses;
      places = padded COUNT sh.places;
    }

-- the contents of a text: those of the sound sheet whose text it is; or its first bad line
abbrev pub TextHolds : (s : List ℕ) → Result Contents BadLine → Type 0
TextHolds s r =
    ((sh : Sheet) × Sound sh × (s ≡ sheet_text sh) × (r ≡ Ok (sheet_contents sh))) ⊎ ((line : ℕ) × FirstBad s line × (r ≡ Err (bad_at line)))

-- ---- for the crates above

-- the sheet in the contents of a good text
unfoldable pub sheet_in : Contents → Sheet
sheet_in r =
    record {
      width = r.width;
      kind = r.kind;
      levels = r.levels;
      links = r.links;
      bits = take r.entries r.bits;
      lengths = take r.entries r.lengths;
      hops = take r.entries r.hops;
      addresses = take r.queries r.addresses;
      places = take r.queries r.places;
    }

-- what is known of such contents: the sheet is sound, no more places are taken than there are, and each list has COUNT
pub record GoodContents (r : Contents) : Type 0 where
  pub sound : Sound (sheet_in r)
  pub entries_few : r.entries ≤ COUNT
  pub queries_few : r.queries ≤ COUNT
  pub bits : length r.bits ≡ COUNT
  pub lengths : length r.lengths ≡ COUNT
  pub hops : length r.hops ≡ COUNT
  pub addresses : length r.addresses ≡ COUNT
  pub places : length r.places ≡ COUNT
