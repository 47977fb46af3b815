-- The text that says a sheet (01, "The tablet program"), line after line, each number without leading zeros. No other text
-- is good (proofs/Following.antt, `good_is_spelled`): "anything else, extra text or an early end is 11". And the text of
-- every sound sheet is good and says that sheet (proofs/Sound.antt, `spelled_is_good`).
use Rattle.std.specs.Prelude.{◌≡◌, List, [], ◌∷◌, ◌++◌, ℕ, ◌^◌, ◌≤◌, ◌<◌, length}
use Rattle.table.specs.Table.{at}
use Rattle.choosers.specs.declared.chooser.Kind.{Kind}
use Rattle.choosers.specs.declared.chooser.Kind.TheVariants.{Fixed, Variable}
use Rattle.reading.specs.Limits.{COUNT, NUMBER, SHORT, BITS, LF}
use Rattle.reading.specs.Keys.{width_key, fixed_key, variable_key, levels_key, links_key, entries_key, bits_key, hop_key, queries_key, address_key}
use Rattle.reading.specs.Numerals.{line_of, bits_line_of, joined}
use Rattle.reading.specs.Sheet.{Sheet}

-- `kind=fst` or `kind=vst`
unfoldable pub kind_text : Kind → List ℕ
kind_text Fixed = fixed_key ++ (LF ∷ [])
kind_text Variable = variable_key ++ (LF ∷ [])

-- entry i and query i
unfoldable pub entry_text : (bits lengths hops : List ℕ) → ℕ → List ℕ
entry_text bits lengths hops i = bits_line_of bits_key (at bits i) (at lengths i) ++ line_of hop_key (at hops i)

unfoldable pub query_text : (addresses places : List ℕ) → ℕ → List ℕ
query_text addresses places i = bits_line_of address_key (at addresses i) (at places i)

unfoldable pub sheet_text : Sheet → List ℕ
sheet_text sh =
    line_of width_key sh.width
    ++ kind_text sh.kind
    ++ line_of levels_key sh.levels
    ++ line_of links_key sh.links
    ++ line_of entries_key (length sh.bits)
    ++ joined (entry_text sh.bits sh.lengths sh.hops) (length sh.bits)
    ++ line_of queries_key (length sh.addresses)
    ++ joined (query_text sh.addresses sh.places) (length sh.addresses)

-- a sheet that the text can say: lists of one length for the entries and of one for the queries, COUNT at most, and
-- numbers within the text's limits; bits and addresses are numbers of so many binary digits, an address of one at least
pub record Sound (sh : Sheet) : Type 0 where
  pub width_fits : sh.width ≤ NUMBER
  pub levels_fit : sh.levels ≤ NUMBER
  pub links_fit : sh.links ≤ SHORT
  pub entries_few : length sh.bits ≤ COUNT
  pub as_many_lengths : length sh.lengths ≡ length sh.bits
  pub as_many_hops : length sh.hops ≡ length sh.bits
  pub entry : (i : ℕ) → i < length sh.bits → (at sh.lengths i ≤ BITS) × (at sh.bits i < 2 ^ at sh.lengths i) × (at sh.hops i ≤ SHORT)
  pub queries_few : length sh.addresses ≤ COUNT
  pub as_many_places : length sh.places ≡ length sh.addresses
  pub query : (i : ℕ) → i < length sh.addresses → (1 ≤ at sh.places i) × (at sh.places i ≤ BITS) × (at sh.addresses i < 2 ^ at sh.places i)
