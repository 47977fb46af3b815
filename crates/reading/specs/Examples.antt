-- 01's whole run as a text, with the line of 02, [7]: what it says; and texts that are bad, each with its first bad line.
use Rattle.std.specs.Prelude.{◌≡◌, refl, List, [], ◌∷◌, ◌++◌, ℕ, suc, take, drop}
use Rattle.choosers.specs.declared.chooser.Kind.TheVariants.{Variable}
use Rattle.reading.specs.Limits.{SHORT}
use Rattle.reading.specs.Keys.{links_key}
use Rattle.reading.specs.Numerals.{decimal_length_from, decimal_length, decimal, line_of}
use Rattle.reading.specs.Lines.{byte_at, key_at, is_digit, count_at, value_at, digits_at, unpadded}
use Rattle.reading.specs.Lines.{bad_line, close, number_line, bits_line, kind_line, kind_named}
use Rattle.table.specs.Lists.{listed}
use Rattle.reading.specs.Entries.{entry_from, address_from, after_entries, after_queries, entry_bits, entry_length, entry_hop, query_address, query_places}
use Rattle.reading.specs.Sheet.{Sheet}
use Rattle.reading.specs.Text.{good, bad, width_item, kind_item, levels_item, links_item, entries_item, queries_item, last_spot, sheet_of, text_of}

-- width=3, kind=vst, levels=2, links=4, entries=2, bits=1, hop=1, bits=101, hop=2, queries=3, address=101, address=111, address=011
abbrev pub run_text : List ℕ
run_text =
    119 ∷ 105 ∷ 100 ∷ 116 ∷ 104 ∷ 61 ∷ 51 ∷ 10 ∷ 107 ∷ 105 ∷ 110 ∷ 100 ∷ 61 ∷ 118 ∷ 115 ∷ 116 ∷ 10 ∷ 108 ∷ 101 ∷ 118 ∷
    101 ∷ 108 ∷ 115 ∷ 61 ∷ 50 ∷ 10 ∷ 108 ∷ 105 ∷ 110 ∷ 107 ∷ 115 ∷ 61 ∷ 52 ∷ 10 ∷ 101 ∷ 110 ∷ 116 ∷ 114 ∷ 105 ∷ 101 ∷ 115 ∷
    61 ∷ 50 ∷ 10 ∷ 98 ∷ 105 ∷ 116 ∷ 115 ∷ 61 ∷ 49 ∷ 10 ∷ 104 ∷ 111 ∷ 112 ∷ 61 ∷ 49 ∷ 10 ∷ 98 ∷ 105 ∷ 116 ∷ 115 ∷ 61 ∷ 49 ∷
    48 ∷ 49 ∷ 10 ∷ 104 ∷ 111 ∷ 112 ∷ 61 ∷ 50 ∷ 10 ∷ 113 ∷ 117 ∷ 101 ∷ 114 ∷ 105 ∷ 101 ∷ 115 ∷ 61 ∷ 51 ∷ 10 ∷ 97 ∷ 100 ∷
    100 ∷ 114 ∷ 101 ∷ 115 ∷ 115 ∷ 61 ∷ 49 ∷ 48 ∷ 49 ∷ 10 ∷ 97 ∷ 100 ∷ 100 ∷ 114 ∷ 101 ∷ 115 ∷ 115 ∷ 61 ∷ 49 ∷ 49 ∷ 49 ∷
    10 ∷ 97 ∷ 100 ∷ 100 ∷ 114 ∷ 101 ∷ 115 ∷ 115 ∷ 61 ∷ 48 ∷ 49 ∷ 49 ∷ 10 ∷ []

abbrev pub run_sheet : Sheet
run_sheet =
    record {
      width = 3;
      kind = Variable;
      levels = 2;
      links = 4;
      bits = 0b1 ∷ 0b101 ∷ [];
      lengths = 1 ∷ 3 ∷ [];
      hops = 1 ∷ 2 ∷ [];
      addresses = 0b101 ∷ 0b111 ∷ 0b011 ∷ [];
      places = 3 ∷ 3 ∷ 3 ∷ [];
    }

-- read; cut inside line 11; cut after line 2; a byte after the end; and `width=03`
texts : (text_of run_text ≡ good run_sheet) × (text_of (take 91 run_text) ≡ bad 11) × (text_of (take 17 run_text) ≡ bad 3)
    × (text_of (run_text ++ (32 ∷ [])) ≡ bad 14) × (text_of (119 ∷ 105 ∷ 100 ∷ 116 ∷ 104 ∷ 61 ∷ 48 ∷ 51 ∷ 10 ∷ []) ≡ bad 1)
unfolding byte_at key_at is_digit count_at value_at digits_at unpadded bad_line close number_line bits_line kind_line
    listed entry_from address_from after_entries after_queries entry_bits entry_length entry_hop query_address query_places
    width_item kind_item levels_item links_item entries_item queries_item last_spot kind_named sheet_of text_of
texts = (refl, refl, refl, refl, refl)

-- the first three lines, and then: `links=65536`; `links=65535` and the end; and no line of links
links_texts : (text_of (take 26 run_text ++ line_of links_key (suc SHORT)) ≡ bad 4) × (text_of (take 26 run_text ++ line_of links_key SHORT) ≡ bad 5)
    × (text_of (take 26 run_text ++ drop 34 run_text) ≡ bad 4)
unfolding byte_at key_at is_digit count_at value_at digits_at unpadded bad_line close number_line bits_line kind_line
    decimal_length_from decimal_length decimal line_of entry_from address_from after_entries after_queries
    width_item kind_item levels_item links_item entries_item queries_item last_spot text_of
links_texts = (refl, refl, refl)
