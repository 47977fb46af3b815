-- The report's lines (01, "The tablet program"): a key, a number in decimal, LF. "A refusal prints only the lines
-- `refusal` and `detail`"; an accepted run prints them with 0, then elements and root, then address, hop, length
-- (02, [5]) and reads of each query.
use Rattle.std.specs.Prelude.{List, ◌++◌, ℕ}
use Rattle.reading.specs.Keys.{address_key, hop_key}
use Rattle.reading.specs.Numerals.{line_of, bits_line_of}
use Rattle.sheet.specs.Keys.{refusal_key, detail_key, elements_key, root_key, length_key, reads_key}

abbrev pub address_line : (v n : ℕ) → List ℕ
address_line v n = bits_line_of address_key v n

unfoldable pub refusal_lines : (number detail : ℕ) → List ℕ
refusal_lines number detail = line_of refusal_key number ++ line_of detail_key detail

unfoldable pub head_lines : (elements root : ℕ) → List ℕ
head_lines elements root = refusal_lines 0 0 ++ line_of elements_key elements ++ line_of root_key root

unfoldable pub answer_lines : (address n hop len reads : ℕ) → List ℕ
answer_lines address n hop len reads = address_line address n ++ line_of hop_key hop ++ line_of length_key len ++ line_of reads_key reads
