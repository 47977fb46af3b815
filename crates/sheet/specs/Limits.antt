-- The numbers of the report and of what the program lends, named once; `src/limits.rt` has the code's. Those of the text are reading's.
use Rattle.std.specs.Prelude.{ℕ, ◌+◌, ◌*◌, ◌≤◌, ◌≡◌, refl, length}
use Rattle.std.proofs.Common.{arith}
use Rattle.choosers.specs.Scratch.{ROW}
use Rattle.reading.specs.Limits.{BITS, COUNT, decimal_digits}
use Rattle.reading.specs.Keys.{hop_key, address_key}
use Rattle.sheet.specs.Keys.{refusal_key, detail_key, elements_key, root_key, length_key, reads_key}

-- a number's digits with an LF
abbrev pub decimal_bytes : ℕ
decimal_bytes = decimal_digits + 1

-- an address line without its digits
abbrev pub address_bytes : ℕ
address_bytes = length address_key + 1

-- no report has more bytes for a refusal, for its first four lines, and for a query: in every line its key, BITS digits of an
-- address or decimal_digits of a number, and LF
abbrev pub refusal_bytes : ℕ
refusal_bytes = length refusal_key + decimal_bytes + length detail_key + decimal_bytes

abbrev pub head_bytes : ℕ
head_bytes = refusal_bytes + length elements_key + decimal_bytes + length root_key + decimal_bytes

abbrev pub answer_bytes : ℕ
answer_bytes =
    BITS + address_bytes + length hop_key + decimal_bytes + length length_key + decimal_bytes + length reads_key + decimal_bytes

-- no report has more bytes: 113 + 64 * 121 = 7,857
abbrev pub report_bytes : ℕ
report_bytes = head_bytes + COUNT * answer_bytes

-- the bytes of the page that a text is read to or a report printed to: LONGEST, and report_bytes, rounded up
abbrev pub PAGE : ℕ
PAGE = 8192

-- what the program lends to a build: scratch rows, and elements
abbrev pub lent_rows : ℕ
lent_rows = 112

abbrev pub lent_elements : ℕ
lent_elements = 8192

-- 02, [2]: "to stay within 64 KiB" the program lends 112 rows, of numbers of eight bytes
lent_bytes : (lent_rows ≡ 112) × (lent_rows * ROW * 8 ≤ 64 * 1024)
lent_bytes = (refl, omega arith)
