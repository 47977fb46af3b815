-- Two answers of 01's run, as they are printed, with the line of 02, [5]: address 101 has hop 2 by the 3 bits of 101 after 2 reads, and
-- address 011 no route after 1.
use Rattle.std.specs.Prelude.{◌≡◌, refl, List, [], ◌∷◌, ℕ}
use Rattle.reading.specs.Numerals.{decimal_length_from, decimal_length, decimal, binary, line_of, bits_line_of}
use Rattle.sheet.specs.Printing.{answer_lines}

-- address=101, hop=2, length=3, reads=2
abbrev first_answer : List ℕ
first_answer =
    97 ∷ 100 ∷ 100 ∷ 114 ∷ 101 ∷ 115 ∷ 115 ∷ 61 ∷ 49 ∷ 48 ∷ 49 ∷ 10 ∷ 104 ∷ 111 ∷ 112 ∷ 61 ∷ 50 ∷ 10 ∷ 108 ∷ 101 ∷ 110 ∷ 103 ∷
    116 ∷ 104 ∷ 61 ∷ 51 ∷ 10 ∷ 114 ∷ 101 ∷ 97 ∷ 100 ∷ 115 ∷ 61 ∷ 50 ∷ 10 ∷ []

-- address=011, hop=0, length=0, reads=1
abbrev last_answer : List ℕ
last_answer =
    97 ∷ 100 ∷ 100 ∷ 114 ∷ 101 ∷ 115 ∷ 115 ∷ 61 ∷ 48 ∷ 49 ∷ 49 ∷ 10 ∷ 104 ∷ 111 ∷ 112 ∷ 61 ∷ 48 ∷ 10 ∷ 108 ∷ 101 ∷ 110 ∷ 103 ∷
    116 ∷ 104 ∷ 61 ∷ 48 ∷ 10 ∷ 114 ∷ 101 ∷ 97 ∷ 100 ∷ 115 ∷ 61 ∷ 49 ∷ 10 ∷ []

run_answers : (answer_lines 0b101 3 2 3 2 ≡ first_answer) × (answer_lines 0b011 3 0 0 1 ≡ last_answer)
unfolding decimal_length_from decimal_length decimal binary line_of bits_line_of answer_lines
run_answers = (refl, refl)
