-- Five rules of width 3 (fields' example) as a fixed build with k = 2 leaves them, classified by computation: destinations 1, 10 and 11, of which
-- the first is a start of the others, with two, two and one sources. And what damage of the list of tries gives.
use Rattle.std.specs.Prelude.{◌≡◌, refl, List, [], ◌∷◌, ℕ, ◌-◌, replicate}
use Rattle.table.specs.Limits.{outside}
use Rattle.table.specs.Lists.{padded}
use Rattle.walk.specs.Limits.{WIDTH, LEVELS}
use Rattle.walk.specs.Rows.{Lists, row_of}
use Rattle.walk.specs.Answers.{new_best, latest, answer}
use Rattle.walk.specs.Lookup.{readable, trail, tell, path_of, unfit, refusal_of, lookup_of}
use Rattle.verdicts.specs.Tries.{trie_row}
use Rattle.verdicts.specs.Classify.{visitable, onward, source_lookup, source_of, through_tries, early_refusal, from_dest, classify_of}
use Rattle.verdicts.specs.declared.record.RuleRecord.{RuleRecord}
use Rattle.verdicts.specs.Cases.{Verdict}
use Rattle.verdicts.specs.Cases.{Act, Discard, NoRule, Refused}

-- e is the E of all tries
abbrev five_rec : (e : ℕ) → RuleRecord
five_rec e = record { dest = record { width = 3; levels = 2; elements = 4; floor = 0; strides = 1 ∷ 1 ∷ replicate (LEVELS - 2) 0 }; elements = e }

abbrev five_rows : Lists
five_rows = record {
  hop = 0 ∷ 1 ∷ 2 ∷ 3 ∷ 0 ∷ 0 ∷ 0 ∷ 2 ∷ 0 ∷ 3 ∷ 0 ∷ 65535 ∷ 4 ∷ 0 ∷ [];
  len = 0 ∷ 1 ∷ 2 ∷ 2 ∷ 0 ∷ 0 ∷ 0 ∷ 2 ∷ 0 ∷ 1 ∷ 0 ∷ 2 ∷ 1 ∷ 0 ∷ [];
  link = 0 ∷ 2 ∷ 0 ∷ 0 ∷ 2 ∷ 0 ∷ 0 ∷ 0 ∷ 0 ∷ 2 ∷ 0 ∷ 0 ∷ 0 ∷ 0 ∷ [];
  stride = 0 ∷ 1 ∷ 0 ∷ 0 ∷ 1 ∷ 0 ∷ 0 ∷ 0 ∷ 0 ∷ 1 ∷ 0 ∷ 0 ∷ 0 ∷ 0 ∷ [];
}

-- a row a trie: floor, root stride, place, E, next; the first floor is given
abbrev five_list : (floor : ℕ) → List ℕ
five_list f = f ∷ 1 ∷ 4 ∷ 4 ∷ 0 ∷ 0 ∷ 1 ∷ 8 ∷ 4 ∷ 1 ∷ 0 ∷ 1 ∷ 12 ∷ 2 ∷ 1 ∷ []

abbrev five : (e : ℕ) (list : List ℕ) (dest source : ℕ) → Verdict
five e list dest source = classify_of WIDTH (five_rec e) five_rows list dest source

second_row : trie_row (five_list 1) 1 ≡ record { floor = 0; root = 1; place = 8; elements = 4; next = 1 }
second_row = refl

-- destination 101: source 111 is discarded by 10's own rule, 100 acts by it; 010 and 000 find nothing there and go on to 1's rules, the last by
-- its floor, of which the last 16 bits count. 111 with 011 acts by 11's rule; 000 has no rule; and both addresses are tested
five_verdicts : (five 14 (five_list 1) 0b101 0b111 ≡ Discard 4) × (five 14 (five_list 1) 0b101 0b100 ≡ Act 3 4)
    × (five 14 (five_list 1) 0b101 0b010 ≡ Act 2 5) × (five 14 (five_list 1) 0b101 0b000 ≡ Act 1 5)
    × (five 14 (five_list 1) 0b111 0b011 ≡ Act 4 3) × (five 14 (five_list 1) 0b000 0b000 ≡ NoRule 1)
    × (five 14 (five_list 1) 8 0 ≡ Refused 8) × (five 14 (five_list 1) 0 8 ≡ Refused 8) × (five 14 (five_list 65537) 0b101 0b000 ≡ Act 1 5)
unfolding outside padded answer new_best row_of readable trail latest tell path_of unfit refusal_of lookup_of
    visitable onward source_lookup source_of through_tries early_refusal from_dest classify_of
five_verdicts = (refl, refl, refl, refl, refl, refl, refl, refl, refl)

-- E of all tries one less: the last trie's rows run past it, and it matters where that trie is visited. A list without that trie's row, one
-- whose second trie leads to itself, and one whose root stride is too large
abbrev short_list : List ℕ
short_list = 1 ∷ 1 ∷ 4 ∷ 4 ∷ 0 ∷ 0 ∷ 1 ∷ 8 ∷ 4 ∷ 1 ∷ 0 ∷ 1 ∷ 12 ∷ 2 ∷ []

abbrev round_list : List ℕ
round_list = 1 ∷ 1 ∷ 4 ∷ 4 ∷ 0 ∷ 0 ∷ 1 ∷ 8 ∷ 4 ∷ 2 ∷ 0 ∷ 256 ∷ 12 ∷ 2 ∷ 1 ∷ []

five_damages : (five 13 (five_list 1) 0b111 0b011 ≡ Refused 9) × (five 13 (five_list 1) 0b101 0b111 ≡ Discard 4)
    × (five 15 (five_list 1) 0b101 0b111 ≡ Refused 9) × (five 3 (five_list 1) 0b000 0b000 ≡ Refused 9)
    × (five 14 short_list 0b111 0b011 ≡ Refused 9) × (five 14 short_list 0b101 0b111 ≡ Discard 4)
    × (five 14 round_list 0b101 0b010 ≡ Refused 9) × (five 14 round_list 0b111 0b011 ≡ Refused 9)
unfolding outside padded answer new_best row_of readable trail latest tell path_of unfit refusal_of lookup_of
    visitable onward source_lookup source_of through_tries early_refusal from_dest classify_of
five_damages = (refl, refl, refl, refl, refl, refl, refl, refl)
