-- Five rules at W = 3: two destinations of which one is a start of the other, 1 and 10, and a third, 11; three runs, two of them with
-- two sources. Destination, source → action: 1, all → 1; 1, 01 → 2; 10, 1 → 3; 10, 11 → discard; 11, 0 → 4.
use Rattle.std.specs.Prelude.{List, [], ◌∷◌, ℕ}
use Rattle.fields.specs.Rules.{Rules, rules}
use Rattle.fields.specs.Runs.{EntryLists, entry_lists}

abbrev pub example_rules : Rules
example_rules =
    rules (0b100 ∷ 0b100 ∷ 0b100 ∷ 0b100 ∷ 0b110 ∷ []) (1 ∷ 1 ∷ 2 ∷ 2 ∷ 2 ∷ [])
    (0b000 ∷ 0b010 ∷ 0b100 ∷ 0b110 ∷ 0b000 ∷ []) (0 ∷ 2 ∷ 1 ∷ 2 ∷ 1 ∷ []) (1 ∷ 2 ∷ 3 ∷ 65535 ∷ 4 ∷ [])

-- where the three runs begin, and the end
abbrev pub example_from : List ℕ
example_from = 0 ∷ 2 ∷ 4 ∷ 5 ∷ []

-- the destinations' table, and the sources' of each run
abbrev pub example_tables : List EntryLists
example_tables =
    entry_lists (0b100 ∷ 0b100 ∷ 0b110 ∷ []) (1 ∷ 2 ∷ 2 ∷ []) (1 ∷ 2 ∷ 3 ∷ [])
    ∷ entry_lists (0b000 ∷ 0b010 ∷ []) (0 ∷ 2 ∷ []) (1 ∷ 2 ∷ [])
    ∷ entry_lists (0b100 ∷ 0b110 ∷ []) (1 ∷ 2 ∷ []) (3 ∷ 65535 ∷ [])
    ∷ entry_lists (0b000 ∷ []) (1 ∷ []) (4 ∷ []) ∷ []
