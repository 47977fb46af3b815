-- A discarded corner of a wider route (02, [4]): W = 4; 10→1, 1010→65,535.
use Rattle.std.specs.Prelude.{List, [], ◌∷◌, ℕ}

abbrev pub corner_values : List ℕ
corner_values = 0b1000 ∷ 0b1010 ∷ []

abbrev pub corner_lengths : List ℕ
corner_lengths = 2 ∷ 4 ∷ []

abbrev pub corner_hops : List ℕ
corner_hops = 1 ∷ 65535 ∷ []

-- addresses, and the hops and lengths of their longest matches: the corner, its neighbours in the wider route, and one outside
abbrev pub corner_addresses : List ℕ
corner_addresses = 0b1010 ∷ 0b1011 ∷ 0b1001 ∷ 0b0111 ∷ []

abbrev pub corner_matches : List ℕ
corner_matches = 65535 ∷ 1 ∷ 1 ∷ 0 ∷ []

abbrev pub corner_matched : List ℕ
corner_matched = 4 ∷ 2 ∷ 2 ∷ 0 ∷ []
