-- The keys of the text (01, "The tablet program"; `links=`: 02, [7]), each with its `=`, as bytes.
use Rattle.std.specs.Prelude.{List, [], ◌∷◌, ℕ}

-- `width=`
abbrev pub width_key : List ℕ
width_key = 119 ∷ 105 ∷ 100 ∷ 116 ∷ 104 ∷ 61 ∷ []

-- `kind=fst` and `kind=vst`
abbrev pub fixed_key : List ℕ
fixed_key = 107 ∷ 105 ∷ 110 ∷ 100 ∷ 61 ∷ 102 ∷ 115 ∷ 116 ∷ []

abbrev pub variable_key : List ℕ
variable_key = 107 ∷ 105 ∷ 110 ∷ 100 ∷ 61 ∷ 118 ∷ 115 ∷ 116 ∷ []

-- `levels=`
abbrev pub levels_key : List ℕ
levels_key = 108 ∷ 101 ∷ 118 ∷ 101 ∷ 108 ∷ 115 ∷ 61 ∷ []

-- `links=`
abbrev pub links_key : List ℕ
links_key = 108 ∷ 105 ∷ 110 ∷ 107 ∷ 115 ∷ 61 ∷ []

-- `entries=`
abbrev pub entries_key : List ℕ
entries_key = 101 ∷ 110 ∷ 116 ∷ 114 ∷ 105 ∷ 101 ∷ 115 ∷ 61 ∷ []

-- `bits=`
abbrev pub bits_key : List ℕ
bits_key = 98 ∷ 105 ∷ 116 ∷ 115 ∷ 61 ∷ []

-- `hop=`
abbrev pub hop_key : List ℕ
hop_key = 104 ∷ 111 ∷ 112 ∷ 61 ∷ []

-- `queries=`
abbrev pub queries_key : List ℕ
queries_key = 113 ∷ 117 ∷ 101 ∷ 114 ∷ 105 ∷ 101 ∷ 115 ∷ 61 ∷ []

-- `address=`
abbrev pub address_key : List ℕ
address_key = 97 ∷ 100 ∷ 100 ∷ 114 ∷ 101 ∷ 115 ∷ 115 ∷ 61 ∷ []
