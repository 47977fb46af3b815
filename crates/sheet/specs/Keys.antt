-- The keys that the report alone has, each with its `=`, as bytes; `address=` and `hop=` are the text's (reading Keys).
use Rattle.std.specs.Prelude.{List, [], ◌∷◌, ℕ}

-- `refusal=`
abbrev pub refusal_key : List ℕ
refusal_key = 114 ∷ 101 ∷ 102 ∷ 117 ∷ 115 ∷ 97 ∷ 108 ∷ 61 ∷ []

-- `detail=`
abbrev pub detail_key : List ℕ
detail_key = 100 ∷ 101 ∷ 116 ∷ 97 ∷ 105 ∷ 108 ∷ 61 ∷ []

-- `elements=`
abbrev pub elements_key : List ℕ
elements_key = 101 ∷ 108 ∷ 101 ∷ 109 ∷ 101 ∷ 110 ∷ 116 ∷ 115 ∷ 61 ∷ []

-- `root=`
abbrev pub root_key : List ℕ
root_key = 114 ∷ 111 ∷ 111 ∷ 116 ∷ 61 ∷ []

-- `length=`
abbrev pub length_key : List ℕ
length_key = 108 ∷ 101 ∷ 110 ∷ 103 ∷ 116 ∷ 104 ∷ 61 ∷ []

-- `reads=`
abbrev pub reads_key : List ℕ
reads_key = 114 ∷ 101 ∷ 97 ∷ 100 ∷ 115 ∷ 61 ∷ []
