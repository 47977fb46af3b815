-- The run of document 01 (width 3, two levels, 1 to hop 1 and 101 to hop 2), by computation from its record and its rows; 02's
-- discarded corner ([4]); lengths as they are found ([5]); and both ends of the level limit (01, refusal 2; 02, [2]).
use Rattle.std.specs.Prelude.{◌≡◌, refl, true, false, [], ◌∷◌, ℕ, ◌-◌, replicate}
use Rattle.walk.specs.Cases.{Match, Discard, NoRoute, Refused}
use Rattle.walk.specs.declared.record.Record.{Record}
use Rattle.walk.specs.Limits.{WIDTH, LEVELS}
use Rattle.table.specs.Limits.{outside}
use Rattle.walk.specs.Rows.{Lists, row_of}
use Rattle.walk.specs.Answers.{new_best, latest, answer}
use Rattle.walk.specs.Lookup.{readable, trail, tell, path_of, path_rows, unfit, refusal_of, lookup_of}

abbrev rec : Record
rec = record { width = 3; levels = 2; elements = 6; floor = 0; strides = 1 ∷ replicate (LEVELS - 1) 0 }

abbrev run_rows : Lists
run_rows = record {
  hop = 0 ∷ 1 ∷ 0 ∷ 2 ∷ 0 ∷ 0 ∷ [];
  len = 0 ∷ 1 ∷ 0 ∷ 3 ∷ 0 ∷ 0 ∷ [];
  link = 0 ∷ 2 ∷ 0 ∷ 0 ∷ 0 ∷ 0 ∷ [];
  stride = 0 ∷ 2 ∷ 0 ∷ 0 ∷ 0 ∷ 0 ∷ [];
}

-- addresses 101, 111 and 011, with the path of the first, and 1000, which is not below 2 ^ 3
run_lookups : (lookup_of WIDTH rec run_rows 5 ≡ Match 2 3 2) × (path_rows rec run_rows 5 ≡ 1 ∷ 3 ∷ []) × (lookup_of WIDTH rec run_rows 7 ≡ Match 1 1 2)
    × (lookup_of WIDTH rec run_rows 3 ≡ NoRoute 1) × (lookup_of WIDTH rec run_rows 8 ≡ Refused 8)
unfolding outside answer new_best row_of readable trail latest tell path_of unfit refusal_of lookup_of
run_lookups = (refl, refl, refl, refl, refl)

-- the corner: 10 to hop 1 and 1010 to hop 65,535 at width 4, with strides 2 and 2 (layout's ExampleRows.antt has its rows from the table)
abbrev corner_rec : (floor : ℕ) → Record
corner_rec f = record { width = 4; levels = 2; elements = 8; floor = f; strides = 2 ∷ replicate (LEVELS - 1) 0 }

abbrev floor_only : Record
floor_only = record { width = 4; levels = 2; elements = 0; floor = 65535; strides = replicate LEVELS 0 }

abbrev corner_rows : Lists
corner_rows = record {
  hop = 0 ∷ 0 ∷ 1 ∷ 0 ∷ 0 ∷ 0 ∷ 65535 ∷ 0 ∷ [];
  len = 0 ∷ 0 ∷ 2 ∷ 0 ∷ 0 ∷ 0 ∷ 4 ∷ 0 ∷ [];
  link = 0 ∷ 0 ∷ 4 ∷ 0 ∷ 0 ∷ 0 ∷ 0 ∷ 0 ∷ [];
  stride = 0 ∷ 0 ∷ 2 ∷ 0 ∷ 0 ∷ 0 ∷ 0 ∷ 0 ∷ [];
}

-- 1010 is discard, 1011 gives hop 1, 0111 has no route; where the floor discards, 0111 does too, with rows and without
corner_lookups : (lookup_of WIDTH (corner_rec 0) corner_rows 0b1010 ≡ Discard 4 2) × (lookup_of WIDTH (corner_rec 0) corner_rows 0b1011 ≡ Match 1 2 2)
    × (lookup_of WIDTH (corner_rec 0) corner_rows 0b0111 ≡ NoRoute 1) × (lookup_of WIDTH (corner_rec 65535) corner_rows 0b0111 ≡ Discard 0 1)
    × (lookup_of WIDTH floor_only corner_rows 0b0111 ≡ Discard 0 0)
unfolding outside answer new_best row_of readable trail latest tell path_of unfit refusal_of lookup_of
corner_lookups = (refl, refl, refl, refl, refl)

-- the same rows with other lengths: what stands beside the winning hop is answered, be it 0 or more than the width; what stands beside
-- hop 0 is not, nor is anything beside the floor
abbrev strange_rows : Lists
strange_rows = record {
  hop = corner_rows.hop;
  len = 7 ∷ 9 ∷ 0 ∷ 7 ∷ 7 ∷ 7 ∷ 255 ∷ 33 ∷ [];
  link = corner_rows.link;
  stride = corner_rows.stride;
}

strange_lookups : (lookup_of WIDTH (corner_rec 5) strange_rows 0b1010 ≡ Discard 255 2) × (lookup_of WIDTH (corner_rec 5) strange_rows 0b1011 ≡ Match 1 0 2)
    × (lookup_of WIDTH (corner_rec 5) strange_rows 0b0111 ≡ Match 5 0 1) × (lookup_of WIDTH (corner_rec 0) strange_rows 0b0111 ≡ NoRoute 1)
unfolding outside answer new_best row_of readable trail latest tell path_of unfit refusal_of lookup_of
strange_lookups = (refl, refl, refl, refl)

-- the length list alone is too short: refusal 9
abbrev short_rows : Lists
short_rows = record { hop = corner_rows.hop; len = 0 ∷ 0 ∷ 2 ∷ 0 ∷ 0 ∷ 0 ∷ 4 ∷ []; link = corner_rows.link; stride = corner_rows.stride }

short_lengths : lookup_of WIDTH (corner_rec 0) short_rows 0b1010 ≡ Refused 9
unfolding outside answer new_best row_of readable trail latest tell path_of unfit refusal_of lookup_of
short_lengths = refl

level_edges : (outside 0 LEVELS ≡ true) × (outside 1 LEVELS ≡ false) × (outside 32 LEVELS ≡ false) × (outside 33 LEVELS ≡ true)
unfolding outside
level_edges = (refl, refl, refl, refl)
