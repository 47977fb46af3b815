-- Lookups by computation: over the rows of the eight-prefix table (width 7; pieces' Eight.antt), over those of the discarded corner, and
-- each clause of refusal 9 once.
use Rattle.std.specs.Prelude.{◌≡◌, refl, List, [], ◌∷◌, ℕ}
use Rattle.std.specs.Int.Count.{ones, ones_in}
use Rattle.table.specs.Limits.{outside}
use Rattle.walk.specs.Limits.{WIDTH}
use Rattle.walk.specs.Answers.{answer}
use Rattle.walk.specs.Cases.{Answer}
use Rattle.walk.specs.Cases.{Match, Discard, NoRoute, Refused}
use Rattle.pieces.specs.Eight.{eight_rows, eight_hop_rows}
use Rattle.pieces.specs.Corner.{corner_supernodes}
use Rattle.pieces.specs.Maps.{place_level, place_on, on_path, map_of, bit_at, mask_of}
use Rattle.pieces.specs.Cuts.{path_at, limit, found, ones_before, highest}
use Rattle.visits.specs.declared.record.Bitmap.{Bitmap}
use Rattle.visits.specs.Rows.{RowLists, HoldRows}
use Rattle.visits.specs.Lookup.{better_of, visit, tell_best, tell_visited, visited_by, path_numbers, lists_short, bitmap_refusal, lookup_bitmap_of}

abbrev rec : (width supernodes hops : ℕ) → Bitmap
rec w s h = record { width = w; supernodes = s; hops = h }

-- the rows of the eight-prefix table in lists
abbrev eight_lists : RowLists
eight_lists = record {
  internal = 4166 ∷ 4 ∷ 137 ∷ [];
  external = 4352 ∷ 0 ∷ 0 ∷ [];
  first_child = 1 ∷ 0 ∷ 0 ∷ [];
  first_hop = 0 ∷ 4 ∷ 5 ∷ [];
}

eight_held : HoldRows eight_lists 0 eight_rows
eight_held = (refl, (refl, (refl, tt)))

abbrev eight_answer : (supernodes hops address : ℕ) → Answer
eight_answer s h a = lookup_bitmap_of WIDTH (rec 7 s h) eight_lists eight_hop_rows a

-- addresses 1100001, with its path, 1100000, 1101000 and 1001111, and one that is not below 2 ^ 7
eight_bitmap_lookups : (eight_answer 3 8 0b1100001 ≡ Match 7 6 2) × (path_numbers (rec 7 3 8) eight_lists 0b1100001 ≡ 0 ∷ 2 ∷ [])
    × (eight_answer 3 8 0b1100000 ≡ Match 8 7 2) × (eight_answer 3 8 0b1101000 ≡ Match 3 2 1)
    × (eight_answer 3 8 0b1001111 ≡ Match 2 1 1) × (eight_answer 3 8 128 ≡ Refused 8)
unfolding outside answer place_level place_on on_path map_of bit_at mask_of path_at limit found ones_before highest ones ones_in
    better_of visit tell_best tell_visited visited_by lists_short bitmap_refusal lookup_bitmap_of
eight_bitmap_lookups = (refl, refl, refl, refl, refl, refl)

-- the corner of 02, [4] (10 to hop 1 and 1010 to hop 65,535 at width 4): 1010 is discard by 4 bits, 1011 gives hop 1 by 2, 0111 has no route
abbrev corner_lists : RowLists
corner_lists = record { internal = 32 ∷ 1 ∷ []; external = 1024 ∷ 0 ∷ []; first_child = 1 ∷ 0 ∷ []; first_hop = 0 ∷ 1 ∷ [] }

abbrev corner_answer : (address : ℕ) → Answer
corner_answer a = lookup_bitmap_of WIDTH (rec 4 2 2) corner_lists (1 ∷ 65535 ∷ []) a

corner_held : HoldRows corner_lists 0 corner_supernodes
corner_held = (refl, (refl, tt))

corner_bitmap_lookups : (corner_answer 0b1010 ≡ Discard 4 2) × (corner_answer 0b1011 ≡ Match 1 2 1) × (corner_answer 0b0111 ≡ NoRoute 1)
unfolding outside answer place_level place_on on_path map_of bit_at mask_of path_at limit found ones_before highest ones ones_in
    better_of visit tell_best tell_visited visited_by lists_short bitmap_refusal lookup_bitmap_of
corner_bitmap_lookups = (refl, refl, refl)

-- a count above its list (rows, then hops); supernode 2 at a count of 2, which 1000100 does not visit; the winner, hop 6, at a count of 6,
-- which is no matter for 0000000; and a supernode above the width: a branch at width 3, but not at width 4
abbrev branching : RowLists
branching = record { internal = 1 ∷ 1 ∷ []; external = 1 ∷ 0 ∷ []; first_child = 1 ∷ 0 ∷ []; first_hop = 0 ∷ 1 ∷ [] }

abbrev branch_answer : (width supernodes hops : ℕ) → List ℕ → Answer
branch_answer w s h hs = lookup_bitmap_of WIDTH (rec w s h) branching hs 0

bitmap_damage : (eight_answer 4 8 0 ≡ Refused 9) × (eight_answer 3 9 0 ≡ Refused 9)
    × (eight_answer 2 8 0b1100001 ≡ Refused 9) × (eight_answer 2 8 0b1000100 ≡ Match 5 5 2)
    × (eight_answer 3 6 0b1100001 ≡ Refused 9) × (eight_answer 3 6 0 ≡ Match 1 1 1)
    × (branch_answer 3 2 2 (7 ∷ 8 ∷ []) ≡ Refused 9) × (branch_answer 4 2 2 (7 ∷ 8 ∷ []) ≡ Match 8 4 2)
    × (branch_answer 4 0 0 [] ≡ NoRoute 0) × (branch_answer 4 2 2 (7 ∷ 0 ∷ []) ≡ NoRoute 2)
unfolding outside answer place_level place_on on_path map_of bit_at mask_of path_at limit found ones_before highest ones ones_in
    better_of visit tell_best tell_visited visited_by lists_short bitmap_refusal lookup_bitmap_of
bitmap_damage = (refl, refl, refl, refl, refl, refl, refl, refl, refl, refl)

-- an entry longer than the width is none: at width 1 the place of 00 is set, and the hop of length 0 wins; an earlier best past the hop count
-- is no matter where the last winner is below it; and width 0 is refused
abbrev too_long : RowLists
too_long = record { internal = 0b1001 ∷ []; external = 0 ∷ []; first_child = 0 ∷ []; first_hop = 0 ∷ [] }

abbrev far_best : RowLists
far_best = record { internal = 1 ∷ 1 ∷ []; external = 1 ∷ 0 ∷ []; first_child = 1 ∷ 0 ∷ []; first_hop = 5 ∷ 1 ∷ [] }

bitmap_edges : (lookup_bitmap_of WIDTH (rec 1 1 2) too_long (7 ∷ 8 ∷ []) 0 ≡ Match 7 0 1)
    × (lookup_bitmap_of WIDTH (rec 2 1 2) too_long (7 ∷ 8 ∷ []) 0 ≡ Match 8 2 1)
    × (lookup_bitmap_of WIDTH (rec 4 2 2) far_best (7 ∷ 8 ∷ []) 0 ≡ Match 8 4 2) × (lookup_bitmap_of WIDTH (rec 4 2 2) far_best (7 ∷ 8 ∷ []) 1 ≡ Refused 9)
    × (lookup_bitmap_of WIDTH (rec 0 0 0) far_best [] 0 ≡ Refused 1)
unfolding outside answer place_level place_on on_path map_of bit_at mask_of path_at limit found ones_before highest ones ones_in
    better_of visit tell_best tell_visited visited_by lists_short bitmap_refusal lookup_bitmap_of
bitmap_edges = (refl, refl, refl, refl, refl)

-- the winner is the place of 00 in the second supernode: its length is 4 and 2. Its hop 0 is no route, although the place is set and
-- length 0 has hop 7; at width 5 it is too long, and length 0 wins
abbrev second : RowLists
second = record { internal = 1 ∷ 0b1000 ∷ []; external = 1 ∷ 0 ∷ []; first_child = 1 ∷ 0 ∷ []; first_hop = 0 ∷ 1 ∷ [] }

abbrev second_answer : (width : ℕ) → List ℕ → Answer
second_answer w hs = lookup_bitmap_of WIDTH (rec w 2 2) second hs 0

bitmap_second : (second_answer 6 (7 ∷ 8 ∷ []) ≡ Match 8 6 2) × (second_answer 6 (7 ∷ 65535 ∷ []) ≡ Discard 6 2)
    × (second_answer 6 (7 ∷ 0 ∷ []) ≡ NoRoute 2) × (second_answer 5 (7 ∷ 8 ∷ []) ≡ Match 7 0 2)
unfolding outside answer place_level place_on on_path map_of bit_at mask_of path_at limit found ones_before highest ones ones_in
    better_of visit tell_best tell_visited visited_by lists_short bitmap_refusal lookup_bitmap_of
bitmap_second = (refl, refl, refl, refl)
