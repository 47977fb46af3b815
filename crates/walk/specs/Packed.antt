-- How a walk's code keeps the best so far: hop and length in one number, the hop in its lower 16 bits and the length above them, as an
-- answer to C has them. One choice then takes both from a row.
use Rattle.std.specs.Prelude.{ℕ, ◌+◌, ◌*◌, ◌/◌, ◌%◌, ◌<◌, ◌≡◌, cond, eqb}
use Rattle.walk.specs.Limits.{HOPS}
use Rattle.walk.specs.Answers.{HopLength}

abbrev pub packed : (hop len : ℕ) → ℕ
packed hop len = hop + len * HOPS

abbrev pub unpacked : ℕ → HopLength
unpacked best = record { hop = best % HOPS; len = best / HOPS }

-- a best with no hop has no length
abbrev pub NoHopNoLength : HopLength → Type 0
NoHopNoLength best = best.hop ≡ 0 → best.len ≡ 0

-- a hop of 16 bits and a length of 8, and no length without a hop
abbrev pub IsPacked : ℕ → Type 0
IsPacked best = (best < HOPS * 256) × NoHopNoLength (unpacked best)

-- the best after a row of that hop and length, as `new_best` has it
abbrev pub best_with : (hop len : ℕ) → HopLength → HopLength
best_with hop len best = cond (eqb hop 0) best (record { hop = hop; len = len })
