-- What a call that reads a line answers.
use Rattle.std.specs.Prelude.{◌≡◌, ℕ, true, false, Result, MatchResult}
use Rattle.reading.specs.declared.lines.BadLine.{BadLine}
use Rattle.reading.specs.declared.lines.Digits.{Digits}
use Rattle.reading.specs.Lines.{Spot, Item}

abbrev pub bad_at : ℕ → BadLine
bad_at n = record { line = n }

-- of the line l: where it is good, what f has of it, and the reading stands after it; else that it is bad
pub record Took {A : Type 0} (l : Item) (f : Item → A) (r : Result A BadLine) (after : Spot) : Type 0 where
  pub said : MatchResult r (λ w. (l.spot.good ≡ true) × (w ≡ f l) × (after ≡ l.spot)) (λ b. (l.spot.good ≡ false) × (b ≡ bad_at l.spot.line))

-- the digits of a line
abbrev pub digits_of : Item → Digits
digits_of l = record { value = l.value; count = l.count }
