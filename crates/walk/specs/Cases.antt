-- A lookup's answer, with the refusals among its cases: what the laws speak of.
use Rattle.std.specs.Prelude.{ℕ}

pub data Answer : Type 0 where
  Match : (hop length reads : ℕ) → Answer
  Discard : (length reads : ℕ) → Answer
  NoRoute : (reads : ℕ) → Answer
  Refused : (number : ℕ) → Answer
