-- A verdict, with the refusals among its cases: what the laws speak of.
use Rattle.std.specs.Prelude.{ℕ}

pub data Verdict : Type 0 where
  Act : (action reads : ℕ) → Verdict
  Discard : (reads : ℕ) → Verdict
  NoRule : (reads : ℕ) → Verdict
  Refused : (number : ℕ) → Verdict
