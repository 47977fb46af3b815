-- Document 01, "Refusals, in order of test": a call is refused by the first of its tests that fails. A row of tests is
-- written `RefuseBy 1 fails₁ (RefuseBy 2 fails₂ (.. NoMore))`, and holds of the number of the first that fails, or of 0.
use Rattle.std.specs.Prelude.{ℕ, ◌≡◌}

-- a test with its number, and the tests after it
pub data RefuseBy (number : ℕ) (Fails : Type 0) (Rest : ℕ → Type 0) : ℕ → Type 0 where
  fails : Fails → RefuseBy number Fails Rest number
  passes : {n : ℕ} → (Fails → ⊥) → Rest n → RefuseBy number Fails Rest n

-- no test is left, and none failed
abbrev pub NoMore : ℕ → Type 0
NoMore n = n ≡ 0
