-- The first bad line (01, "The tablet program"): "anything else, extra text or an early end is 11; an early end reports the line
-- after the last complete one". It is said by the texts of sound sheets alone, and no reading is in it: the lines before it open
-- such a text, and with it they open none.
use Rattle.std.specs.Prelude.{◌≡◌, cond, List, [], ◌∷◌, ℕ, zero, suc, ◌≤◌, eqb}
use Rattle.reading.specs.Limits.{LF}
use Rattle.reading.specs.Sheet.{Sheet}
use Rattle.reading.specs.Spelling.{sheet_text, Sound}

-- how many complete lines a text has: its LFs
unfoldable pub line_count : List ℕ → ℕ
line_count [] = zero
line_count (c ∷ s) = cond (eqb c LF) (suc (line_count s)) (line_count s)

-- the first m lines, each with its LF; all of a text that has fewer
unfoldable pub first_lines : ℕ → List ℕ → List ℕ
first_lines zero s = []
first_lines (suc m) [] = []
first_lines (suc m) (c ∷ s) = c ∷ cond (eqb c LF) (first_lines m s) (first_lines (suc m) s)

-- the text has m complete lines, and they are the first m of the text of some sound sheet
pub record Opens (s : List ℕ) (m : ℕ) : Type 0 where
  pub sheet : Sheet
  pub sound : Sound sheet
  pub complete : m ≤ line_count s
  pub same : first_lines m s ≡ first_lines m (sheet_text sheet)

-- the text is no sound sheet's, and this is its first line with which it does not open one: a bad line, no complete line, or
-- the line after the last
pub record FirstBad (s : List ℕ) (line : ℕ) : Type 0 where
  pub no_sheet : (sh : Sheet) → Sound sh → s ≡ sheet_text sh → ⊥
  pub before : ℕ
  pub next : line ≡ suc before
  pub opens : Opens s before
  pub no_more : Opens s (suc before) → ⊥
