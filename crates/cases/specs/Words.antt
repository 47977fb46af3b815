-- The word that begins a line: its bytes stand there one after the other, and no small letter comes next.
use Rattle.std.specs.Prelude.{Bool, true, false, ◌&&◌, not, List, [], ◌∷◌, ℕ, eqb, drop}
use Rattle.cases.specs.Limits.{first_letter, last_letter}
use Rattle.cases.specs.Numerals.{between}

-- the second list is the text from the word's place on
unfoldable pub word_in : List ℕ → List ℕ → Bool
word_in [] [] = true
word_in [] (c ∷ cs) = not (between first_letter last_letter c)
word_in (w ∷ ws) [] = false
word_in (w ∷ ws) (c ∷ cs) = eqb c w && word_in ws cs

abbrev pub word_at : List ℕ → ℕ → List ℕ → Bool
word_at s p word = word_in word (drop p s)
