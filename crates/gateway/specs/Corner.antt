-- 02's example of a discard ([4]), with the matched lengths ([5]): what a lookup answers in any build of its table (table Corner), in
-- elements or as a tree bitmap.
use Rattle.std.specs.Prelude.{◌≡◌, ℕ}
use Rattle.walk.specs.Cases.{Answer, Match, Discard, NoRoute}
use Rattle.walk.specs.Answers.{reads_of}

-- the answers to the three addresses, `Allows` being what the lookup's promise allows for an address
pub record CornerAnswers (Allows : ℕ → Answer → Type 0) : Type 0 where
  pub corner : {r : Answer} → Allows 0b1010 r → r ≡ Discard 4 (reads_of r)
  pub neighbour : {r : Answer} → Allows 0b1011 r → r ≡ Match 1 2 (reads_of r)
  pub outside : {r : Answer} → Allows 0b0111 r → r ≡ NoRoute (reads_of r)
