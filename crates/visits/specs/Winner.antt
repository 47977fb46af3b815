-- The longest match on a way so far, where there is one: the number of its hop, and the address bits left behind it.
use Rattle.std.specs.Prelude.{ℕ, Option, Some}
use Rattle.visits.specs.declared.looking.Winner.{Winner}

abbrev pub Best : Type 0
Best = Option Winner

abbrev pub won : (place left : ℕ) → Best
won place left = Some (record { place = place; left = left })
