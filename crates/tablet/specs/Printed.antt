-- What the program prints of a text that is known: its report.
use Rattle.std.specs.Prelude.{ℕ, List, Option, Some, None, ⊤}
use Rattle.std.specs.Io.KnownBytes.{Appends}
use Rattle.sheet.specs.Tablet.{report_of}

abbrev pub Prints : Option (List ℕ) → (old new : Option (List ℕ)) → Type 0
Prints None old new = ⊤
Prints (Some text) old new = Appends old new (report_of text)
