-- Where the reading of the text may stop, whatever the reader. (What a read puts on the page is said of a reader whose bytes are known.)
use Rattle.std.specs.Prelude.{◌≡◌, ◌⊎◌, ℕ, ⊤, Result, Ok, Err}
use Rattle.tablet.specs.declared.Reading.{Reading}

-- the page is full; or the last read answered 0, the end of the text; or a read failed
abbrev pub Stopped : {E : Type 0} → (room : ℕ) → Result Reading E → Type 0
Stopped room (Ok r) = (r.count ≡ room) ⊎ (r.last ≡ 0)
Stopped room (Err e) = ⊤
