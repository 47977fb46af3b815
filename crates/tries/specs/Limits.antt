-- The limits of the build: the most element rows (01, refusal 7), under the name that the code gives it; and what a link's type holds.
-- Those of scratch and strides are the choosers'.
use Rattle.std.specs.Prelude.{ℕ, ◌^◌}

-- the most element rows
abbrev pub ELEMENTS : ℕ
ELEMENTS = 16777216

-- a link is held in 32 bits: it is below this
abbrev pub LINKS : ℕ
LINKS = 2 ^ 32
