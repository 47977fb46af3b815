-- The limits of a lookup (01, "The table" and "Stride choices"), under the names that the code gives them, and what tests 1 and
-- 2 refuse: a number that is 0 or above its limit.
use Rattle.std.specs.Prelude.{ℕ, ◌≤◌, ◌<◌, ◌≡◌, ◌⊎◌}
use Rattle.table.specs.Limits.{width_limit}

-- the widest address, in bits
abbrev pub WIDTH : ℕ
WIDTH = width_limit

-- the most levels
abbrev pub LEVELS : ℕ
LEVELS = 32

-- every hop is below this
abbrev pub HOPS : ℕ
HOPS = 65536

-- 0, or above the limit
abbrev pub Outside : (x most : ℕ) → Type 0
Outside x most = (x ≡ 0) ⊎ (most < x)

-- from 1 to the limit
abbrev pub Within : (x most : ℕ) → Type 0
Within x most = (0 < x) × (x ≤ most)
