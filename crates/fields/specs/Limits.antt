-- The number that bounds rules (02, [6]); `src/limits.rt` has the same one for the code.
use Rattle.std.specs.Prelude.{ℕ}

-- the most rules
abbrev pub rule_limit : ℕ
rule_limit = 1024
