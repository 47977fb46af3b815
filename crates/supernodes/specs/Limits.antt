-- The numbers of a scratch row: left link, right link, mark, queue.
use Rattle.std.specs.Prelude.{ℕ}

abbrev pub node_row : ℕ
node_row = 4
