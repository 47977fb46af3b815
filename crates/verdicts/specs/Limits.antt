-- The numbers of the list of tries and of the way through it (02, [6]), under the names that the code gives them.
use Rattle.std.specs.Prelude.{ℕ, ◌≤◌}
use Rattle.std.proofs.Common.{arith}

-- numbers in a row of the list, one row a source trie
abbrev pub trie_row_cells : ℕ
trie_row_cells = 5

-- the most source tries visited: one for each length of a destination, 0 to 32
abbrev pub VISITS : ℕ
VISITS = 33

-- "one row, of at most 48 numbers"
trie_row_few : trie_row_cells ≤ 48
trie_row_few = omega arith
