-- What the functions that visit source tries ask: the tests that come before any row is read have passed.
use Rattle.std.specs.Prelude.{ℕ, ◌+◌, ◌*◌, ◌^◌, ◌≤◌, ◌<◌, List, length}
use Rattle.walk.specs.Limits.{WIDTH, LEVELS, Within}
use Rattle.walk.specs.Rows.{Lists, shortest}
use Rattle.verdicts.specs.Limits.{trie_row_cells}
use Rattle.verdicts.specs.Tries.{trie_row}

-- e is the E of all tries
pub record CanVisit (W k e : ℕ) (ls : Lists) (source : ℕ) : Type 0 where
  pub width : Within W WIDTH
  pub levels : Within k LEVELS
  pub inside : source < 2 ^ W
  pub enough : e ≤ shortest ls

-- a trie that can be visited, as a statement
pub record Visitable (e : ℕ) (list : List ℕ) (g : ℕ) : Type 0 where
  pub listed : g * trie_row_cells + trie_row_cells ≤ length list
  pub within : (trie_row list g).place + (trie_row list g).elements ≤ e
