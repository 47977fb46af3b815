-- The links of a supernode's 31 places in level order, 0 where no node stands.
use Rattle.std.specs.Prelude.{ℕ, ◌+◌, ◌≤◌, ◌<◌, ◌≡◌, List, length, get_or}
use Rattle.pieces.specs.BinaryTrie.{BinaryTrie}
use Rattle.pieces.specs.Maps.{INTERNAL, EXTERNAL, subtrie_at}
use Rattle.supernodes.specs.Linked.{Nodes}

-- its own places and those where its children begin
abbrev pub all_places : ℕ
all_places = INTERNAL + EXTERNAL

abbrev pub PlaceAsk : List ℕ → ℕ → Type 0
PlaceAsk rows k = (tree : ℕ → BinaryTrie) × (used : ℕ) × Nodes tree used rows × (k ≤ used)

-- the first n places of the supernode at link k
pub record PlacesFound (rows : List ℕ) (k n : ℕ) (p : List ℕ) : Type 0 where
  pub long : length p ≡ all_places
  pub each : (tree : ℕ → BinaryTrie) (used : ℕ) → Nodes tree used rows → k ≤ used → (j : ℕ) → j < n
      → (get_or p j 0 ≤ used) × (tree (get_or p j 0) ≡ subtrie_at j (tree k))
