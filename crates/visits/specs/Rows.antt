-- Rows of supernodes in lent lists: internal map, external map, first-child and first-hop number, of which the shortest list counts.
-- The hops lie in a list of their own.
use Rattle.std.specs.Prelude.{ℕ, suc, min, ◌≡◌, List, [], ◌∷◌, length, get_or}
use Rattle.pieces.specs.Rows.{SupernodeRow}

pub record RowLists : Type 0 where
  pub internal : List ℕ
  pub external : List ℕ
  pub first_child : List ℕ
  pub first_hop : List ℕ

abbrev pub row_lists : (internal external first_child first_hop : List ℕ) → RowLists
row_lists internal external first_child first_hop =
    record { internal = internal; external = external; first_child = first_child; first_hop = first_hop }

-- the number of rows that all four lists have
abbrev pub row_room : RowLists → ℕ
row_room rows = min (min (length rows.internal) (length rows.external)) (min (length rows.first_child) (length rows.first_hop))

abbrev pub supernode_at : RowLists → ℕ → SupernodeRow
supernode_at rows i = record {
  internal = get_or rows.internal i 0;
  external = get_or rows.external i 0;
  first_child = get_or rows.first_child i 0;
  first_hop = get_or rows.first_hop i 0;
}

-- the lists hold these rows, from number b on; the list holds these hops, from number b on
abbrev pub HoldRows : RowLists → (b : ℕ) → List SupernodeRow → Type 0
HoldRows rows b [] = Unit {0}
HoldRows rows b (x ∷ xs) = (supernode_at rows b ≡ x) × HoldRows rows (suc b) xs

abbrev pub HoldHops : List ℕ → (b : ℕ) → List ℕ → Type 0
HoldHops hops b [] = Unit {0}
HoldHops hops b (x ∷ xs) = (get_or hops b 0 ≡ x) × HoldHops hops (suc b) xs
