-- "Supernodes lie breadth first": level after level, each level the children of the one before, in order. n levels are enough where
-- level n is empty. Over any type of supernodes.
use Rattle.std.specs.Prelude.{ℕ, zero, suc, List, [], ◌∷◌, ◌++◌}

module _ {X : Type 0} (kids : X → List X) where
  unfoldable pub kids_of : List X → List X
  kids_of [] = []
  kids_of (x ∷ q) = kids x ++ kids_of q

  unfoldable pub order : ℕ → List X → List X
  order zero q = []
  order (suc n) q = q ++ order n (kids_of q)

  -- level n
  unfoldable pub level : ℕ → List X → List X
  level zero q = q
  level (suc n) q = level n (kids_of q)

  -- the same by a queue, in at most n turns: the first is taken, its children join the end (the law between the two is `queue_order`)
  unfoldable pub queue_of : ℕ → List X → List X
  queue_of zero q = []
  queue_of (suc n) [] = []
  queue_of (suc n) (x ∷ q) = x ∷ queue_of n (q ++ kids x)
