-- A list by its numbers: what lists filled one place after the other hold, and lists with room left, which is 0.
use Rattle.std.specs.Prelude.{◌≡◌, List, [], ◌∷◌, ◌++◌, ℕ, zero, suc, ◌≤◌, length, get_or, take}

-- f at 0, 1, .. below n
unfoldable pub listed : (ℕ → ℕ) → ℕ → List ℕ
listed f zero = []
listed f (suc n) = listed f n ++ (f n ∷ [])

-- a list of n places: the first ones those of xs, and then 0
unfoldable pub padded : ℕ → List ℕ → List ℕ
padded zero xs = []
padded (suc n) [] = 0 ∷ padded n []
padded (suc n) (x ∷ xs) = x ∷ padded n xs

-- a list is filled to place n: it begins with f at 0, 1, .. below n, and goes on as it did
pub record FilledTo (f : ℕ → ℕ) (old new : List ℕ) (n : ℕ) : Type 0 where
  pub same : length new ≡ length old
  pub start : take n new ≡ listed f n
  pub rest : (j : ℕ) → n ≤ j → get_or new j 0 ≡ get_or old j 0
