-- Lists of zeros: a list that is 0 at each place; what is read of it.
use mathlib.Core.Path.{◌≡◌, refl, ap₂}
use mathlib.Core.List.{List, [], ◌∷◌}
use Prim.Native.Nat.{ℕ, zero, suc, ◌<◌}
use native.Mathlib.Omega.{arith}
use lib.ListN.{length, get_or, replicate}

pub all_zero : (rows : List ℕ) → ((k : ℕ) → k < length rows → get_or rows k 0 ≡ 0) → rows ≡ replicate (length rows) 0
all_zero [] h = refl
all_zero (x ∷ xs) h = ap₂ (λ (a : ℕ) (l : List ℕ). a ∷ l) (h 0 (omega arith)) (all_zero xs (λ k l. h (suc k) (omega arith)))

pub zeros_read : (n i : ℕ) → get_or {A = ℕ} (replicate n 0) i 0 ≡ 0
zeros_read zero i = refl
zeros_read (suc n) zero = refl
zeros_read (suc n) (suc i) = zeros_read n i
