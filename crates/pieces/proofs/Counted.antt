-- "Before" in a map counts the places before it that are set.
use Prim.Native.Nat.{ℕ, zero, suc, ◌+◌, ◌-◌, ◌%◌, ◌^◌, ◌≤◌, ◌<◌}
use mathlib.Core.Path.{◌≡◌, refl, sym, ap, ◌∙◌}
use mathlib.Core.Bool.{Bool, true, false}
use mathlib.Core.Logic.{⊎_elim}
use native.Mathlib.Nat.{eq-or-lt_of_le, mod-eq_of_lt}
use native.Mathlib.Omega.{arith}
use lib.Count.{ones, ones_in, ones_cat}
use lib.Pow.{low, mod-mod-pow}
use Rattle.pieces.specs.Maps.{digit, map_of, count_set}
use Rattle.pieces.specs.Cuts.{ones_before}
use Rattle.pieces.proofs.Bits.{map_lt}

-- ---- "the count of ones before"
ones_digit : (b : Bool) → ones (digit b) ≡ digit b
unfolding ones ones_in
ones_digit true = refl
ones_digit false = refl

pub ones_map : (n : ℕ) (f : ℕ → Bool) → ones (map_of n f) ≡ count_set f n
unfolding map_of count_set ones
ones_map zero f = refl
ones_map (suc n) f =
    ones_cat n (digit (f n)) (map_of n f) (map_lt n f) ∙ ap (λ (v : ℕ). v + ones (map_of n f)) (ones_digit (f n))
    ∙ ap (λ (v : ℕ). digit (f n) + v) (ones_map n f)

pub map_mod : (n i : ℕ) (f : ℕ → Bool) → i ≤ n → map_of n f % 2 ^ i ≡ map_of i f
unfolding map_of
map_mod zero i f h = let e : i ≡ 0 = omega arith in rw e refl
map_mod (suc n) i f h = ⊎_elim (λ (e : i ≡ suc n). rw e (mod-eq_of_lt (map_lt (suc n) f))) (λ (l : i < suc n). go l (map_mod n i f (omega arith))) (eq-or-lt_of_le h)
  where
    go : i < suc n → map_of n f % 2 ^ i ≡ map_of i f → map_of (suc n) f % 2 ^ i ≡ map_of i f
    go l r =
        let e : n - i + i ≡ n = omega arith in
        sym (mod-mod-pow (map_of (suc n) f) (n - i) i) ∙ ap (λ (k : ℕ). map_of (suc n) f % 2 ^ k % 2 ^ i) e
        ∙ ap (λ (v : ℕ). v % 2 ^ i) (low (digit (f n)) n (map_lt n f)) ∙ r

pub before_map : (n i : ℕ) (f : ℕ → Bool) → i ≤ n → ones_before (map_of n f) i ≡ count_set f i
unfolding ones_before
before_map n i f h = ap ones (map_mod n i f h) ∙ ones_map i f
