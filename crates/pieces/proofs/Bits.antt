-- Bits of numbers: of a map, of a conjunction, of a remainder; the highest one.
use Prim.Native.Nat.{ℕ, zero, suc, min, ◌+◌, ◌*◌, ◌/◌, ◌%◌, ◌^◌, ◌<◌}
use mathlib.Core.Path.{◌≡◌, refl, sym, ap, subst, ◌∙◌}
use mathlib.Core.Bool.{Bool, true, false, cond, ◌&&◌}
use mathlib.Core.Logic.{◌⊎◌, inl, inr, ⊎_elim}
use native.Mathlib.Nat.{two-pow-succ, eq-or-lt_of_le, mod-lt}
use native.Mathlib.Omega.{arith}
use lib.Dec.{eqb}
use lib.Bits.{bit_and, and_step, and_shr}
use lib.Pow.{high, low, shr_lt, split, pow_pos}
use Rattle.strides.specs.Trie.{bit}
use Rattle.strides.proofs.Paths.{bit_mod}
use Rattle.pieces.specs.Maps.{digit, map_of, bit_at}
use Rattle.pieces.specs.Cuts.{highest}

-- ---- a map
pub map_lt : (n : ℕ) (f : ℕ → Bool) → map_of n f < 2 ^ n
unfolding map_of
map_lt zero f = omega arith
map_lt (suc n) f = go (f n) (map_lt n f)
  where
    go : (b : Bool) → map_of n f < 2 ^ n → digit b * 2 ^ n + map_of n f < 2 ^ suc n
    go true h = rw (two-pow-succ n) (omega arith)
    go false h = rw (two-pow-succ n) (omega arith)

bit_digit : (b : Bool) → eqb (digit b % 2) 1 ≡ b
bit_digit true = refl
bit_digit false = refl

pub bit_of_rest : (n m x : ℕ) → n < m → bit_at (x % 2 ^ m) n ≡ bit_at x n
unfolding bit_at bit
bit_of_rest n m x h = ap (λ (v : ℕ). eqb v 1) (bit_mod n m x h)

pub bit_map : (n : ℕ) (f : ℕ → Bool) (i : ℕ) → i < n → bit_at (map_of n f) i ≡ f i
unfolding map_of bit_at
bit_map zero f i h = absurd (omega arith)
bit_map (suc n) f i h = ⊎_elim (λ (e : i ≡ n). top e) (λ (l : i < n). rest l (bit_map n f i l)) (eq-or-lt_of_le (omega arith))
  where
    top : i ≡ n → bit_at (map_of (suc n) f) i ≡ f i
    top e = rw e (ap (λ (v : ℕ). eqb (v % 2) 1) (high (digit (f n)) n (map_lt n f)) ∙ bit_digit (f n))

    rest : i < n → bit_at (map_of n f) i ≡ f i → bit_at (map_of (suc n) f) i ≡ f i
    rest l r = sym (bit_of_rest i n (map_of (suc n) f) l) ∙ ap (λ (v : ℕ). bit_at v i) (low (digit (f n)) n (map_lt n f)) ∙ r

-- ---- a conjunction
and_last : (a b : ℕ) → bit_and a b % 2 ≡ min (a % 2) (b % 2)
and_last a b = ap (λ (v : ℕ). v % 2) (and_step a b) ∙ go (bit_and (a / 2) (b / 2)) (min (a % 2) (b % 2)) (omega arith)
  where
    go : (x y : ℕ) → y < 2 → (x * 2 + y) % 2 ≡ y
    go x y h = omega arith

min_and : (x y : ℕ) → x < 2 → y < 2 → eqb (min x y) 1 ≡ (eqb x 1 && eqb y 1)
min_and zero zero h k = refl
min_and zero (suc zero) h k = refl
min_and zero (suc (suc y)) h k = absurd (omega arith)
min_and (suc zero) zero h k = refl
min_and (suc zero) (suc zero) h k = refl
min_and (suc zero) (suc (suc y)) h k = absurd (omega arith)
min_and (suc (suc x)) y h k = absurd (omega arith)

pub bit_and_lem : (a b i : ℕ) → bit_at (bit_and a b) i ≡ (bit_at a i && bit_at b i)
unfolding bit_at
bit_and_lem a b i =
    ap (λ (v : ℕ). eqb (v % 2) 1) (and_shr a b i) ∙ ap (λ (v : ℕ). eqb v 1) (and_last (a / 2 ^ i) (b / 2 ^ i))
    ∙ min_and (a / 2 ^ i % 2) (b / 2 ^ i % 2) (omega arith) (omega arith)

-- ---- the highest set bit
pub record Highest (n x i : ℕ) : Type 0 where
  pub within : i < n
  pub set : bit_at x i ≡ true
  pub above : (k : ℕ) → i < k → k < n → bit_at x k ≡ false

pub highest_is : (n x : ℕ) → ((k : ℕ) → k < n → bit_at x k ≡ false) ⊎ Highest n x (highest n x)
unfolding highest
highest_is zero x = inl (λ k h. absurd (omega arith))
highest_is (suc n) x = go (bit_at x n) refl (highest_is n x)
  where
    go : (b : Bool) → bit_at x n ≡ b → ((k : ℕ) → k < n → bit_at x k ≡ false) ⊎ Highest n x (highest n x)
        → ((k : ℕ) → k < suc n → bit_at x k ≡ false) ⊎ Highest (suc n) x (cond b n (highest n x))
    go true e r = inr (record { within = omega arith; set = e; above = λ k h l. absurd (omega arith) })
    go false e (inl r) = inl (λ k h. ⊎_elim (λ (q : k ≡ n). rw q e) (λ (q : k < n). r k q) (eq-or-lt_of_le (omega arith)))
    go false e (inr r) =
        inr (record { within = omega (arith, r.within); set = r.set; above = λ k h l. ⊎_elim (λ (q : k ≡ n). rw q e) (λ (q : k < n). r.above k h q) (eq-or-lt_of_le (omega arith)) })

-- a number below 2 ^ n with no bit set is 0
pub bit_zero : (v : ℕ) → v < 2 → eqb (v % 2) 1 ≡ false → v ≡ 0
bit_zero zero h e = refl
bit_zero (suc zero) h e = cc
bit_zero (suc (suc v)) h e = absurd (omega arith)

pub no_bits : (n x : ℕ) → x < 2 ^ n → ((k : ℕ) → k < n → bit_at x k ≡ false) → x ≡ 0
unfolding bit_at
no_bits zero x h f = omega arith
no_bits (suc n) x h f =
    let e : suc n ≡ 1 + n = omega arith in
    let v : x / 2 ^ n ≡ 0 = bit_zero (x / 2 ^ n) (shr_lt 1 n (subst (λ (m : ℕ). x < 2 ^ m) e h)) (f n (omega arith)) in
    let m : x % 2 ^ n ≡ x = whole (x / 2 ^ n) (x % 2 ^ n) (2 ^ n) x v (split x n) in
    let l : x % 2 ^ n < 2 ^ n = mod-lt x (pow_pos n) in
    no_bits n x (omega arith) (λ k l. f k (omega arith))
  where
    whole : (a b c x : ℕ) → a ≡ 0 → a * c + b ≡ x → b ≡ x
    whole zero b c x e h = omega arith
    whole (suc a) b c x e h = absurd (omega arith)
