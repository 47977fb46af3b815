-- The places on a path, and what a supernode's map and mask say: the highest bit found is the longest match inside it.
use Prim.Native.Nat.{ℕ, zero, suc, min, ◌+◌, ◌-◌, ◌*◌, ◌/◌, ◌%◌, ◌^◌, ◌≤◌, ◌<◌}
use mathlib.Core.Path.{◌≡◌, refl, sym, ap, ◌∙◌}
use mathlib.Core.Bool.{Bool, true, false, ◌&&◌}
use mathlib.Core.Logic.{◌⊎◌, inl, inr, ⊎_elim}
use native.Mathlib.Omega.{arith}
use native.Mathlib.Decide.{dec_le}
use native.Mathlib.Nat.{mod-lt}
use lib.Dec.{eqb, eqb→eq}
use lib.Bits.{bit_and}
use lib.Pow.{high, pow_pos, pow_mono}
use borrow.Author.Tests.{lt-ltb, le-ltb, eq-eqb}
use Rattle.pieces.specs.Maps.{bit_at, place_level, place_on, on_path, mask_of}
use Rattle.pieces.specs.Cuts.{limit, found, highest, NoBit, Matchable, IsLongest}
use Rattle.pieces.proofs.Bits.{bit_of_rest, bit_and_lem, bit_map, highest_is, Highest, no_bits}

-- ---- levels
-- place i is at level j
pub record Level (i j : ℕ) : Type 0 where
  pub few : j ≤ 3
  pub low : 2 ^ j - 1 ≤ i
  pub high : i < 2 ^ suc j - 1

pub level_of_lem : (i j : ℕ) → Level i j → place_level i ≡ j
unfolding place_level
level_of_lem i zero v = simp (lt-ltb i 1 (omega (arith, v.high)))
level_of_lem i (suc zero) v = simp (le-ltb i 1 (omega (arith, v.low)), lt-ltb i 3 (omega (arith, v.high)))
level_of_lem i (suc (suc zero)) v = simp (le-ltb i 1 (omega (arith, v.low)), le-ltb i 3 (omega (arith, v.low)), lt-ltb i 7 (omega (arith, v.high)))
level_of_lem i (suc (suc (suc zero))) v = simp (le-ltb i 1 (omega (arith, v.low)), le-ltb i 3 (omega (arith, v.low)), le-ltb i 7 (omega (arith, v.low)), lt-ltb i 15 (omega (arith, v.high)))
level_of_lem i (suc (suc (suc (suc j)))) v = absurd (omega (arith, v.few))

pub level_some : (i : ℕ) → i < 15 → (j : ℕ) × Level i j
level_some i h = elim (dec_le 1 i) [
  | no a ↦ (0, record { few = omega arith; low = omega arith; high = omega arith })
  | yes a ↦ elim (dec_le 3 i) [
    | no b ↦ (1, record { few = omega arith; low = omega arith; high = omega arith })
    | yes b ↦ elim (dec_le 7 i) [
      | no c ↦ (2, record { few = omega arith; low = omega arith; high = omega arith })
      | yes c ↦ (3, record { few = omega arith; low = omega arith; high = omega arith })
    ]
  ]
]

-- the place on a path at a level
pub place_level_lem : (p j : ℕ) → p < 16 → j ≤ 3 → Level (place_on p j) j
unfolding place_on
place_level_lem p zero h k = record { few = k; low = omega arith; high = omega arith }
place_level_lem p (suc zero) h k = record { few = k; low = omega arith; high = omega arith }
place_level_lem p (suc (suc zero)) h k = record { few = k; low = omega arith; high = omega arith }
place_level_lem p (suc (suc (suc zero))) h k = record { few = k; low = omega arith; high = omega arith }
place_level_lem p (suc (suc (suc (suc j)))) h k = absurd (omega arith)

-- and the places within the width
limit_is : (left : ℕ) → limit left ≡ 2 ^ suc (min left 3) - 1
unfolding limit
limit_is zero = refl
limit_is (suc zero) = refl
limit_is (suc (suc zero)) = refl
limit_is (suc (suc (suc n))) = let e : min (suc (suc (suc n))) 3 ≡ 3 = omega arith in rw e refl

pub within_limit : (i j left : ℕ) → Level i j → j ≤ left → i < limit left
within_limit i j left v h =
    let e : suc j ≤ suc (min left 3) = omega (arith, v.few) in
    omega (arith, limit_is left, v.high, pow_mono e)

pub limit_within : (i j left : ℕ) → Level i j → i < limit left → j ≤ left
limit_within i j left v h =
    let n : ¬ (suc (min left 3) ≤ j) = λ k. omega (arith, limit_is left, v.low, pow_mono k) in
    omega (arith, v.few)

pub limit_15 : (left : ℕ) → limit left ≤ 15
unfolding limit
limit_15 zero = omega arith
limit_15 (suc zero) = omega arith
limit_15 (suc (suc zero)) = omega arith
limit_15 (suc (suc (suc n))) = omega arith

-- ---- paths
pub on_path_lem : (p i j : ℕ) → Level i j → on_path p i ≡ true → place_on p j ≡ i
unfolding on_path
on_path_lem p i j v e = ap (place_on p) (sym (level_of_lem i j v)) ∙ eqb→eq (place_on p (place_level i)) i (rw e tt)

pub place_on_lem : (p j : ℕ) → p < 16 → j ≤ 3 → on_path p (place_on p j) ≡ true
unfolding on_path
place_on_lem p j h k = eq-eqb (place_on p (place_level (place_on p j))) (place_on p j) (ap (place_on p) (level_of_lem (place_on p j) j (place_level_lem p j h k)))

-- ---- what is found in a map
pub small_bit : (y i : ℕ) → y < 2 ^ i → bit_at y i ≡ false
unfolding bit_at
small_bit y i h = let e : 0 * 2 ^ i + y ≡ y = omega arith in ap (λ (v : ℕ). eqb (v % 2) 1) (ap (λ (z : ℕ). z / 2 ^ i) (sym e) ∙ high 0 i h)

pub true_false : {b : Bool} → b ≡ false → b ≡ true → ⊥
true_false p q = let z : ◌≡◌ {A = ℕ} 0 1 = cc in omega arith

and_left : (a b : Bool) → (a && b) ≡ true → a ≡ true
and_left true b e = refl
and_left false b e = e

and_right : (a b : Bool) → (a && b) ≡ true → b ≡ true
and_right true b e = e
and_right false b e = cc

and_not : (a b : Bool) → (a && b) ≡ false → b ≡ true → a ≡ false
and_not true b e f = sym f ∙ e
and_not false b e f = refl

module _ (map p left : ℕ) where
  found_lt : found map p left < 2 ^ limit left
  unfolding found
  found_lt = mod-lt _ (pow_pos (limit left))

  found_bit : (i : ℕ) → i < limit left → bit_at (found map p left) i ≡ (bit_at map i && on_path p i)
  unfolding found mask_of
  found_bit i h =
      bit_of_rest i (limit left) (bit_and map (mask_of p)) h ∙ bit_and_lem map (mask_of p) i
      ∙ ap (λ (b : Bool). bit_at map i && b) (bit_map 15 (on_path p) i (omega (arith, limit_15 left)))

  -- nothing is found, and no level has its place; or the highest bit is the place of the longest
  pub found_longest : p < 16
      → ((found map p left ≡ 0) × ((j : ℕ) → Matchable left j → NoBit map (place_on p j)))
      ⊎ ((found map p left ≡ 0 → ⊥) × IsLongest map p left (place_level (highest 15 (found map p left))) × (place_on p (place_level (highest 15 (found map p left))) ≡ highest 15 (found map p left)))
  found_longest h = ⊎_elim (λ f. inl (empty f)) (λ g. inr (some g)) (highest_is 15 (found map p left))
    where
      -- a place within the width that is not found is not set
      unset : (k : ℕ) → k ≤ 3 → k ≤ left → bit_at (found map p left) (place_on p k) ≡ false → bit_at map (place_on p k) ≡ false
      unset k few l e =
          and_not (bit_at map (place_on p k)) (on_path p (place_on p k))
          (sym (found_bit (place_on p k) (within_limit (place_on p k) k left (place_level_lem p k h few) l)) ∙ e) (place_on_lem p k h few)

      empty : ((k : ℕ) → k < 15 → bit_at (found map p left) k ≡ false)
          → (found map p left ≡ 0) × ((j : ℕ) → Matchable left j → NoBit map (place_on p j))
      empty f = (
        no_bits 15 (found map p left) (omega (arith, found_lt, pow_mono (limit_15 left))) f,
        λ j m.
            let few : j ≤ 3 = omega (arith, m.0) in
            unset j few m.1 (f (place_on p j) (omega (arith, within_limit (place_on p j) j left (place_level_lem p j h few) m.1, limit_15 left))),
      )

      some : Highest 15 (found map p left) (highest 15 (found map p left))
          → (found map p left ≡ 0 → ⊥) × IsLongest map p left (place_level (highest 15 (found map p left)))
          × (place_on p (place_level (highest 15 (found map p left))) ≡ highest 15 (found map p left))
      some g =
          let i = highest 15 (found map p left) in
          let v = level_some i g.within in
          let j = v.0 in
          let e : place_level i ≡ j = level_of_lem i j v.1 in
          let n : ¬ (limit left ≤ i) = λ l. true_false (small_bit (found map p left) i (omega (arith, found_lt, pow_mono l))) g.set in
          let l : i < limit left = omega arith in
          let b : (bit_at map i && on_path p i) ≡ true = sym (found_bit i l) ∙ g.set in
          let q : place_on p j ≡ i = on_path_lem p i j v.1 (and_right (bit_at map i) (on_path p i) b) in
          rw e (
            (λ z. true_false (small_bit (found map p left) i (omega (arith, pow_pos i))) g.set),
            record {
              within = (omega (arith, v.1.few), limit_within i j left v.1 l);
              set = rw q (and_left (bit_at map i) (on_path p i) b);
              longest = λ k m w.
                  let few : k ≤ 3 = omega (arith, w.0) in
                  let u = place_level_lem p k h few in
                  unset k few w.1 (g.above (place_on p k) (later i j k v.1 m u) (omega (arith, within_limit (place_on p k) k left u w.1, limit_15 left)));
            },
            q,
          )
        where
          later : (i j k : ℕ) {i' : ℕ} → Level i j → j < k → Level i' k → i < i'
          later i j k a m b = omega (arith, a.high, b.low, pow_mono m)
