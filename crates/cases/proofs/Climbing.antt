-- A table made entry by entry: what a step may be held at, and each law of the loop, a turn or one of its ends.
use mathlib.Core.Path.{◌≡◌, refl, sym, ap, ◌∙◌}
use mathlib.Core.List.{List}
use Prim.Native.Nat.{ℕ, ◌+◌, ◌-◌, ◌^◌, ◌≤◌, ◌<◌, min}
use native.Mathlib.Nat.{one-mul, zero-mul, add-mul}
use native.Mathlib.Numerals.{add-one}
use native.Mathlib.Omega.{arith}
use lib.ListN.{length, set, length-set}
use lib.Pow.{pow_mono}
use Rattle.cases.specs.Limits.{most_32, step_cap}
use Rattle.cases.specs.Rising.{climb_value, climb_hop, set_first}

pub step_held : (w b : ℕ) → 32 ≤ w - b → step_cap ≡ min (2 ^ (w - b)) step_cap
step_held w b h =
    let large : step_cap ≤ 2 ^ (w - b) = pow_mono {i = 32} {j = w - b} h in omega (arith, large)

climb_zero : (step : ℕ) → climb_value step 0 ≡ 0
climb_zero step = omega (arith, zero-mul step)

-- one value above the last, and held
climb_on : (step i : ℕ) → min (climb_value step i + step) most_32 ≡ climb_value step (i + 1)
climb_on step i = omega (arith, add-mul i 1 step, one-mul step)

pub set_first_on : (f : ℕ → ℕ) (i : ℕ) (l₀ : List ℕ) {v : ℕ} {l : List ℕ} → l ≡ set_first f i l₀ → v ≡ f i → set l i v ≡ set_first f (i + 1) l₀
unfolding set_first
set_first_on f i l₀ el ev = rw (el, ev, add-one i)

-- after i of n entries, the next value v
pub record Climbed (n step bits : ℕ) (a₀ b₀ c₀ : List ℕ) (v i : ℕ) (a b c : List ℕ) : Type 0 where
  pub first : a ≡ set_first (climb_value step) i a₀
  pub second : b ≡ set_first (λ j. bits) i b₀
  pub third : c ≡ set_first climb_hop i c₀
  pub length_first : length a ≡ length a₀
  pub length_second : length b ≡ length b₀
  pub length_third : length c ≡ length c₀
  pub value : v ≡ climb_value step i
  pub bound : i ≤ n

pub climbed_start : (n step bits : ℕ) (a b c : List ℕ) → Climbed n step bits a b c 0 0 a b c
unfolding set_first
climbed_start n step bits a b c =
    record {
      first = refl;
      second = refl;
      third = refl;
      length_first = refl;
      length_second = refl;
      length_third = refl;
      value = sym (climb_zero step);
      bound = omega arith;
    }

module _ {n step bits : ℕ} {a₀ b₀ c₀ : List ℕ} {v i : ℕ} {a b c : List ℕ} (f : Climbed n step bits a₀ b₀ c₀ v i a b c) where
  pub climbed_on :
      {u : ℕ} → i < n → u ≡ min (v + step) most_32
      → Climbed n step bits a₀ b₀ c₀ u (i + 1) (set a i v) (set b i bits) (set c i (climb_hop i))
  climbed_on {u} h e =
      record {
        first = set_first_on (climb_value step) i a₀ f.first f.value;
        second = set_first_on (λ j. bits) i b₀ f.second refl;
        third = set_first_on climb_hop i c₀ f.third refl;
        length_first = length-set a i v ∙ f.length_first;
        length_second = length-set b i bits ∙ f.length_second;
        length_third = length-set c i (climb_hop i) ∙ f.length_third;
        value = e ∙ ap (λ (x : ℕ). min (x + step) most_32) f.value ∙ climb_on step i;
        bound = omega arith;
      }
