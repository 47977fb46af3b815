-- The rows of the four element lists, read number by number and written row by row.
use mathlib.Core.Path.{◌≡◌, refl, sym, ◌∙◌}
use mathlib.Core.List.{List}
use Prim.Native.Nat.{ℕ, ◌+◌, ◌≤◌, ◌<◌, min}
use native.Mathlib.Numerals.{add-one}
use native.Mathlib.Omega.{arith}
use lib.ListN.{length, set, length-set}
use Rattle.cases.specs.Limits.{most_32, most_16, most_8}
use Rattle.cases.specs.Numerals.{number_at}
use Rattle.cases.specs.Triples.{second_at, third_at, fourth_at}
use Rattle.cases.specs.Rising.{set_first}
use Rattle.cases.specs.Elements.{element_at, element_place, element_row}
use Rattle.cases.proofs.Climbing.{set_first_on}

-- after i of n rows that begin at place p₀, the next at place p
pub record ElementsSoFar (s : List ℕ) (n p₀ : ℕ) (a₀ b₀ c₀ d₀ : List ℕ) (p i : ℕ) (a b c d : List ℕ) : Type 0 where
  pub hops : a ≡ set_first (λ j. (element_row s p₀ j).hop) i a₀
  pub lengths : b ≡ set_first (λ j. (element_row s p₀ j).length) i b₀
  pub links : c ≡ set_first (λ j. (element_row s p₀ j).link) i c₀
  pub strides : d ≡ set_first (λ j. (element_row s p₀ j).stride) i d₀
  pub length_hops : length a ≡ length a₀
  pub length_lengths : length b ≡ length b₀
  pub length_links : length c ≡ length c₀
  pub length_strides : length d ≡ length d₀
  pub next : p ≡ element_place s p₀ i
  pub bound : i ≤ n

pub elements_start : (s : List ℕ) (n p : ℕ) (a b c d : List ℕ) → ElementsSoFar s n p a b c d p 0 a b c d
unfolding set_first element_place
elements_start s n p a b c d =
    record {
      hops = refl;
      lengths = refl;
      links = refl;
      strides = refl;
      length_hops = refl;
      length_lengths = refl;
      length_links = refl;
      length_strides = refl;
      next = refl;
      bound = omega arith;
    }

pub place_more : (s : List ℕ) (p₀ i : ℕ) → element_place s p₀ (i + 1) ≡ (fourth_at s (element_place s p₀ i)).next
unfolding element_place
place_more s p₀ i = rw (add-one i) refl

module _
    {s : List ℕ} {n p₀ : ℕ} {a₀ b₀ c₀ d₀ : List ℕ} {p i : ℕ} {a b c d : List ℕ} (f : ElementsSoFar s n p₀ a₀ b₀ c₀ d₀ p i a b c d) where
  pub elements_on :
      {q h l k t : ℕ} → i < n
      → h ≡ min (number_at s p).value most_16
      → l ≡ min (second_at s p).value most_8
      → k ≡ min (third_at s p).value most_32
      → t ≡ min (fourth_at s p).value most_8
      → q ≡ (fourth_at s p).next
      → ElementsSoFar s n p₀ a₀ b₀ c₀ d₀ q (i + 1) (set a i h) (set b i l) (set c i k) (set d i t)
  unfolding element_at
  elements_on {q} {h} {l} {k} {t} less eh el ek et eq =
      record {
        hops = set_first_on (λ j. (element_row s p₀ j).hop) i a₀ f.hops (rw f.next at eh);
        lengths = set_first_on (λ j. (element_row s p₀ j).length) i b₀ f.lengths (rw f.next at el);
        links = set_first_on (λ j. (element_row s p₀ j).link) i c₀ f.links (rw f.next at ek);
        strides = set_first_on (λ j. (element_row s p₀ j).stride) i d₀ f.strides (rw f.next at et);
        length_hops = length-set a i h ∙ f.length_hops;
        length_lengths = length-set b i l ∙ f.length_lengths;
        length_links = length-set c i k ∙ f.length_links;
        length_strides = length-set d i t ∙ f.length_strides;
        next = rw f.next at eq ∙ sym (place_more s p₀ i);
        bound = omega arith;
      }
