-- A rising line: a table that its line makes and does not list, so that 65,536 entries take one short line. The line gives the width, the
-- number of links, how many entries there are, and the length that all of them have. Entry i has the value i * 2^(width - length), held
-- at the largest of 32 bits, and the hop 1 + i mod 65,535.
use Rattle.std.specs.Prelude.{◌≡◌, Bool, List, ℕ, zero, suc, ◌+◌, ◌-◌, ◌*◌, ◌^◌, ◌%◌, min, ltb, length, set}
use Rattle.cases.specs.Limits.{most_32, most_16, most_8, last_hop}
use Rattle.cases.specs.Numerals.{number_at}
use Rattle.cases.specs.Triples.{second_at, third_at, fourth_at}
use Rattle.cases.specs.declared.tables.Held.{Held}

-- the value of entry i where each lies a step above the one before
abbrev pub climb_value : (step i : ℕ) → ℕ
climb_value step i = min (i * step) most_32

abbrev pub climb_hop : ℕ → ℕ
climb_hop i = i % last_hop + 1

-- a list whose first n places hold what f says
unfoldable pub set_first : (ℕ → ℕ) → ℕ → List ℕ → List ℕ
set_first f zero l = l
set_first f (suc n) l = set (set_first f n l) n (f n)

-- n entries of so many bits, written to the start of three lists, as many as the shortest has places
pub record Climbs (n step bits : ℕ) (a b c a' b' c' : List ℕ) : Type 0 where
  pub count : ℕ
  pub fits : count ≡ min n (min (length a) (min (length b) (length c)))
  pub first : a' ≡ set_first (climb_value step) count a
  pub second : b' ≡ set_first (λ i. bits) count b
  pub third : c' ≡ set_first climb_hop count c

pub record Risen (s : List ℕ) (p : ℕ) (a b c a' b' c' : List ℕ) (r : Held) (q : ℕ) : Type 0 where
  pub width : r.width ≡ min (number_at s p).value most_32
  pub links : r.links ≡ min (second_at s p).value most_16
  pub values : r.values ≡ (third_at s p).value
  pub lengths : r.lengths ≡ (third_at s p).value
  pub hops : r.hops ≡ (third_at s p).value
  pub bits : ℕ
  pub held : bits ≡ min (fourth_at s p).value most_8
  pub entries : Climbs r.values (2 ^ (r.width - bits)) bits a b c a' b' c'
  pub at : q ≡ (fourth_at s p).next

-- more entries than room
abbrev pub bad_rising : List ℕ → ℕ → ℕ → Bool
bad_rising s p room = ltb room (third_at s p).value
