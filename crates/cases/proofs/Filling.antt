-- Filling the lent slices row by row: what is still to be written from here is what all the rows write.
use mathlib.Core.Path.{◌≡◌, ◌∙◌}
use mathlib.Core.List.{List}
use Prim.Native.Nat.{ℕ, suc, ◌+◌, ◌-◌, ◌≤◌, ◌<◌, min}
use native.Mathlib.Numerals.{add-one}
use native.Mathlib.Omega.{arith}
use lib.ListN.{length, set, length-set}
use Rattle.cases.specs.Limits.{most_32, most_16, most_8}
use Rattle.cases.specs.Numerals.{number_at}
use Rattle.cases.specs.Triples.{second_at, third_at, put_three, fill, past, Reads}

-- after i of n rows, the next at place p; only the lists' contents changed since the start
pub record RowsRead (s : List ℕ) (n p₀ : ℕ) (a₀ b₀ c₀ : List ℕ) (p i : ℕ) (a b c : List ℕ) : Type 0 where
  pub lists : fill s (n - i) p i (record { first = a; second = b; third = c }) ≡ fill s n p₀ 0 (record { first = a₀; second = b₀; third = c₀ })
  pub next : past s (n - i) p ≡ past s n p₀
  pub bound : i ≤ n
  pub first : length a ≡ length a₀
  pub second : length b ≡ length b₀
  pub third : length c ≡ length c₀

pub rows_read_on :
    {s : List ℕ} {n p₀ : ℕ} {a₀ b₀ c₀ : List ℕ} {p i : ℕ} {a b c : List ℕ} {q u v w : ℕ}
    → RowsRead s n p₀ a₀ b₀ c₀ p i a b c
    → i < n
    → u ≡ min (number_at s p).value most_32
    → v ≡ min (second_at s p).value most_8
    → w ≡ min (third_at s p).value most_16
    → q ≡ (third_at s p).next
    → RowsRead s n p₀ a₀ b₀ c₀ q (i + 1) (set a i u) (set b i v) (set c i w)
unfolding fill past put_three
rows_read_on {s} {n} {p₀} {a₀} {b₀} {c₀} {p} {i} {a} {b} {c} {q} {u} {v} {w} f h eu ev ew eq =
    let m : n - i ≡ suc (n - (i + 1)) = omega arith in record {
      lists = rw (eu, ev, ew, eq, add-one) (rw (m, add-one) at f.lists);
      next = rw eq (rw m at f.next);
      bound = omega arith;
      first = length-set a i u ∙ f.first;
      second = length-set b i v ∙ f.second;
      third = length-set c i w ∙ f.third;
    }

pub rows_read_all :
    {s : List ℕ} {at n : ℕ} {a₀ b₀ c₀ : List ℕ} {p i : ℕ} {a b c : List ℕ}
    → RowsRead s n (number_at s at).next a₀ b₀ c₀ p i a b c
    → n ≤ i
    → n ≡ min (number_at s at).value (min (length a₀) (min (length b₀) (length c₀)))
    → Reads s at a₀ b₀ c₀ a b c p
unfolding fill past
rows_read_all {s} {at} {n} {a₀} {b₀} {c₀} {p} {i} {a} {b} {c} f h d =
    let m : n - i ≡ 0 = omega arith in record {
      count = n;
      fits = d;
      next = rw m at f.next;
      lists = rw m at f.lists;
    }
