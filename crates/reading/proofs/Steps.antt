-- What is known of every line that is read, good or bad: where the reading stands after it, and how large its value is.
use mathlib.Core.Path.{◌≡◌, refl}
use mathlib.Core.List.{List}
use mathlib.Core.Bool.{Bool, true, false, ◌&&◌, cond}
use Prim.Native.Nat.{ℕ, zero, suc, ◌+◌, ◌*◌, ◌^◌, ◌≤◌, ◌<◌}
use native.Mathlib.Omega.{arith}
use native.Mathlib.Nat.{pow-zero, pow-le-pow_right}
use lib.ListN.{length}
use lib.Dec.{leb, eqb, lit<, lit≤}
use Rattle.std.proofs.lemmas.Bool.{and_parts}
use borrow.Author.Tests.{eqb-true, leb-true}
use Rattle.reading.specs.declared.lines.Digits.{Digits}
use Rattle.reading.specs.Limits.{BITS, number_digits, SHORT, kind_bytes, entry_line_bytes, query_line_bytes, LF}
use Rattle.reading.specs.Keys.{fixed_key, variable_key, bits_key, hop_key, address_key}
use Rattle.reading.specs.Lines.{Spot, Item, byte_at, key_at, count_at, digits_at, unpadded, bad_line, close, number_line, bits_line, kind_line}
use Rattle.reading.specs.Entries.{entry_from, address_from, after_entries, after_queries}
use Rattle.reading.proofs.Keys.{byte_inside}
use Rattle.reading.proofs.Digits.{count_most, value_below}

-- from p to q so many lines at most were read, and so many bytes, all of them of the text
pub record Step (s : List ℕ) (p : Spot) (bytes lines : ℕ) (q : Spot) : Type 0 where
  pub within : p.at ≤ length s → q.at ≤ length s
  pub near : q.at ≤ p.at + bytes
  pub next : q.line ≤ p.line + lines

pub step_none : (s : List ℕ) (p : Spot) → Step s p 0 0 p
step_none s p = record { within = λ h. h; near = omega arith; next = omega arith }

pub step_then : {s : List ℕ} {p q r : Spot} {b l b' l' : ℕ} → Step s p b l q → Step s q b' l' r → Step s p (b + b') (l + l') r
step_then f g = record { within = λ h. g.within (f.within h); near = omega (arith, f.near, g.near); next = omega (arith, f.next, g.next) }

pub step_widen : {s : List ℕ} {p q : Spot} {b l b' l' : ℕ} → Step s p b l q → b ≤ b' → l ≤ l' → Step s p b' l' q
step_widen f hb hl = record { within = f.within; near = omega (arith, f.near); next = omega (arith, f.next) }

-- a line of so many bytes at most, with a value and a count of digits of which P holds
pub record Line (s : List ℕ) (p : Spot) (size : ℕ) (P : ℕ → ℕ → Type 0) (l : Item) : Type 0 where
  pub step : Step s p size 1 l.spot
  pub value : P l.value l.count

module _ (s : List ℕ) (p : Spot) (size : ℕ) (P : ℕ → ℕ → Type 0) (none : P 0 0) where
  bad_is : Line s p size P (bad_line p)
  unfolding bad_line
  bad_is = record { step = record { within = λ h. h; near = omega arith; next = omega arith }; value = none }

  close_is : (end : ℕ) (d : Digits) → end < p.at + size → P d.value d.count → Line s p size P (close s p end d)
  unfolding close
  close_is end d h v = go p.good (eqb (byte_at s end) LF) refl
    where
      go : (t u : Bool) → eqb (byte_at s end) LF ≡ u
          → Line s p size P
          (cond (t && u)
          (record { value = d.value; count = d.count; spot = record { at = suc end; line = suc p.line; good = true } })
          (bad_line p))
      go true true e =
          let f : byte_at s end ≡ LF = eqb-true _ _ e in
          record {
            step = record { within = λ w. byte_inside s end (λ z. omega arith); near = omega arith; next = omega arith };
            value = v;
          }
      go true false e = bad_is
      go false u e = bad_is

  -- a line behind a test
  tested_is : (t : Bool) (l : Item) → (t ≡ true → Line s p size P l) → Line s p size P (cond t l (bad_line p))
  tested_is true l h = h refl
  tested_is false l h = bad_is

abbrev pub UpTo : ℕ → ℕ → ℕ → Type 0
UpTo most v n = v ≤ most

abbrev pub Spells : ℕ → ℕ → Type 0
Spells v n = (v < 2 ^ n) × (n ≤ BITS)

spells_none : Spells 0 0
spells_none = (rw pow-zero (lit< tt), lit≤ tt)

module _ (key s : List ℕ) (p : Spot) where
  -- the place after the key, and the digits that stand there
  abbrev here : ℕ
  here = p.at + length key

  abbrev read : ℕ → ℕ → Digits
  read b k = digits_at b k s here

  pub number_is : (k most : ℕ) → Line s p (length key + k + 1) (UpTo most) (number_line k most key s p)
  unfolding number_line digits_at
  number_is k most =
      let size = length key + k + 1 in
      tested_is s p size (UpTo most) (omega arith) (key_at key s p.at && unpadded (byte_at s here) (read 10 k).count && leb (read 10 k).value most)
      (close s p (here + (read 10 k).count) (read 10 k))
      (λ e.
      close_is s p size (UpTo most) (omega arith) (here + (read 10 k).count) (read 10 k) (omega (arith, count_most 10 k s here))
      (leb-true _ _ (and_parts (key_at key s p.at && unpadded (byte_at s here) (read 10 k).count) (leb (read 10 k).value most) e).1))

  pub bits_is : (least : ℕ) → Line s p (length key + BITS + 1) Spells (bits_line least key s p)
  unfolding bits_line digits_at
  bits_is least =
      let size = length key + BITS + 1 in
      tested_is s p size Spells spells_none (key_at key s p.at && leb least (read 2 BITS).count) (close s p (here + (read 2 BITS).count) (read 2 BITS))
      (λ e.
      close_is s p size Spells spells_none (here + (read 2 BITS).count) (read 2 BITS) (omega (arith, count_most 2 BITS s here))
      (value_below 2 BITS (count_at 2 BITS s here) s here (omega arith), count_most 2 BITS s here))

pub kind_is : (s : List ℕ) (p : Spot) → Line s p kind_bytes (UpTo 1) (kind_line s p)
unfolding kind_line
kind_is s p = go (key_at fixed_key s p.at) (key_at variable_key s p.at)
  where
    go : (t u : Bool)
        → Line s p kind_bytes (UpTo 1)
        (cond t (close s p (p.at + length fixed_key) (record { value = 0; count = 0 }))
        (cond u (close s p (p.at + length fixed_key) (record { value = 1; count = 0 })) (bad_line p)))
    go true u = close_is s p kind_bytes (UpTo 1) (lit≤ tt) _ _ (omega arith) (lit≤ tt)
    go false true = close_is s p kind_bytes (UpTo 1) (lit≤ tt) _ _ (omega arith) (lit≤ tt)
    go false false = bad_is s p kind_bytes (UpTo 1) (lit≤ tt)

-- ---- an entry: its two lines

-- bits that spell a number fit a word of BITS bits
pub spells_fits : {v n : ℕ} → Spells v n → v < 2 ^ BITS
spells_fits {v} {n} h = omega (arith, h.0, pow-le-pow_right {n = 2} (lit≤ tt) {i = n} {j = BITS} h.1)

module _ (s : List ℕ) (p : Spot) where
  pub entry_step : Step s p entry_line_bytes 2 (entry_from s p).spot
  unfolding entry_from
  entry_step = step_then (bits_is bits_key s p 0).step (number_is hop_key s (bits_line 0 bits_key s p).spot number_digits SHORT).step

-- ---- where the reading stands after so many entries, and after so many queries

pub entries_step : (s : List ℕ) (p : Spot) (n : ℕ) → Step s p (n * entry_line_bytes) (n * 2) (after_entries s p n)
unfolding after_entries
entries_step s p zero = step_none s p
entries_step s p (suc n) = step_widen (step_then (entries_step s p n) (entry_step s (after_entries s p n))) (omega arith) (omega arith)

pub queries_step : (s : List ℕ) (p : Spot) (n : ℕ) → Step s p (n * query_line_bytes) n (after_queries s p n)
unfolding after_queries address_from
queries_step s p zero = step_none s p
queries_step s p (suc n) =
    step_widen (step_then (queries_step s p n) (bits_is address_key s (after_queries s p n) 1).step) (omega arith) (omega arith)
