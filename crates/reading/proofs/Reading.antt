-- Laws of a line that is read, in the code's own terms: each ends at one return.
use mathlib.Core.Path.{◌≡◌, sym, ◌∙◌}
use mathlib.Core.List.{List}
use mathlib.Core.Bool.{Bool, true, false, not}
use Prim.Native.Nat.{ℕ, ◌+◌, ◌≤◌, ◌<◌}
use native.Mathlib.Numerals.{add-one}
use lib.ListN.{length}
use borrow.Author.Tests.{eq-eqb, ne_eqb, le-leb, lt-leb, not-true, not-false}
use Rattle.reading.specs.declared.lines.Digits.{Digits}
use Rattle.reading.specs.Limits.{BITS, LF}
use Rattle.reading.specs.Lines.{Spot, Item, byte_at, key_at, digits_at, unpadded, bad_line, close, number_line, bits_line, kind_line}
use Rattle.reading.specs.Keys.{fixed_key, variable_key}

-- ---- the end of a line

module _ (s : List ℕ) (p : Spot) (end : ℕ) (d : Digits) where
  module _ (on : not p.good ≡ false) {c : ℕ} (read : c ≡ byte_at s end) where
    pub close_open : (c ≡ LF → ⊥) → bad_line p ≡ close s p end d
    unfolding close
    close_open e = rw (not-false p.good on, sym read, ne_eqb _ _ e)

    pub close_done : c ≡ LF
        → ◌≡◌ {A = Item} (record { value = d.value; count = d.count; spot = record { at = end + 1; line = p.line + 1; good = true } }) (close s p end d)
    unfolding close
    close_done e = rw (not-false p.good on, sym read, eq-eqb _ _ e, add-one end, add-one p.line)

-- ---- a number

module _ (k most : ℕ) (key s : List ℕ) (p : Spot) {t : Bool} (key-read : t ≡ key_at key s p.at) where
  pub number_keyless : not t ≡ true → bad_line p ≡ number_line k most key s p
  unfolding number_line
  number_keyless e = rw (sym key-read ∙ not-true _ e)

  module _ (has : not t ≡ false) {d : Digits} (read : d ≡ digits_at 10 k s (p.at + length key))
      {f : ℕ} (first : f ≡ byte_at s (p.at + length key)) {u : Bool} (test : u ≡ unpadded f d.count) where
    pub number_padded : not u ≡ true → bad_line p ≡ number_line k most key s p
    unfolding number_line
    number_padded e = rw (sym key-read ∙ not-false _ has, sym read, sym first, sym test ∙ not-true _ e)

    pub number_above : not u ≡ false → most < d.value → bad_line p ≡ number_line k most key s p
    unfolding number_line
    number_above e h = rw (sym key-read ∙ not-false _ has, sym read, sym first, sym test ∙ not-false _ e, lt-leb _ _ h)

    pub number_fine : not u ≡ false → d.value ≤ most → close s p (p.at + length key + d.count) d ≡ number_line k most key s p
    unfolding number_line
    number_fine e h = rw (sym key-read ∙ not-false _ has, sym read, sym first, sym test ∙ not-false _ e, le-leb _ _ h)

-- ---- bits

module _ (least : ℕ) (key s : List ℕ) (p : Spot) {t : Bool} (key-read : t ≡ key_at key s p.at) where
  pub bits_keyless : not t ≡ true → bad_line p ≡ bits_line least key s p
  unfolding bits_line
  bits_keyless e = rw (sym key-read ∙ not-true _ e)

  module _ (has : not t ≡ false) {d : Digits} (read : d ≡ digits_at 2 BITS s (p.at + length key)) where
    pub bits_few : d.count < least → bad_line p ≡ bits_line least key s p
    unfolding bits_line
    bits_few h = rw (sym key-read ∙ not-false _ has, sym read, lt-leb _ _ h)

    pub bits_fine : least ≤ d.count → close s p (p.at + length key + d.count) d ≡ bits_line least key s p
    unfolding bits_line
    bits_fine h = rw (sym key-read ∙ not-false _ has, sym read, le-leb _ _ h)

-- ---- the kind

module _ (s : List ℕ) (p : Spot) {t : Bool} (first : t ≡ key_at fixed_key s p.at) where
  pub kind_first : t ≡ true → close s p (p.at + length fixed_key) (record { value = 0; count = 0 }) ≡ kind_line s p
  unfolding kind_line
  kind_first e = rw (sym first ∙ e)

  module _ (no : t ≡ false) {u : Bool} (second : u ≡ key_at variable_key s p.at) where
    pub kind_second : u ≡ true → close s p (p.at + length fixed_key) (record { value = 1; count = 0 }) ≡ kind_line s p
    unfolding kind_line
    kind_second e = rw (sym first ∙ no, sym second ∙ e)

    pub kind_neither : u ≡ false → bad_line p ≡ kind_line s p
    unfolding kind_line
    kind_neither e = rw (sym first ∙ no, sym second ∙ e)
