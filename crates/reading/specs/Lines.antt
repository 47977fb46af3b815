-- One line of the text (01, "The tablet program"): a key, its value, LF. "Numbers are decimal without leading zeros, at
-- most five digits"; bits and addresses are binary digits. Lines are read in order: each says where the next begins and
-- which number it has, and once a line is bad, so are all after it, and the first bad one's number stays.
use Rattle.std.specs.Prelude.{List, [], ◌∷◌, Bool, true, false, ◌&&◌, cond, ℕ, zero, suc, ◌+◌, ◌-◌, ◌*◌, length, get_or, leb, ltb, eqb}
use Rattle.reading.specs.declared.lines.Digits.{Digits}
use Rattle.choosers.specs.declared.chooser.Kind.{Kind}
use Rattle.choosers.specs.declared.chooser.Kind.TheVariants.{Fixed, Variable}
use Rattle.reading.specs.Limits.{BITS, LF, zero_digit}
use Rattle.reading.specs.Keys.{fixed_key, variable_key}

-- where the reading stands: the next byte and the number of the next line; after a bad line, its number
pub record Spot : Type 0 where
  pub at : ℕ
  pub line : ℕ
  pub good : Bool

-- a line that was read, 0 and 0 for a bad one, and where the reading stands after it
pub record Item : Type 0 where
  pub value : ℕ
  pub count : ℕ
  pub spot : Spot

-- no line was bad so far
abbrev pub spot_at : (at line : ℕ) → Spot
spot_at at line = record { at = at; line = line; good = true }

-- the byte at place p; 0, which no line has, past the end
unfoldable pub byte_at : List ℕ → ℕ → ℕ
byte_at s p = get_or s p 0

-- the bytes of the key stand at p
unfoldable pub key_at : List ℕ → List ℕ → ℕ → Bool
key_at [] s p = true
key_at (c ∷ key) s p = eqb (byte_at s p) c && key_at key s (suc p)

-- the byte c is one of the b digits `0`, `1`, ..
unfoldable pub is_digit : ℕ → ℕ → Bool
is_digit b c = leb zero_digit c && ltb c (zero_digit + b)

-- how many digits of base b stand from p on, `most` at most
unfoldable pub count_at : ℕ → ℕ → List ℕ → ℕ → ℕ
count_at b zero s p = zero
count_at b (suc most) s p = cond (is_digit b (byte_at s p)) (suc (count_at b most s (suc p))) zero

-- the number that n digits from p on spell
unfoldable pub value_at : ℕ → ℕ → List ℕ → ℕ → ℕ
value_at b zero s p = zero
value_at b (suc n) s p = value_at b n s p * b + (byte_at s (p + n) - zero_digit)

unfoldable pub digits_at : ℕ → ℕ → List ℕ → ℕ → Digits
digits_at b most s p = record { value = value_at b (count_at b most s p) s p; count = count_at b most s p }

-- n digits that begin with the byte `first` are one at least, and no leading zero
unfoldable pub unpadded : ℕ → ℕ → Bool
unpadded first n = cond (eqb first zero_digit) (eqb n 1) (ltb 0 n)

-- a bad line: the reading stays there
unfoldable pub bad_line : Spot → Item
bad_line p = record { value = 0; count = 0; spot = record { at = p.at; line = p.line; good = false } }

-- a line whose digits end at place `end`: LF stands there, and no line before was bad
unfoldable pub close : List ℕ → Spot → ℕ → Digits → Item
close s p end d =
    cond (p.good && eqb (byte_at s end) LF)
    (record { value = d.value; count = d.count; spot = record { at = suc end; line = suc p.line; good = true } })
    (bad_line p)

-- a key and a number: decimal, 1 to `digits` digits, no leading zero, at most `most`
unfoldable pub number_line : (digits most : ℕ) → List ℕ → List ℕ → Spot → Item
number_line digits most key s p =
    let q = p.at + length key in
    let d = digits_at 10 digits s q in
    cond (key_at key s p.at && unpadded (byte_at s q) d.count && leb d.value most) (close s p (q + d.count) d) (bad_line p)

-- a key and binary digits, `least` at least
unfoldable pub bits_line : (least : ℕ) → List ℕ → List ℕ → Spot → Item
bits_line least key s p =
    let q = p.at + length key in
    let d = digits_at 2 BITS s q in
    cond (key_at key s p.at && leb least d.count) (close s p (q + d.count) d) (bad_line p)

-- the kind's line: its value is 0 for fst, 1 for vst
unfoldable pub kind_line : List ℕ → Spot → Item
kind_line s p =
    let end = p.at + length fixed_key in
    cond (key_at fixed_key s p.at) (close s p end (record { value = 0; count = 0 }))
    (cond (key_at variable_key s p.at) (close s p end (record { value = 1; count = 0 })) (bad_line p))

-- the kind by the value of its line: 0 is fst, 1 is vst
unfoldable pub kind_named : ℕ → Kind
kind_named zero = Fixed
kind_named (suc n) = Variable
