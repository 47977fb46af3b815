-- What is written is read back: a key, digits, a line, the entries and the queries, over any text in which they stand.
use mathlib.Core.Path.{◌≡◌, refl, sym, ap, subst, ◌∙◌}
use mathlib.Core.List.{List, [], ◌∷◌, ◌++◌, append_assoc}
use mathlib.Core.Bool.{Bool, true, false, cond}
use Prim.Native.Nat.{ℕ, zero, suc, pred, ◌+◌, ◌-◌, ◌*◌, ◌/◌, ◌%◌, ◌^◌, ◌≤◌, ◌<◌}
use Prim.Dec.{yes, no}
use native.Mathlib.Omega.{arith}
use native.Mathlib.Decide.{dec_le, dec_lt}
use native.Mathlib.Numerals.{add-one}
use native.Mathlib.Nat.{add-zero, pow-suc, pow-zero, pow-le-pow_right, mod-lt, div-add-mod, div-lt_iff_lt-mul, mul_comm}
use lib.ListN.{length, get_or, drop}
use lib.Seq.{get_or-drop, drop-drop, drop-append_seam, append_snoc, ext_get_or}
use lib.Dec.{eqb, ltb, lit<, lit≤}
use borrow.Author.Tests.{lt-ltb, le-ltb, le-leb, eq-eqb, eqb-true}
use Rattle.table.specs.Table.{at}
use Rattle.choosers.specs.declared.chooser.Kind.{Kind}
use Rattle.choosers.specs.declared.chooser.Kind.TheVariants.{Fixed, Variable}
use Rattle.io.specs.Digits.{last_digits, hex_digit_ascii, IsDigitCount}
use Rattle.reading.specs.Limits.{number_digits, NUMBER, SHORT, BITS, LF, zero_digit, decimal_digits}
use Rattle.reading.specs.Keys.{fixed_key, variable_key, bits_key, hop_key, address_key}
use Rattle.reading.specs.Lines.{Spot, Item, byte_at, key_at, is_digit, count_at, value_at, digits_at, unpadded, close, number_line, bits_line, kind_line, kind_named}
use Rattle.table.specs.Lists.{listed}
use Rattle.reading.specs.Entries.{entry_from, address_from, after_entries, after_queries, entry_bits, entry_length, entry_hop, query_address, query_places}
use Rattle.reading.specs.Text.{}
use Rattle.reading.specs.Spelling.{kind_text, entry_text, query_text}
use Rattle.reading.specs.Numerals.{decimal_length_from, decimal_length, decimal, binary, line_of, bits_line_of, joined}
use Rattle.reading.proofs.Digits.{is_digit_lem, value_more, digits_are}
use Rattle.table.proofs.Lists.{listed_length, listed_at}
use Rattle.reading.proofs.Numerals.{length_digits}

-- ---- what is left of the text at a place

first : (s : List ℕ) (p x : ℕ) (rest : List ℕ) → drop p s ≡ x ∷ rest → byte_at s p ≡ x
unfolding byte_at
first s p x rest h = ap (λ (i : ℕ). get_or s i 0) (sym (add-zero p)) ∙ sym (get_or-drop p s 0 0) ∙ ap (λ (l : List ℕ). get_or l 0 0) h

skip : (s : List ℕ) (p : ℕ) (xs rest : List ℕ) → drop p s ≡ xs ++ rest → drop (p + length xs) s ≡ rest
skip s p xs rest h = sym (drop-drop (length xs) p s) ∙ ap (drop (length xs)) h ∙ drop-append_seam xs rest

key_stands : (key s : List ℕ) (p : ℕ) (rest : List ℕ) → drop p s ≡ key ++ rest → key_at key s p ≡ true
unfolding key_at
key_stands [] s p rest h = refl
key_stands (k ∷ key) s p rest h =
    rw (eq-eqb _ _ (first s p k (key ++ rest) h), key_stands key s (suc p) rest (rw add-one at (skip s p (k ∷ []) (key ++ rest) h)))

-- a key stands at a place where it begins what is left
key_moves : (key s : List ℕ) (p i : ℕ) → key_at key s (p + i) ≡ key_at key (drop p s) i
unfolding key_at byte_at
key_moves [] s p i = refl
key_moves (k ∷ key) s p i = let e : suc (p + i) ≡ p + suc i = omega arith in rw (get_or-drop p s i 0, e, key_moves key s p (suc i))

-- ---- digits

-- so many digits are counted, where no other follows
count_all : (b k n : ℕ) (s : List ℕ) (p : ℕ) → n ≤ k → ((j : ℕ) → j < n → is_digit b (byte_at s (p + j)) ≡ true)
    → is_digit b (byte_at s (p + n)) ≡ false → count_at b k s p ≡ n
unfolding count_at
count_all b zero zero s p h d e = refl
count_all b zero (suc n) s p h d e = absurd (omega arith)
count_all b (suc k) zero s p h d e = rw (rw add-zero at e)
count_all b (suc k) (suc n) s p h d e =
    let f : suc p + n ≡ p + suc n = omega arith in
    let t : is_digit b (byte_at s p) ≡ true = rw add-zero at (d 0 (omega arith)) in
    rw (t, count_all b k n s (suc p) (omega arith) (λ j l. let g : suc p + j ≡ p + suc j = omega arith in rw g (d (suc j) (omega arith))) (rw f e))

digit_is : (b d : ℕ) → d < b → is_digit b (zero_digit + d) ≡ true
unfolding is_digit
digit_is b d h = rw (le-leb zero_digit (zero_digit + d) (omega arith), lt-ltb (zero_digit + d) (zero_digit + b) (omega arith))

module _ (b : ℕ) (s : List ℕ) (p : ℕ) (low : 0 < b) (high : b ≤ 10) where
  -- n digits of base b stand at p, and spell v
  record Spell (n v : ℕ) : Type 0 where
    value : value_at b n s p ≡ v
    each : (j : ℕ) → j < n → is_digit b (byte_at s (p + j)) ≡ true

  -- digits that are written are digits that are read, and spell the number
  digits_stand : (n v : ℕ) (rest : List ℕ) → v < b ^ n → drop p s ≡ last_digits b n v ++ rest → Spell n v
  unfolding value_at
  digits_stand zero v rest h w = record { value = (let z : v < 1 = rw pow-zero at h in omega arith); each = λ j l. absurd (omega arith) }
  digits_stand (suc n) v rest h w =
      let few : v % b < b = mod-lt v low in
      let g : hex_digit_ascii (v % b) ≡ zero_digit + v % b = rw (lt-ltb (v % b) 10 (omega arith)) in
      let y = w ∙ append_snoc (last_digits b n (v / b)) (hex_digit_ascii (v % b)) rest in
      let x : byte_at s (p + n) ≡ zero_digit + v % b =
      first s (p + n) _ rest (subst (λ (k : ℕ). drop (p + k) s ≡ hex_digit_ascii (v % b) ∷ rest) (length_digits b n (v / b)) (skip s p (last_digits b n (v / b)) _ y)) ∙ g in
      let rec = digits_stand n (v / b) _ ((div-lt_iff_lt-mul low).1 (rw pow-suc at h)) y in
      record {
        value = rw (rec.value, x) (omega (arith, div-add-mod v b, mul_comm (v / b) b));
        each =
            λ j l.
            elim (dec_le (suc j) n) [
              | yes k ↦ rec.each j k
              | no k ↦ let f : j ≡ n = omega arith in rw (f, x) (digit_is b (v % b) few)
            ];
      }

  -- a first digit 0 leaves what fewer digits would hold
  lead_none : (m : ℕ) → ((j : ℕ) → j < suc m → is_digit b (byte_at s (p + j)) ≡ true) → byte_at s p ≡ zero_digit → value_at b (suc m) s p < b ^ m
  unfolding value_at
  lead_none zero d f = rw (pow-zero, add-zero, f) (omega arith)
  lead_none (suc m) d f =
      let x = is_digit_lem b (byte_at s (p + suc m)) (d (suc m) (omega arith)) in
      subst (λ (k : ℕ). value_at b (suc m) s p * b + (byte_at s (p + suc m) - zero_digit) < b ^ k) (add-one m)
      (value_more b m (value_at b (suc m) s p) (byte_at s (p + suc m) - zero_digit) (lead_none m (λ j l. d j (omega arith)) f) (omega (arith, x.low, x.high)))

  -- the fewest digits that hold a number are plain
  fewest_unpadded : (n v : ℕ) → IsDigitCount b 1 v n → Spell n v → unpadded (byte_at s p) n ≡ true
  unfolding unpadded
  fewest_unpadded zero v f w = absurd (omega arith)
  fewest_unpadded (suc m) v f w = go (eqb (byte_at s p) zero_digit) refl
    where
      go : (t : Bool) → eqb (byte_at s p) zero_digit ≡ t → cond t (eqb (suc m) 1) (ltb 0 (suc m)) ≡ true
      go true e =
          elim (dec_le (suc m) 1) [
            | yes k ↦ eq-eqb (suc m) 1 (omega arith)
            | no k ↦
                let z : suc m - 1 ≡ m = omega arith in
                let a : b ^ m ≤ v = rw z at (f.2 (omega arith)) in
                absurd (omega (arith, lead_none m w.each (eqb-true _ _ e), w.value))
          ]
      go false e = lt-ltb 0 (suc m) (omega arith)

  -- where LF follows, exactly they are read
  digits_read : (k n v : ℕ) → n ≤ k → Spell n v → byte_at s (p + n) ≡ LF → digits_at b k s p ≡ record { value = v; count = n }
  unfolding is_digit
  digits_read k n v h w e =
      digits_are b k s p v n (sym w.value) (count_all b k n s p h w.each (rw e))

-- ---- how many digits a number has

-- the fewest that hold it
length_fewest : (n : ℕ) → n < 10 ^ decimal_digits → IsDigitCount 10 1 n (decimal_length n)
unfolding decimal_length decimal_length_from
length_fewest n h = go (pred decimal_digits) 1 (lit≤ tt) (λ l. absurd (omega arith)) h
  where
    go : (f i : ℕ) → 1 ≤ i → (1 < i → 10 ^ (i - 1) ≤ n) → n < 10 ^ (i + f) → IsDigitCount 10 1 n (decimal_length_from f i n)
    go zero i o l m = (o, rw add-zero at m, l)
    go (suc f) i o l m =
        elim (dec_lt n (10 ^ i)) [
          | yes k ↦ rw (lt-ltb n (10 ^ i) k) (o, k, l)
          | no k ↦
              let z : suc i - 1 ≡ i = omega arith in
              let y : i + suc f ≡ suc i + f = omega arith in
              rw (le-ltb n (10 ^ i) (omega arith)) (go f (suc i) (omega arith) (λ w. rw z (omega arith)) (rw y at m))
        ]

-- no more than hold it
fewest_least : (n m k : ℕ) → IsDigitCount 10 1 n m → 1 ≤ k → n < 10 ^ k → m ≤ k
fewest_least n m k f o h =
    elim (dec_le m k) [
      | yes l ↦ l
      | no l ↦ absurd (omega (arith, f.2 (omega arith), pow-le-pow_right {n = 10} (lit≤ tt) {i = k} {j = m - 1} (omega arith)))
    ]

-- ---- a line

-- at p no line was bad, and these bytes are left
pub record Ahead (s : List ℕ) (p : Spot) (rest : List ℕ) : Type 0 where
  pub on : p.good ≡ true
  pub left : drop p.at s ≡ rest

-- a line was read with value v and n digits, and what was left after it is left
pub record ReadAs (s rest : List ℕ) (v n : ℕ) (l : Item) : Type 0 where
  pub value : l.value ≡ v
  pub count : l.count ≡ n
  pub ahead : Ahead s l.spot rest

close_read : (s : List ℕ) (p : Spot) (end v n : ℕ) (rest : List ℕ) → p.good ≡ true → drop end s ≡ LF ∷ rest
    → ReadAs s rest v n (close s p end (record { value = v; count = n }))
unfolding close
close_read s p end v n rest on h =
    rw (on, eq-eqb _ _ (first s end LF rest h))
    (record { value = refl; count = refl; ahead = record { on = refl; left = rw add-one at (skip s end (LF ∷ []) rest h) } })

module _ (key s : List ℕ) (p : Spot) (rest : List ℕ) where
  abbrev here : ℕ
  here = p.at + length key

  -- a key, digits and LF
  module _ (b n v : ℕ) (low : 0 < b) (high : b ≤ 10) (fits : v < b ^ n) (h : Ahead s p (key ++ last_digits b n v ++ (LF ∷ []) ++ rest)) where
    whole_line : drop p.at s ≡ key ++ (last_digits b n v ++ LF ∷ rest)
    whole_line = h.left ∙ append_snoc (key ++ last_digits b n v) LF rest ∙ append_assoc key (last_digits b n v) (LF ∷ rest)

    line_key : key_at key s p.at ≡ true
    line_key = key_stands key s p.at (last_digits b n v ++ LF ∷ rest) whole_line

    after_key : drop here s ≡ last_digits b n v ++ LF ∷ rest
    after_key = skip s p.at key (last_digits b n v ++ LF ∷ rest) whole_line

    line_digits : Spell b s here low high n v
    line_digits = digits_stand b s here low high n v (LF ∷ rest) fits after_key

    after_digits : drop (here + n) s ≡ LF ∷ rest
    after_digits =
        subst (λ (k : ℕ). drop (here + k) s ≡ LF ∷ rest) (length_digits b n v) (skip s here (last_digits b n v) (LF ∷ rest) after_key)

    line_read : (k : ℕ) → n ≤ k → digits_at b k s here ≡ record { value = v; count = n }
    line_read k few = digits_read b s here low high k n v few line_digits (first s (here + n) LF rest after_digits)

    line_close : ReadAs s rest v n (close s p (here + n) (record { value = v; count = n }))
    line_close = close_read s p (here + n) v n rest h.on after_digits

  -- the line of a number is read as that number
  pub number_read : (most v : ℕ) → most ≤ NUMBER → v ≤ most → Ahead s p (line_of key v ++ rest) → ReadAs s rest v (decimal_length v) (number_line number_digits most key s p)
  unfolding number_line line_of decimal
  number_read most v top few h =
      let n = decimal_length v in
      let w = length_fewest v (omega arith) in
      rw (
        line_key 10 n v (lit< tt) (lit≤ tt) w.1 h,
        line_read 10 n v (lit< tt) (lit≤ tt) w.1 h number_digits (fewest_least v n number_digits w (lit≤ tt) (omega arith)),
        fewest_unpadded 10 s here (lit< tt) (lit≤ tt) n v w (line_digits 10 n v (lit< tt) (lit≤ tt) w.1 h),
        le-leb v most few,
      )
      (line_close 10 n v (lit< tt) (lit≤ tt) w.1 h)

  -- the line of n bits is read as those bits
  pub bits_read : (least v n : ℕ) → least ≤ n → n ≤ BITS → v < 2 ^ n → Ahead s p (bits_line_of key v n ++ rest) → ReadAs s rest v n (bits_line least key s p)
  unfolding bits_line bits_line_of binary
  bits_read least v n o few fits h =
      rw (line_key 2 n v (lit< tt) (lit≤ tt) fits h, line_read 2 n v (lit< tt) (lit≤ tt) fits h BITS few, le-leb least n o)
      (line_close 2 n v (lit< tt) (lit≤ tt) fits h)

not_fixed : (s : List ℕ) (p : ℕ) (rest : List ℕ) → drop p s ≡ variable_key ++ rest → key_at fixed_key s p ≡ false
unfolding key_at byte_at
not_fixed s p rest h =
    ap (key_at fixed_key s) (sym (add-zero p)) ∙ key_moves fixed_key s p 0 ∙ ap (λ (l : List ℕ). key_at fixed_key l 0) h

fixed_read : (s : List ℕ) (p : Spot) (rest : List ℕ) → Ahead s p (kind_text Fixed ++ rest) → ReadAs s rest 0 0 (kind_line s p)
unfolding kind_line kind_text
fixed_read s p rest h =
    rw (key_stands fixed_key s p.at (LF ∷ rest) h.left)
    (close_read s p (p.at + length fixed_key) 0 0 rest h.on (skip s p.at fixed_key (LF ∷ rest) h.left))

variable_read : (s : List ℕ) (p : Spot) (rest : List ℕ) → Ahead s p (kind_text Variable ++ rest) → ReadAs s rest 1 0 (kind_line s p)
unfolding kind_line kind_text
variable_read s p rest h =
    rw (not_fixed s p.at (LF ∷ rest) h.left, key_stands variable_key s p.at (LF ∷ rest) h.left)
    (close_read s p (p.at + length fixed_key) 1 0 rest h.on (skip s p.at variable_key (LF ∷ rest) h.left))

-- the kind's line is read as that kind
pub kind_read : (s : List ℕ) (p : Spot) (rest : List ℕ) (k : Kind) → Ahead s p (kind_text k ++ rest)
    → (kind_named (kind_line s p).value ≡ k) × Ahead s (kind_line s p).spot rest
unfolding kind_named
kind_read s p rest Fixed h = let w = fixed_read s p rest h in (rw w.value, w.ahead)
kind_read s p rest Variable h = let w = variable_read s p rest h in (rw w.value, w.ahead)

-- ---- entries and queries

-- a list by index is the list
pub listed_all : (xs : List ℕ) (n : ℕ) → length xs ≡ n → listed (at xs) n ≡ xs
listed_all xs n e = ext_get_or 0 (listed (at xs) n) xs (listed_length (at xs) n ∙ sym e) (λ i k. listed_at (at xs) n i (omega (arith, listed_length (at xs) n)))

module _ (s : List ℕ) (p : Spot) where
  module _ (vs ls hs : List ℕ) where
    -- n entries were read as those of the lists
    pub record EntriesAs (rest : List ℕ) (n : ℕ) : Type 0 where
      pub bits : listed (entry_bits s p) n ≡ listed (at vs) n
      pub lengths : listed (entry_length s p) n ≡ listed (at ls) n
      pub hops : listed (entry_hop s p) n ≡ listed (at hs) n
      pub ahead : Ahead s (after_entries s p n) rest

    pub entries_read : (n : ℕ) (rest : List ℕ) → ((i : ℕ) → i < n → (at ls i ≤ BITS) × (at vs i < 2 ^ at ls i) × (at hs i ≤ SHORT))
        → Ahead s p (joined (entry_text vs ls hs) n ++ rest) → EntriesAs rest n
    unfolding listed entry_bits entry_length entry_hop after_entries entry_from entry_text joined
    entries_read zero rest sound h = record { bits = refl; lengths = refl; hops = refl; ahead = h }
    entries_read (suc n) rest sound h =
        let x = sound n (omega arith) in
        let q = after_entries s p n in
        let hop-line = line_of hop_key (at hs n) in
        let bits-line = bits_line_of bits_key (at vs n) (at ls n) in
        let e : drop p.at s ≡ joined (entry_text vs ls hs) n ++ (bits-line ++ (hop-line ++ rest)) =
        h.left ∙ append_assoc (joined (entry_text vs ls hs) n) (bits-line ++ hop-line) rest
        ∙ ap (λ (l : List ℕ). joined (entry_text vs ls hs) n ++ l) (append_assoc bits-line hop-line rest) in
        let w = entries_read n (bits-line ++ (hop-line ++ rest)) (λ i k. sound i (omega arith)) (record { on = h.on; left = e }) in
        let b = bits_read bits_key s q (hop-line ++ rest) 0 (at vs n) (at ls n) (omega arith) x.0 x.1 w.ahead in
        let c =
        number_read hop_key s (bits_line 0 bits_key s q).spot rest SHORT (at hs n) (lit≤ tt) x.2 b.ahead in
        record {
          bits = rw (w.bits, b.value);
          lengths = rw (w.lengths, b.count);
          hops = rw (w.hops, c.value);
          ahead = c.ahead;
        }

  module _ (xs ds : List ℕ) where
    -- n queries were read as those of the lists
    pub record QueriesAs (rest : List ℕ) (n : ℕ) : Type 0 where
      pub addresses : listed (query_address s p) n ≡ listed (at xs) n
      pub places : listed (query_places s p) n ≡ listed (at ds) n
      pub ahead : Ahead s (after_queries s p n) rest

    pub queries_read : (n : ℕ) (rest : List ℕ) → ((i : ℕ) → i < n → (1 ≤ at ds i) × (at ds i ≤ BITS) × (at xs i < 2 ^ at ds i))
        → Ahead s p (joined (query_text xs ds) n ++ rest) → QueriesAs rest n
    unfolding listed query_address query_places after_queries address_from query_text joined
    queries_read zero rest sound h = record { addresses = refl; places = refl; ahead = h }
    queries_read (suc n) rest sound h =
        let x = sound n (omega arith) in
        let line = bits_line_of address_key (at xs n) (at ds n) in
        let e = h.left ∙ append_assoc (joined (query_text xs ds) n) line rest in
        let w = queries_read n (line ++ rest) (λ i k. sound i (omega arith)) (record { on = h.on; left = e }) in
        let b = bits_read address_key s (after_queries s p n) rest 1 (at xs n) (at ds n) x.0 x.1 x.2 w.ahead in
        record { addresses = rw (w.addresses, b.value); places = rw (w.places, b.count); ahead = b.ahead }
