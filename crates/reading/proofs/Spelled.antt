-- Every good line that is read is the line that would be written.
use mathlib.Core.Path.{◌≡◌, refl, sym, ap, subst, ◌∙◌}
use mathlib.Core.List.{List, [], ◌∷◌, ◌++◌}
use mathlib.Core.Bool.{Bool, true, false, ◌&&◌, cond}
use Prim.Native.Nat.{ℕ, zero, suc, ◌+◌, ◌-◌, ◌*◌, ◌/◌, ◌%◌, ◌^◌, ◌≤◌, ◌<◌}
use native.Mathlib.Omega.{arith}
use Prim.Dec.{yes, no}
use native.Mathlib.Decide.{dec_lt}
use native.Mathlib.Numerals.{add-one}
use native.Mathlib.Nat.{add-mul-div_right, add-mul-mod_self_right, div-eq_of_lt, mod-eq_of_lt, add_comm, add-zero, pow-suc, pow-zero, mul-le-mul_right}
use lib.ListN.{length, take, drop, length-append}
use lib.Seq.{take-add, drop-drop, drop-cons}
use lib.Dec.{eqb, leb, ltb, lit<, lit≤}
use Rattle.std.proofs.lemmas.Bool.{and_parts}
use borrow.Author.Tests.{lt-ltb, eqb-true, eqb-false, ltb-true}
use Rattle.io.specs.Digits.{last_digits, IsDigitCount}
use Rattle.reading.specs.declared.lines.Digits.{Digits}
use Rattle.reading.specs.Limits.{BITS, LF, zero_digit, decimal_digits}
use Rattle.reading.specs.Keys.{fixed_key, variable_key}
use Rattle.reading.specs.Lines.{Spot, Item, byte_at, key_at, count_at, value_at, digits_at, unpadded, bad_line, close, number_line, bits_line, kind_line, kind_named}
use Rattle.reading.specs.Spelling.{kind_text}
use Rattle.reading.specs.Numerals.{decimal, binary, line_of, bits_line_of}
use Rattle.reading.proofs.Keys.{byte_inside}
use Rattle.reading.proofs.Digits.{is_digit_lem, counted, value_below, count_most}
use Rattle.reading.proofs.Numerals.{fewest_decimal, length_digits}

-- ---- bytes that stand in the text

-- the bytes stand at place p
abbrev pub StandAt : List ℕ → ℕ → List ℕ → Type 0
StandAt s p bytes = take (length bytes) (drop p s) ≡ bytes

pub stand_then : (s : List ℕ) (p : ℕ) (xs ys : List ℕ) → StandAt s p xs → StandAt s (p + length xs) ys → StandAt s p (xs ++ ys)
stand_then s p xs ys a b = rw (length-append xs ys, take-add (length xs) (length ys) (drop p s), a, drop-drop (length xs) p s, b)

stand_byte : (s : List ℕ) (p : ℕ) → p < length s → StandAt s p (byte_at s p ∷ [])
unfolding byte_at
stand_byte s p h = rw (drop-cons s p 0 h)

stand_key : (key s : List ℕ) (p : ℕ) → p + length key ≤ length s → key_at key s p ≡ true → StandAt s p key
unfolding key_at
stand_key [] s p h e = refl
stand_key (k ∷ key) s p h e =
    let w = and_parts (eqb (byte_at s p) k) (key_at key s (suc p)) e in
    let f : byte_at s p ≡ k = eqb-true _ _ w.0 in
    stand_then s p (k ∷ []) key (rw f at (stand_byte s p (omega arith))) (rw (sym (add-one p)) at (stand_key key s (suc p) (omega arith) w.1))

-- one digit more, as it is written
digits_more : (b n v d : ℕ) → 0 < b → d < b → d < 10 → last_digits b (suc n) (v * b + d) ≡ last_digits b n v ++ ((zero_digit + d) ∷ [])
digits_more b n v d hb hd ht =
    let q : (v * b + d) / b ≡ v =
    ap (λ (x : ℕ). x / b) (add_comm (v * b) d) ∙ add-mul-div_right d v hb ∙ ap (λ (x : ℕ). x + v) (div-eq_of_lt hd) ∙ omega arith in
    let r : (v * b + d) % b ≡ d = ap (λ (x : ℕ). x % b) (add_comm (v * b) d) ∙ add-mul-mod_self_right d v b ∙ mod-eq_of_lt hd in
    rw (q, r, lt-ltb d 10 ht)

module _ (b k : ℕ) (s : List ℕ) (p : ℕ) (low : 0 < b) (high : b ≤ 10) where
  -- digits that are counted are those of the number that they spell
  pub stand_digits : (n : ℕ) → n ≤ count_at b k s p → StandAt s p (last_digits b n (value_at b n s p))
  unfolding value_at
  stand_digits zero h = refl
  stand_digits (suc n) h =
      let c = byte_at s (p + n) in
      let x = is_digit_lem b c (counted b k s p n (omega arith)) in
      let g : zero_digit + (c - zero_digit) ≡ c = omega (arith, x.low) in
      let i : p + n < length s = byte_inside s (p + n) (λ z. omega (arith, x.low)) in
      let v = value_at b n s p in
      rw (digits_more b n v (c - zero_digit) low (omega (arith, x.low, x.high)) (omega (arith, x.low, x.high)), g)
      (stand_then s p (last_digits b n v) (c ∷ []) (stand_digits n (omega arith)) (rw (length_digits b n v) (stand_byte s (p + n) i)))

  -- a first digit that is not 0 counts in full
  lead : (m : ℕ) → suc m ≤ count_at b k s p → zero_digit < byte_at s p → b ^ m ≤ value_at b (suc m) s p
  unfolding value_at
  lead zero h f = rw (pow-zero, add-zero) (omega arith)
  lead (suc m) h f = rw pow-suc (omega (arith, mul-le-mul_right b (lead m (omega arith) f)))

  -- where it is plain, no fewer digits would hold it
  unpadded_fewest : unpadded (byte_at s p) (count_at b k s p) ≡ true → IsDigitCount b 1 (value_at b (count_at b k s p) s p) (count_at b k s p)
  unfolding unpadded
  unpadded_fewest e = go (eqb (byte_at s p) zero_digit) refl (count_at b k s p) refl e
    where
      go : (t : Bool) → eqb (byte_at s p) zero_digit ≡ t → (n : ℕ) → count_at b k s p ≡ n → cond t (eqb n 1) (ltb 0 n) ≡ true → IsDigitCount b 1 (value_at b n s p) n
      go true f n g h =
          let one : n ≡ 1 = eqb-true _ _ h in
          (omega arith, value_below b k n s p (omega arith), λ l. absurd (omega arith))
      go false f zero g h = absurd (let w = ltb-true 0 0 h in omega arith)
      go false f (suc m) g h =
          let x = is_digit_lem b (byte_at s p) (rw add-zero at (counted b k s p 0 (omega arith))) in
          let y : byte_at s p ≡ zero_digit → ⊥ = eqb-false _ _ f in (
            omega arith,
            value_below b k (suc m) s p (omega arith),
            λ l. let z : suc m - 1 ≡ m = omega arith in rw z (lead m (omega arith) (elim (dec_lt zero_digit (byte_at s p)) [ yes q ↦ q | no q ↦ absurd (y (omega (arith, x.low))) ])),
          )

-- ---- a line

-- from p on the bytes stand in the text, no line before was bad, and q is the place after them
pub record Stretch (s : List ℕ) (p q : Spot) (bytes : List ℕ) : Type 0 where
  pub good : p.good ≡ true
  pub stand : StandAt s p.at bytes
  pub ends : q.at ≡ p.at + length bytes

module _ (s : List ℕ) (p : Spot) (R : Item → Type 0) where
  -- a line behind a test
  pub tested_good : (t : Bool) (l : Item) → (t ≡ true → l.spot.good ≡ true → R l) → (cond t l (bad_line p)).spot.good ≡ true → R (cond t l (bad_line p))
  unfolding bad_line
  tested_good true l h e = h refl e
  tested_good false l h e = absurd (let z : ◌≡◌ {A = ℕ} 0 1 = cc in omega arith)

  -- and its end
  pub close_good : (end : ℕ) (d : Digits)
      → (p.good ≡ true → byte_at s end ≡ LF → R (record { value = d.value; count = d.count; spot = record { at = suc end; line = suc p.line; good = true } }))
      → (close s p end d).spot.good ≡ true → R (close s p end d)
  unfolding close
  close_good end d h e =
      tested_good (p.good && eqb (byte_at s end) LF) _ (λ t g. let w = and_parts p.good (eqb (byte_at s end) LF) t in h w.0 (eqb-true _ _ w.1)) e

module _ (key s : List ℕ) (p : Spot) where
  -- the place after the key
  abbrev here : ℕ
  here = p.at + length key

  -- a key, the digits that stand after it, and LF
  line_stretch : (b k line : ℕ) → 0 < b → b ≤ 10 → key_at key s p.at ≡ true → p.good ≡ true → byte_at s (here + count_at b k s here) ≡ LF
      → Stretch s p (record { at = suc (here + count_at b k s here); line = line; good = true })
      (key ++ last_digits b (count_at b k s here) (value_at b (count_at b k s here) s here) ++ (LF ∷ []))
  line_stretch b k line low high has on lf =
      let n = count_at b k s here in
      let ds = last_digits b n (value_at b n s here) in
      let inside : here + n < length s = byte_inside s (here + n) (λ z. omega arith) in
      let count : length (key ++ ds) ≡ length key + n = length-append key ds ∙ ap (λ (x : ℕ). length key + x) (length_digits b n (value_at b n s here)) in
      let end : p.at + length (key ++ ds) ≡ here + n = omega arith in
      let last : StandAt s (here + n) (LF ∷ []) = rw lf at (stand_byte s (here + n) inside) in
      record {
        good = on;
        stand =
            stand_then s p.at (key ++ ds) (LF ∷ [])
            (stand_then s p.at key ds (stand_key key s p.at (omega arith) has) (stand_digits b k s here low high n (omega arith)))
            (subst (λ (x : ℕ). StandAt s x (LF ∷ [])) (sym end) last);
        ends = omega (arith, length-append (key ++ ds) (LF ∷ []));
      }

  -- a good number line is the line of its number
  pub number_spelled : (k most : ℕ) → k ≤ decimal_digits → (number_line k most key s p).spot.good ≡ true
      → Stretch s p (number_line k most key s p).spot (line_of key (number_line k most key s p).value)
  unfolding number_line digits_at line_of
  number_spelled k most few e =
      tested_good s p R
      (key_at key s p.at && unpadded (byte_at s here) (count_at 10 k s here) && leb (value_at 10 (count_at 10 k s here) s here) most)
      (close s p (here + count_at 10 k s here) (digits_at 10 k s here))
      (λ t g.
      let w = and_parts (key_at key s p.at && unpadded (byte_at s here) (count_at 10 k s here)) (leb (value_at 10 (count_at 10 k s here) s here) most) t in
      let v = and_parts (key_at key s p.at) (unpadded (byte_at s here) (count_at 10 k s here)) w.0 in
      close_good s p R (here + count_at 10 k s here) (digits_at 10 k s here)
      (λ pg lf.
      rw (sym
      (fewest_decimal (value_at 10 (count_at 10 k s here) s here) (count_at 10 k s here)
      (unpadded_fewest 10 k s here (lit< tt) (lit≤ tt) v.1) (omega (arith, count_most 10 k s here))))
      (line_stretch 10 k (suc p.line) (lit< tt) (lit≤ tt) v.0 pg lf))
      g)
      e
    where
      R : Item → Type 0
      R l = Stretch s p l.spot (key ++ decimal l.value ++ (LF ∷ []))

  -- a good line of bits is the line of its bits
  pub bits_spelled : (least : ℕ) → (bits_line least key s p).spot.good ≡ true
      → Stretch s p (bits_line least key s p).spot (bits_line_of key (bits_line least key s p).value (bits_line least key s p).count)
  unfolding bits_line digits_at bits_line_of binary
  bits_spelled least e =
      tested_good s p R (key_at key s p.at && leb least (count_at 2 BITS s here)) (close s p (here + count_at 2 BITS s here) (digits_at 2 BITS s here))
      (λ t g.
      let w = and_parts (key_at key s p.at) (leb least (count_at 2 BITS s here)) t in
      close_good s p R (here + count_at 2 BITS s here) (digits_at 2 BITS s here)
      (λ pg lf. line_stretch 2 BITS (suc p.line) (lit< tt) (lit≤ tt) w.0 pg lf) g)
      e
    where
      R : Item → Type 0
      R l = Stretch s p l.spot (key ++ binary l.count l.value ++ (LF ∷ []))

pub kind_spelled : (s : List ℕ) (p : Spot) → (kind_line s p).spot.good ≡ true → Stretch s p (kind_line s p).spot (kind_text (kind_named (kind_line s p).value))
unfolding kind_line kind_text kind_named
kind_spelled s p e = go (key_at fixed_key s p.at) (key_at variable_key s p.at) refl refl e
  where
    R : Item → Type 0
    R l = Stretch s p l.spot (kind_text (kind_named l.value))

    -- a key as long as the first, and LF
    keyed : (key : List ℕ) → length key ≡ length fixed_key → key_at key s p.at ≡ true → p.good ≡ true → byte_at s (p.at + length fixed_key) ≡ LF
        → Stretch s p (record { at = suc (p.at + length fixed_key); line = suc p.line; good = true }) (key ++ (LF ∷ []))
    keyed key size has on lf =
        let inside : p.at + length fixed_key < length s = byte_inside s (p.at + length fixed_key) (λ z. omega arith) in
        let last : StandAt s (p.at + length fixed_key) (LF ∷ []) = rw lf at (stand_byte s (p.at + length fixed_key) inside) in
        record {
          good = on;
          stand =
              stand_then s p.at key (LF ∷ []) (stand_key key s p.at (omega arith) has)
              (subst (λ (x : ℕ). StandAt s (p.at + x) (LF ∷ [])) (sym size) last);
          ends = omega (arith, length-append key (LF ∷ []));
        }

    go : (t u : Bool) → key_at fixed_key s p.at ≡ t → key_at variable_key s p.at ≡ u
        → (cond t (close s p (p.at + length fixed_key) (record { value = 0; count = 0 })) (cond u (close s p (p.at + length fixed_key) (record { value = 1; count = 0 })) (bad_line p))).spot.good ≡ true
        → R (cond t (close s p (p.at + length fixed_key) (record { value = 0; count = 0 })) (cond u (close s p (p.at + length fixed_key) (record { value = 1; count = 0 })) (bad_line p)))
    go true u f g h = close_good s p R (p.at + length fixed_key) (record { value = 0; count = 0 }) (λ pg lf. keyed fixed_key refl f pg lf) h
    go false u f g h =
        tested_good s p R u (close s p (p.at + length fixed_key) (record { value = 1; count = 0 }))
        (λ t i. close_good s p R (p.at + length fixed_key) (record { value = 1; count = 0 }) (λ pg lf. keyed variable_key refl (g ∙ t) pg lf) i) h
