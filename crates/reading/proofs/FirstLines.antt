-- The lines of a text: their count, the first of them, and texts that are complete lines.
use mathlib.Core.Path.{◌≡◌, refl, sym, ap, ◌∙◌}
use mathlib.Core.List.{List, [], ◌∷◌, ◌++◌}
use mathlib.Core.Bool.{Bool, true, false, cond}
use Prim.Native.Nat.{ℕ, zero, suc, ◌+◌, ◌/◌, ◌%◌, ◌≤◌}
use native.Mathlib.Omega.{arith}
use native.Mathlib.Nat.{zero-add}
use lib.Dec.{eqb, ltb}
use borrow.Author.Tests.{ne_eqb}
use Rattle.choosers.specs.declared.chooser.Kind.{Kind}
use Rattle.choosers.specs.declared.chooser.Kind.TheVariants.{Fixed, Variable}
use Rattle.io.specs.Digits.{last_digits, hex_digit_ascii}
use Rattle.reading.specs.Limits.{LF, zero_digit}
use Rattle.reading.specs.Numerals.{decimal_length, decimal, binary, line_of, bits_line_of}
use Rattle.reading.specs.Keys.{fixed_key, variable_key}
use Rattle.reading.specs.Spelling.{kind_text}
use Rattle.reading.specs.FirstBad.{line_count, first_lines}

pub count_append : (a b : List ℕ) → line_count (a ++ b) ≡ line_count a + line_count b
unfolding line_count
count_append [] b = omega arith
count_append (c ∷ a) b = go (eqb c LF) (count_append a b)
  where
    go : (t : Bool) → line_count (a ++ b) ≡ line_count a + line_count b
        → cond t (suc (line_count (a ++ b))) (line_count (a ++ b)) ≡ cond t (suc (line_count a)) (line_count a) + line_count b
    go true e = omega (arith, e)
    go false e = e

-- what is left after the first m lines
unfoldable pub rest_lines : ℕ → List ℕ → List ℕ
rest_lines zero s = s
rest_lines (suc m) [] = []
rest_lines (suc m) (c ∷ s) = cond (eqb c LF) (rest_lines m s) (rest_lines (suc m) s)

pub first_rest : (m : ℕ) (s : List ℕ) → first_lines m s ++ rest_lines m s ≡ s
unfolding first_lines rest_lines
first_rest zero s = refl
first_rest (suc m) [] = refl
first_rest (suc m) (c ∷ s) = go (eqb c LF) (first_rest m s) (first_rest (suc m) s)
  where
    go : (t : Bool) → first_lines m s ++ rest_lines m s ≡ s → first_lines (suc m) s ++ rest_lines (suc m) s ≡ s
        → (c ∷ cond t (first_lines m s) (first_lines (suc m) s)) ++ cond t (rest_lines m s) (rest_lines (suc m) s) ≡ c ∷ s
    go true p q = ap (λ (l : List ℕ). c ∷ l) p
    go false p q = ap (λ (l : List ℕ). c ∷ l) q

-- m lines, where there are so many
pub first_count : (m : ℕ) (s : List ℕ) → m ≤ line_count s → line_count (first_lines m s) ≡ m
unfolding first_lines line_count
first_count zero s h = refl
first_count (suc m) [] h = absurd (omega arith)
first_count (suc m) (c ∷ s) h = go (eqb c LF) h (first_count m s) (first_count (suc m) s)
  where
    go : (t : Bool) → suc m ≤ cond t (suc (line_count s)) (line_count s) → (m ≤ line_count s → line_count (first_lines m s) ≡ m)
        → (suc m ≤ line_count s → line_count (first_lines (suc m) s) ≡ suc m)
        → cond t (suc (line_count (cond t (first_lines m s) (first_lines (suc m) s)))) (line_count (cond t (first_lines m s) (first_lines (suc m) s))) ≡ suc m
    go true k p q = ap suc (p (omega arith))
    go false k p q = q k

-- they are the same in a longer text
pub first_short : (m : ℕ) (u r : List ℕ) → m ≤ line_count u → first_lines m (u ++ r) ≡ first_lines m u
unfolding first_lines line_count
first_short zero u r h = refl
first_short (suc m) [] r h = absurd (omega arith)
first_short (suc m) (c ∷ u) r h = go (eqb c LF) h (first_short m u r) (first_short (suc m) u r)
  where
    go : (t : Bool) → suc m ≤ cond t (suc (line_count u)) (line_count u) → (m ≤ line_count u → first_lines m (u ++ r) ≡ first_lines m u)
        → (suc m ≤ line_count u → first_lines (suc m) (u ++ r) ≡ first_lines (suc m) u)
        → c ∷ cond t (first_lines m (u ++ r)) (first_lines (suc m) (u ++ r)) ≡ c ∷ cond t (first_lines m u) (first_lines (suc m) u)
    go true k p q = ap (λ (l : List ℕ). c ∷ l) (p (omega arith))
    go false k p q = ap (λ (l : List ℕ). c ∷ l) (q k)

-- and fewer of them are fewer of all
pub first_fewer : (j m : ℕ) (s : List ℕ) → j ≤ m → first_lines j (first_lines m s) ≡ first_lines j s
unfolding first_lines
first_fewer zero m s h = refl
first_fewer (suc j) zero s h = absurd (omega arith)
first_fewer (suc j) (suc m) [] h = refl
first_fewer (suc j) (suc m) (c ∷ s) h = go (eqb c LF) (first_fewer j m s (omega arith)) (first_fewer (suc j) (suc m) s h)
  where
    go : (t : Bool) → first_lines j (first_lines m s) ≡ first_lines j s → first_lines (suc j) (first_lines (suc m) s) ≡ first_lines (suc j) s
        → c ∷ cond t (first_lines j (cond t (first_lines m s) (first_lines (suc m) s))) (first_lines (suc j) (cond t (first_lines m s) (first_lines (suc m) s)))
        ≡ c ∷ cond t (first_lines j s) (first_lines (suc j) s)
    go true p q = ap (λ (l : List ℕ). c ∷ l) p
    go false p q = ap (λ (l : List ℕ). c ∷ l) q

-- ---- texts that are complete lines

abbrev pub Complete : List ℕ → Type 0
Complete a = first_lines (line_count a) a ≡ a

abbrev tail : List ℕ → List ℕ
tail [] = []
tail (c ∷ s) = s

module _ (c : ℕ) (s : List ℕ) where
  count_lf : eqb c LF ≡ true → line_count (c ∷ s) ≡ suc (line_count s)
  unfolding line_count
  count_lf e = rw e

  count_other : eqb c LF ≡ false → line_count (c ∷ s) ≡ line_count s
  unfolding line_count
  count_other e = rw e

  first_lf : (m : ℕ) → eqb c LF ≡ true → first_lines (suc m) (c ∷ s) ≡ c ∷ first_lines m s
  unfolding first_lines
  first_lf m e = rw e

  first_other : (m : ℕ) → eqb c LF ≡ false → first_lines (suc m) (c ∷ s) ≡ c ∷ first_lines (suc m) s
  unfolding first_lines
  first_other m e = rw e

first_none : (s : List ℕ) → first_lines 0 s ≡ []
unfolding first_lines
first_none s = refl

pub complete_then : (a b : List ℕ) (m : ℕ) → Complete a → first_lines (line_count a + m) (a ++ b) ≡ a ++ first_lines m b
unfolding line_count
complete_then [] b m h = ap (λ (k : ℕ). first_lines k b) (zero-add m)
complete_then (c ∷ a) b m h = go (eqb c LF) refl (complete_then a b m)
  where
    other : (k : ℕ) → line_count a ≡ k → eqb c LF ≡ false → (Complete a → first_lines (line_count a + m) (a ++ b) ≡ a ++ first_lines m b)
        → first_lines (line_count (c ∷ a) + m) (c ∷ (a ++ b)) ≡ c ∷ (a ++ first_lines m b)
    other zero f e rec =
        let z : [] ≡ c ∷ a = sym (first_none (c ∷ a)) ∙ ap (λ (i : ℕ). first_lines i (c ∷ a)) (sym (count_other c a e ∙ f)) ∙ h in
        absurd (let z : ◌≡◌ {A = ℕ} 0 1 = cc in omega arith)
    other (suc k) f e rec =
        let n : line_count (c ∷ a) ≡ suc k = count_other c a e ∙ f in
        let w : first_lines (suc k) a ≡ a = ap tail (sym (first_other c a k e) ∙ ap (λ (i : ℕ). first_lines i (c ∷ a)) (sym n) ∙ h) in
        let x : line_count (c ∷ a) + m ≡ suc (k + m) = omega (arith, n) in
        let y : suc (k + m) ≡ line_count a + m = omega (arith, f) in
        ap (λ (i : ℕ). first_lines i (c ∷ (a ++ b))) x
        ∙ first_other c (a ++ b) (k + m) e
        ∙ ap (λ (i : ℕ). c ∷ first_lines i (a ++ b)) y
        ∙ ap (λ (l : List ℕ). c ∷ l) (rec (ap (λ (i : ℕ). first_lines i a) f ∙ w))

    go : (t : Bool) → eqb c LF ≡ t → (Complete a → first_lines (line_count a + m) (a ++ b) ≡ a ++ first_lines m b)
        → first_lines (line_count (c ∷ a) + m) (c ∷ (a ++ b)) ≡ c ∷ (a ++ first_lines m b)
    go true e rec =
        let n = count_lf c a e in
        let w : Complete a = ap tail (sym (first_lf c a (line_count a) e) ∙ ap (λ (i : ℕ). first_lines i (c ∷ a)) (sym n) ∙ h) in
        let x : line_count (c ∷ a) + m ≡ suc (line_count a + m) = omega (arith, n) in
        ap (λ (i : ℕ). first_lines i (c ∷ (a ++ b))) x ∙ first_lf c (a ++ b) (line_count a + m) e ∙ ap (λ (l : List ℕ). c ∷ l) (rec w)
    go false e rec = other (line_count a) refl e rec

-- one complete line
pub record OneLine (x : List ℕ) : Type 0 where
  pub one : line_count x ≡ 1
  pub complete : Complete x

-- bytes without LF, and LF
clean_first : (a : List ℕ) → line_count a ≡ 0 → first_lines 1 (a ++ (LF ∷ [])) ≡ a ++ (LF ∷ [])
unfolding first_lines line_count
clean_first [] h = refl
clean_first (c ∷ a) h = go (eqb c LF) h (clean_first a)
  where
    go : (t : Bool) → cond t (suc (line_count a)) (line_count a) ≡ 0 → (line_count a ≡ 0 → first_lines 1 (a ++ (LF ∷ [])) ≡ a ++ (LF ∷ []))
        → c ∷ cond t (first_lines 0 (a ++ (LF ∷ []))) (first_lines 1 (a ++ (LF ∷ []))) ≡ c ∷ (a ++ (LF ∷ []))
    go true e rec = absurd (omega arith)
    go false e rec = ap (λ (l : List ℕ). c ∷ l) (rec e)

clean_line : (a : List ℕ) → line_count a ≡ 0 → OneLine (a ++ (LF ∷ []))
unfolding line_count
clean_line a h =
    let e : line_count (a ++ (LF ∷ [])) ≡ 1 = count_append a (LF ∷ []) ∙ ap (λ (k : ℕ). k + 1) h in
    record { one = e; complete = rw e (clean_first a h) }

digits_clean : (b n v : ℕ) → line_count (last_digits b n v) ≡ 0
unfolding line_count
digits_clean b zero v = refl
digits_clean b (suc n) v = count_append (last_digits b n (v / b)) (hex_digit_ascii (v % b) ∷ []) ∙ rw (digits_clean b n (v / b), no_lf (v % b))
  where
    no_lf : (d : ℕ) → eqb (hex_digit_ascii d) LF ≡ false
    no_lf d = go (ltb d 10)
      where
        go : (t : Bool) → eqb (cond t (zero_digit + d) (87 + d)) LF ≡ false
        go true = ne_eqb _ _ (λ (z : zero_digit + d ≡ LF). omega arith)
        go false = ne_eqb _ _ (λ (z : 87 + d ≡ LF). omega arith)

module _ (key : List ℕ) (clean : line_count key ≡ 0) where
  keyed : (b n v : ℕ) → OneLine (key ++ last_digits b n v ++ (LF ∷ []))
  keyed b n v = clean_line (key ++ last_digits b n v) (count_append key (last_digits b n v) ∙ rw (clean, digits_clean b n v))

  pub number_line_one : (v : ℕ) → OneLine (line_of key v)
  unfolding line_of decimal
  number_line_one v = keyed 10 (decimal_length v) v

  pub bits_line_one : (v n : ℕ) → OneLine (bits_line_of key v n)
  unfolding bits_line_of binary
  bits_line_one v n = keyed 2 n v

-- the kind's line
pub kind_line_one : (k : Kind) → OneLine (kind_text k)
unfolding kind_text line_count
kind_line_one Fixed = clean_line fixed_key refl
kind_line_one Variable = clean_line variable_key refl
