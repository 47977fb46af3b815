-- The bytes passed before a number, its digits as far as they go, and what they say.
use mathlib.Core.Path.{◌≡◌, refl, ap, subst}
use mathlib.Core.Bool.{Bool, true, false, not}
use mathlib.Core.List.{List, [], ◌∷◌}
use Prim.Native.Nat.{ℕ, suc, ◌+◌}
use native.Mathlib.Numerals.{unary_clauses}
use native.Mathlib.Omega.{arith}
use lib.ListN.{length, drop}
use Rattle.std.specs.List.{fold, prefix_len, take_while}
use Rattle.std.proofs.lemmas.List.Sums.{take_while-cons}
use Rattle.cases.specs.Limits.{first_digit, last_digit}
use Rattle.cases.specs.declared.text.Text.{Text}
use Rattle.cases.specs.Numerals.{Numeral, between, seek_in, more, digits_in, number_at, seek_at}

pub seek_passes : (low high : ℕ) (l : List ℕ) (p : ℕ) → p + prefix_len (λ c. not (between low high c)) l ≡ seek_in low high l p
unfolding seek_in
seek_passes low high [] p = simp unary_clauses
seek_passes low high (c ∷ cs) p = go (between low high c) refl (seek_passes low high cs (suc p))
  where
    go :
        (t : Bool) → between low high c ≡ t
        → suc p + prefix_len (λ d. not (between low high d)) cs ≡ seek_in low high cs (suc p)
        → p + prefix_len (λ d. not (between low high d)) (c ∷ cs) ≡ seek_in low high (c ∷ cs) p
    go true e h = rw e (simp unary_clauses)
    go false e h = rw e (omega (arith, h))

-- a value and its digits from place p on
abbrev digits_of : List ℕ → ℕ → ℕ → Numeral
digits_of d v p = record { value = fold more v d; next = p + length d }

digits_fold : (l : List ℕ) (v p : ℕ) → digits_of (take_while (between first_digit last_digit) l) v p ≡ digits_in l v p
unfolding digits_in
digits_fold [] v p = simp unary_clauses
digits_fold (c ∷ cs) v p = go (between first_digit last_digit c) refl (digits_fold cs (more v c) (suc p))
  where
    go :
        (t : Bool) → between first_digit last_digit c ≡ t
        → digits_of (take_while (between first_digit last_digit) cs) (more v c) (suc p) ≡ digits_in cs (more v c) (suc p)
        → digits_of (take_while (between first_digit last_digit) (c ∷ cs)) v p ≡ digits_in (c ∷ cs) v p
    go true e h =
        let m : p + suc (length (take_while (between first_digit last_digit) cs)) ≡ suc p + length (take_while (between first_digit last_digit) cs) = omega arith in
        rw (take_while-cons (between first_digit last_digit) c cs, e, m) h
    go false e h = rw (take_while-cons (between first_digit last_digit) c cs, e) (simp unary_clauses)

-- a text whose place is that of the next number, and its digits
pub record DigitsAt (s : List ℕ) (p q : ℕ) (d : List ℕ) : Type 0 where
  pub place : q ≡ seek_at first_digit last_digit s p
  pub digits : d ≡ take_while (between first_digit last_digit) (drop q s)

pub digits_there :
    {t u : Text} {d : List ℕ} → u ≡ record t { at = seek_at first_digit last_digit t.bytes.now t.at }
    → d ≡ take_while (between first_digit last_digit) (drop u.at u.bytes.now) → DigitsAt t.bytes.now t.at u.at d
digits_there {t} {u} {d} e f =
    record { place = ap (λ (x : Text). x.at) e; digits = subst (λ (x : List ℕ). d ≡ take_while (between first_digit last_digit) (drop u.at x)) (ap (λ (x : Text). x.bytes.now) e) f }

pub number_whole :
    (s : List ℕ) (p : ℕ) {d : List ℕ} {q v : ℕ} → v ≡ fold more 0 d → DigitsAt s p q d
    → ◌≡◌ {A = Numeral} (record { value = v; next = q + length d }) (number_at s p)
unfolding number_at
number_whole s p {d} {q} {v} ev f = rw (ev, f.digits, f.place) (digits_fold _ _ _)
