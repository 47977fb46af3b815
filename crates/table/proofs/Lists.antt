-- Laws of `listed` and `padded`: one place more, the length, and what stands at an index; and of a list that is filled from its start.
use mathlib.Core.Path.{◌≡◌, refl, sym, ap, ◌∙◌}
use mathlib.Core.List.{List, [], ◌∷◌}
use Prim.Native.Nat.{ℕ, zero, suc, ◌+◌, ◌<◌}
use Prim.Dec.{yes, no}
use native.Mathlib.Omega.{arith}
use native.Mathlib.Decide.{dec_lt}
use native.Mathlib.Numerals.{add-one}
use lib.ListN.{length, get_or, take, set, length-append, length-set, get_or-append, get_or-eq_default}
use lib.Seq.{take-suc-set, get_or-append_seam, get_or-set_other, get_or-take, ext_get_or}
use Rattle.table.specs.Lists.{listed, padded, FilledTo}

-- the next place is set
pub listed_more : (f : ℕ → ℕ) (xs : List ℕ) (i v : ℕ) → i < length xs → take i xs ≡ listed f i → v ≡ f i
    → take (i + 1) (set xs i v) ≡ listed f (i + 1)
unfolding listed
listed_more f xs i v h e w = rw (add-one, take-suc-set xs i v h, e, w)

pub listed_length : (f : ℕ → ℕ) (n : ℕ) → length (listed f n) ≡ n
unfolding listed
listed_length f zero = refl
listed_length f (suc n) = length-append (listed f n) (f n ∷ []) ∙ omega (arith, listed_length f n)

pub listed_at : (f : ℕ → ℕ) (n i : ℕ) → i < n → get_or (listed f n) i 0 ≡ f i
unfolding listed
listed_at f zero i h = absurd (omega arith)
listed_at f (suc n) i h =
    elim (dec_lt i n) [
      | yes p ↦ get_or-append (listed f n) (f n ∷ []) 0 i (omega (arith, listed_length f n)) ∙ listed_at f n i p
      | no p ↦
          let e : i ≡ length (listed f n) = omega (arith, listed_length f n) in
          let g : i ≡ n = omega arith in
          rw e (get_or-append_seam (listed f n) (f n) [] 0 ∙ ap f (sym g ∙ e))
    ]

-- lists that agree at every index are one
pub listed_same : (f g : ℕ → ℕ) (n : ℕ) → ((i : ℕ) → i < n → f i ≡ g i) → listed f n ≡ listed g n
unfolding listed
listed_same f g zero h = refl
listed_same f g (suc n) h = rw (listed_same f g n (λ i k. h i (omega arith)), h n (omega arith))

-- ---- a list with room left

pub padded_read : (n : ℕ) (ss : List ℕ) (x : ℕ) → x < n → get_or (padded n ss) x 0 ≡ get_or ss x 0
unfolding padded
padded_read zero ss x h = absurd (omega arith)
padded_read (suc n) [] zero h = refl
padded_read (suc n) [] (suc x) h = padded_read n [] x (omega arith)
padded_read (suc n) (s ∷ ss) zero h = refl
padded_read (suc n) (s ∷ ss) (suc x) h = padded_read n ss x (omega arith)

pub padded_length : (n : ℕ) (ss : List ℕ) → length (padded n ss) ≡ n
unfolding padded
padded_length zero ss = refl
padded_length (suc n) [] = ap suc (padded_length n [])
padded_length (suc n) (s ∷ ss) = ap suc (padded_length n ss)

-- a list of n places that reads as ss does is ss, padded
pub padded_is : (n : ℕ) (list ss : List ℕ) → length list ≡ n → ((x : ℕ) → x < n → get_or list x 0 ≡ get_or ss x 0) → list ≡ padded n ss
padded_is n list ss len e =
    ext_get_or 0 list (padded n ss) (len ∙ sym (padded_length n ss)) (λ x h. e x (omega arith) ∙ sym (padded_read n ss x (omega arith)))

pub blank_length : (n : ℕ) {xs : List ℕ} → xs ≡ padded n [] → length xs ≡ n
blank_length n e = ap length e ∙ padded_length n []

-- ---- a list that is filled from its start

module _ (f : ℕ → ℕ) (old : List ℕ) where
  pub filled_to_none : FilledTo f old old 0
  unfolding listed
  filled_to_none = record { same = refl; start = refl; rest = λ j h. refl }

  pub filled_to_more : (xs : List ℕ) (i : ℕ) {v : ℕ} → i < length xs → v ≡ f i → FilledTo f old xs i → FilledTo f old (set xs i v) (i + 1)
  filled_to_more xs i {v} h e b =
      record {
        same = simp length-set b.same;
        start = listed_more f xs i v h b.start e;
        rest = λ j k. get_or-set_other xs i j v 0 (λ z. omega arith) ∙ b.rest j (omega arith);
      }

  -- a blank list is then what was put in, and 0 after it
  pub filled_to_blank : (m : ℕ) {xs : List ℕ} (n : ℕ) → old ≡ padded m [] → FilledTo f old xs n → xs ≡ padded m (listed f n)
  filled_to_blank m {xs} n e b =
      padded_is m xs (listed f n) (b.same ∙ blank_length m e)
      (λ x h.
      elim (dec_lt x n) [
        | yes l ↦ sym (get_or-take n xs x 0 l) ∙ ap (λ (ys : List ℕ). get_or ys x 0) b.start
        | no l ↦
            b.rest x (omega arith) ∙ ap (λ (ys : List ℕ). get_or ys x 0) e ∙ padded_read m [] x h
            ∙ sym (get_or-eq_default (listed f n) 0 {n = x} (omega (arith, listed_length f n)))
      ])
