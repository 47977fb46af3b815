-- The letters at a place are a word that stands there; and a word stands there whose bytes begin the text, where no letter comes next.
use mathlib.Core.Path.{◌≡◌, refl, sym, ap, subst, ◌∙◌}
use mathlib.Core.Bool.{Bool, true, false, true≢false, not, ◌&&◌}
use mathlib.Core.List.{List, [], ◌∷◌}
use Prim.Native.Nat.{ℕ, ◌<◌}
use borrow.Author.Tests.{eq-eqb, ne_eqb, eqb-true}
use lib.Dec.{eqb}
use lib.ListN.{length, take, get_or}
use lib.Pointwise.{pointwise}
use Rattle.std.specs.List.{All, prefix_len, take_while}
use Rattle.std.proofs.lemmas.List.{get_or-take}
use Rattle.std.proofs.lemmas.List.Sums.{prefix_len_passes}
use Rattle.std.proofs.lemmas.List.Folds.{length-prefix_len}
use Rattle.std.proofs.lemmas.List.Sums.{take_while-cons}
use Rattle.cases.specs.Limits.{first_letter, last_letter}
use Rattle.cases.specs.Numerals.{between}
use Rattle.cases.specs.Words.{word_in}

pub letters_stand : (l : List ℕ) → word_in (take_while (between first_letter last_letter) l) l ≡ true
unfolding word_in
letters_stand [] = refl
letters_stand (c ∷ cs) = go (between first_letter last_letter c) refl (letters_stand cs)
  where
    go :
        (t : Bool) → between first_letter last_letter c ≡ t → word_in (take_while (between first_letter last_letter) cs) cs ≡ true
        → word_in (take_while (between first_letter last_letter) (c ∷ cs)) (c ∷ cs) ≡ true
    go true e h = rw (take_while-cons (between first_letter last_letter) c cs, e) (rw (eq-eqb c c refl) h)
    go false e h = rw (take_while-cons (between first_letter last_letter) c cs, e) (rw e refl)

pub letters_all :
    (l : List ℕ) {w : List ℕ} → w ≡ take_while (between first_letter last_letter) l
    → All (λ c. between first_letter last_letter c ≡ true) w
letters_all l {w} e = subst (All (λ c. between first_letter last_letter c ≡ true)) (sym e) (here l)
  where
    here : (xs : List ℕ) → All (λ c. between first_letter last_letter c ≡ true) (take_while (between first_letter last_letter) xs)
    here xs k d b =
        let h : k < prefix_len (between first_letter last_letter) xs = rw (length-prefix_len (between first_letter last_letter) xs) at b in
        rw (get_or-take (prefix_len (between first_letter last_letter) xs) xs k d h) (prefix_len_passes (between first_letter last_letter) xs k d h)

word_stands :
    (word l : List ℕ)
    → (pointwise eqb word (take (length word) l) && not (between first_letter last_letter (get_or l (length word) 0))) ≡ word_in word l
unfolding word_in
word_stands [] [] = refl
word_stands [] (c ∷ cs) = refl
word_stands (w ∷ ws) [] = refl
word_stands (w ∷ ws) (c ∷ cs) = go (eqb w c) refl (word_stands ws cs)
  where
    go :
        (t : Bool) → eqb w c ≡ t
        → (pointwise eqb ws (take (length ws) cs) && not (between first_letter last_letter (get_or cs (length ws) 0))) ≡ word_in ws cs
        → (pointwise eqb (w ∷ ws) (take (length (w ∷ ws)) (c ∷ cs)) && not (between first_letter last_letter (get_or (c ∷ cs) (length (w ∷ ws)) 0)))
        ≡ word_in (w ∷ ws) (c ∷ cs)
    go true e h = rw (e, eq-eqb c w (sym (eqb-true w c e))) h
    go false e h = rw (e, ne_eqb c w (λ (k : c ≡ w). true≢false (sym (eq-eqb w c (sym k)) ∙ e))) refl

module _ (word l : List ℕ) where
  pub word_ends :
      pointwise eqb word (take (length word) l) ≡ true → not (between first_letter last_letter (get_or l (length word) 0)) ≡ word_in word l
  word_ends e = ap (λ (b : Bool). b && not (between first_letter last_letter (get_or l (length word) 0))) (sym e) ∙ word_stands word l

  pub word_other : pointwise eqb word (take (length word) l) ≡ false → false ≡ word_in word l
  word_other e = ap (λ (b : Bool). b && not (between first_letter last_letter (get_or l (length word) 0))) (sym e) ∙ word_stands word l
