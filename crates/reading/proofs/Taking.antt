-- What a call of the reader answers, from what the line is.
use Rattle.std.proofs.Common.{Bor, ◌≡◌, ℕ, List, Bool, true, false, ◌&&◌, refl, subst, ◌∙◌, Result, Ok, Err, if◌then◌else◌, suc, sym, IfOk, ◌<◌, ◌^◌, le_refl}
use Rattle.std.proofs.lemmas.Bool.{false≢true}
use Rattle.reading.proofs.Digits.{value_below}
use lib.Dec.{eqb}
use Rattle.reading.specs.declared.lines.BadLine.{BadLine}
use Rattle.reading.specs.declared.lines.Digits.{Digits}
use Rattle.reading.specs.Limits.{LF}
use Rattle.reading.specs.Lines.{Spot, Item, spot_at, byte_at, count_at, digits_at, bad_line, close}
use Rattle.reading.specs.Taking.{Took, bad_at}

-- a good line
pub took_good : {A : Type 0} {l : Item} (d : Digits) {a n : ℕ} (v : A)
    → ◌≡◌ {A = Item} (record { value = d.value; count = d.count; spot = record { at = a; line = n; good = true } }) l → Took l (λ (_ : Item). v) (Ok v) (spot_at a n)
took_good {A} {l} d {a} {n} v w = subst (λ m. Took m (λ (_ : Item). v) (Ok v) (spot_at a n)) w (record { said = (refl, refl, refl) })

-- a bad line
pub took_bad : {A : Type 0} {l : Item} (p : Spot) {f : Item → A} {b : BadLine} {q : Spot} → b ≡ bad_at p.line → bad_line p ≡ l → Took l f (Err b) q
unfolding bad_line
took_bad {A} {l} p {f} {b} {q} e w = subst (λ m. Took m f (Err b) q) w (record { said = (refl, e) })

-- a line whose digits are these, and whose value f reads of them
pub took_close : {A : Type 0} (f : Item → A) (s : List ℕ) (p : Spot) (end : ℕ) (d : Digits) (v : A) (r : Result A BadLine) {q : Spot} {m : Item}
    → ((z : Spot) → v ≡ f (record { value = d.value; count = d.count; spot = z }))
    → close s p end d ≡ m → Took (close s p end d) (λ (_ : Item). v) r q → Took m f r q
unfolding close bad_line
took_close {A} f s p end d v r {q} {m} same e t = subst (λ m. Took m f r q) e (go (p.good && eqb (byte_at s end) LF) r t)
  where
    line : Bool → Item
    line b = if b then (record { value = d.value; count = d.count; spot = record { at = suc end; line = suc p.line; good = true } }) else bad_line p

    go : (b : Bool) (r : Result A BadLine) → Took (line b) (λ (_ : Item). v) r q → Took (line b) f r q
    go true (Ok w) t = record { said = (t.said.0, t.said.1 ∙ same _, t.said.2) }
    go true (Err b) t = record { said = t.said }
    go false (Ok w) t = absurd (false≢true t.said.0)
    go false (Err b) t = record { said = t.said }

-- a line of the text s, read at p: what stands at hand is the same text, and the same place
pub took_at : {A : Type 0} (line : List ℕ → Spot → Item) {f : Item → A} {t s : Bor (List ℕ)} {q p : Spot} {r : Result A BadLine} {after : Spot}
    → t ≡ s → q ≡ p → Took (line t.now q) f r after → Took (line s.now p) f r after
took_at line {f} {s = s} {q = q} {r = r} {after = after} e w h =
    subst (λ (x : Spot). Took (line s.now x) f r after) w (subst (λ (x : Bor (List ℕ)). Took (line x.now q) f r after) e h)

-- what holds of the value that was passed on holds of the answer
pub fits_of : (P : Digits → Type 0) (v : Digits) (r : Result Digits BadLine) → IfOk r (λ w. w ≡ v) → P v → IfOk r P
fits_of P v (Ok w) e h = subst P (sym e) h
fits_of P v (Err b) e h = tt

pub digits_small : (b most : ℕ) (s : List ℕ) (p : ℕ) {d : Digits} → d ≡ digits_at b most s p → d.value < b ^ d.count
unfolding digits_at
digits_small b most s p {d} read = rw read (value_below b most (count_at b most s p) s p (le_refl _))
