-- What the call that reads a text hands back has its meaning, and the meaning leaves one answer. For the crates above: whether a text is
-- good, and the sheet that it says, can be read from the contents.
use mathlib.Core.Path.{◌≡◌, refl, sym, ap, subst, ◌∙◌}
use mathlib.Core.List.{List}
use mathlib.Core.Bool.{Bool, true, false, ◌&&◌, cond}
use mathlib.Core.Logic.{inl, inr}
use Prim.Native.Nat.{ℕ, ◌+◌, ◌≤◌}
use native.Mathlib.Omega.{arith}
use lib.ListN.{length, take}
use lib.Dec.{eqb}
use lib.Seq.{length-take-le, get_or-take, ext_get_or}
use Rattle.table.specs.Lists.{padded}
use Rattle.table.proofs.Lists.{padded_read, padded_length}
use Rattle.std.specs.Prelude.{Result, Ok, Err, IfErr}
use Rattle.reading.specs.declared.lines.BadLine.{BadLine}
use Rattle.reading.specs.declared.parsing.Contents.{Contents}
use Rattle.reading.specs.Limits.{COUNT, LINES}
use Rattle.reading.specs.Sheet.{Sheet}
use Rattle.reading.specs.Spelling.{Sound}
use Rattle.reading.specs.Taking.{bad_at}
use Rattle.reading.specs.Contents.{sheet_contents, TextHolds, sheet_in, GoodContents}
use Rattle.reading.specs.Text.{Text, good, bad, last_spot, sheet_of, text_of, contents_of}
use Rattle.reading.proofs.Whole.{to_last}
use Rattle.reading.proofs.Sound.{sheet_of_text}
use Rattle.reading.proofs.Following.{good_is_sound, good_is_spelled}
use Rattle.reading.proofs.FirstBad.{first_bad_unique, bad_is_first}

text_holds : (s : List ℕ) → TextHolds s (contents_of (text_of s))
unfolding contents_of
text_holds s = go (text_of s) refl
  where
    go : (t : Text) → text_of s ≡ t → TextHolds s (contents_of t)
    go (good sh) e = inl (sh, good_is_sound s sh e, good_is_spelled s sh e, refl)
    go (bad line) e = inr (line, bad_is_first s line e, refl)

-- a bad line is one of the lines that a good text can have, or the line after the last
bad_few : (s : List ℕ) → IfErr (contents_of (text_of s)) (λ b. b.line ≤ LINES + 1)
unfolding contents_of text_of
bad_few s = go ((last_spot s).good && eqb (last_spot s).at (length s))
  where
    go : (t : Bool) → IfErr (contents_of (cond t (good (sheet_of s)) (bad (last_spot s).line))) (λ b. b.line ≤ LINES + 1)
    go true = tt
    go false = omega (arith, (to_last s).next)

pub bad_line_few : (s : List ℕ) {r : Result Contents BadLine} → r ≡ contents_of (text_of s) → IfErr r (λ b. b.line ≤ LINES + 1)
bad_line_few s e = subst (λ (r : Result Contents BadLine). IfErr r (λ b. b.line ≤ LINES + 1)) (sym e) (bad_few s)

-- one answer
pub contents_unique : {s : List ℕ} {r r' : Result Contents BadLine} → TextHolds s r → TextHolds s r' → r ≡ r'
contents_unique (inl a) (inl b) = a.3 ∙ ap (λ (sh : Sheet). Ok (sheet_contents sh)) (sheet_of_text a.1 b.1 (sym a.2 ∙ b.2)) ∙ sym b.3
contents_unique (inl a) (inr b) = absurd (b.1.no_sheet a.0 a.1 a.2)
contents_unique (inr a) (inl b) = absurd (a.1.no_sheet b.0 b.1 b.2)
contents_unique (inr a) (inr b) = a.2 ∙ ap (λ (n : ℕ). Err (bad_at n)) (first_bad_unique a.1 b.1) ∙ sym b.2

pub is_held : {s : List ℕ} {r : Result Contents BadLine} → r ≡ contents_of (text_of s) → TextHolds s r
is_held {s} e = subst (TextHolds s) (sym e) (text_holds s)

-- ---- for the callers: r is what the call handed back

padded_start : (xs : List ℕ) (n : ℕ) → n ≤ COUNT → length xs ≡ n → take n (padded COUNT xs) ≡ xs
padded_start xs n h e =
    let l : length (take n (padded COUNT xs)) ≡ n = length-take-le n (padded COUNT xs) (omega (arith, padded_length COUNT xs)) in
    ext_get_or 0 (take n (padded COUNT xs)) xs (l ∙ sym e) (λ i k. get_or-take n (padded COUNT xs) i 0 (omega arith) ∙ padded_read COUNT xs i (omega arith))

sheet_in_lem : (sh : Sheet) → Sound sh → sheet_in (sheet_contents sh) ≡ sh
unfolding sheet_in sheet_contents
sheet_in_lem sh sound =
    let n = length sh.bits in
    let m = length sh.addresses in
    rw (
      padded_start sh.bits n sound.entries_few refl,
      padded_start sh.lengths n sound.entries_few sound.as_many_lengths,
      padded_start sh.hops n sound.entries_few sound.as_many_hops,
      padded_start sh.addresses m sound.queries_few refl,
      padded_start sh.places m sound.queries_few sound.as_many_places,
    )

module _ (s : List ℕ) where
  pub contents_bad : {b : BadLine} → Err b ≡ contents_of (text_of s) → text_of s ≡ bad b.line
  unfolding contents_of
  contents_bad {b} read = go (text_of s) refl
    where
      go : (t : Text) → text_of s ≡ t → text_of s ≡ bad b.line
      go (good sh) e = absurd (let z : ◌≡◌ {A = Result Contents BadLine} (Err b) (Ok (sheet_contents sh)) = read ∙ ap contents_of e in let y : ◌≡◌ {A = ℕ} 0 1 = cc in omega arith)
      go (bad line) e =
          let z : ◌≡◌ {A = Result Contents BadLine} (Err b) (Err (bad_at line)) = read ∙ ap contents_of e in
          let y : b ≡ bad_at line = cc in
          e ∙ ap bad (sym (ap (λ (x : BadLine). x.line) y))

  module _ {r : Contents} (read : Ok r ≡ contents_of (text_of s)) where
    says : (sh : Sheet) × Sound sh × (r ≡ sheet_contents sh) × (text_of s ≡ good sh)
    unfolding contents_of
    says = go (text_of s) refl
      where
        go : (t : Text) → text_of s ≡ t → (sh : Sheet) × Sound sh × (r ≡ sheet_contents sh) × (text_of s ≡ good sh)
        go (good sh) e = let z : ◌≡◌ {A = Result Contents BadLine} (Ok r) (Ok (sheet_contents sh)) = read ∙ ap contents_of e in (sh, good_is_sound s sh e, cc, e)
        go (bad line) e = absurd (let z : ◌≡◌ {A = Result Contents BadLine} (Ok r) (Err (bad_at line)) = read ∙ ap contents_of e in let y : ◌≡◌ {A = ℕ} 0 1 = cc in omega arith)

    pub contents_good : text_of s ≡ good (sheet_in r)
    contents_good = says.3 ∙ ap good (sym (ap sheet_in says.2 ∙ sheet_in_lem says.0 says.1))

    pub good_contents : GoodContents r
    unfolding sheet_contents
    good_contents =
        let sh = says.0 in
        let sound = says.1 in
        subst GoodContents (sym says.2)
        (record {
          sound = rw (sheet_in_lem sh sound) sound;
          entries_few = sound.entries_few;
          queries_few = sound.queries_few;
          bits = padded_length COUNT sh.bits;
          lengths = padded_length COUNT sh.lengths;
          hops = padded_length COUNT sh.hops;
          addresses = padded_length COUNT sh.addresses;
          places = padded_length COUNT sh.places;
        })
