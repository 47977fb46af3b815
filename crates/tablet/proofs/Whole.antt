-- From the page to the whole text.
use Rattle.std.proofs.Common.{cond, ◌≡◌, ℕ, ◌≤◌, ◌<◌, List, [], ◌++◌, take, drop, length, Bool, true, false, Option, Some, None, sym, subst, ap, ◌∙◌, arith}
use lib.Dec.{leb}
use Rattle.std.specs.Io.KnownBytes.{Consumes, IsAtEnd, Appends}
use Rattle.std.specs.Prelude.{Result, Ok, Err}
use Rattle.sheet.specs.declared.running.NoRoom.{NoRoom}
use Rattle.sheet.specs.Limits.{PAGE}
use Rattle.sheet.specs.Tablet.{Ran, PageRan, OnPage, report_of, answer_for, left_for}
use Prim.Dec.{yes, no}
use native.Mathlib.Decide.{dec_lt}
use lib.Seq.{take_all, length-take-le, take-append_seam}
use Rattle.std.proofs.lemmas.List.{append-nil}
use Rattle.tablet.specs.Printed.{Prints}

-- what was read stands on the page as far as a page goes
on_page : (s r page : List ℕ) (n : ℕ) → length page ≡ PAGE → n ≤ length page → s ≡ take n page ++ r → (n < length page → r ≡ []) → OnPage s page n
on_page s r page n size within e rest =
    let few : length (take n page) ≡ n = length-take-le n page within in
    elim (dec_lt n (length page)) [
      | yes h ↦
          let all : s ≡ take n page = e ∙ ap (λ x. take n page ++ x) (rest h) ∙ append-nil (take n page) in
          rw all (take_all PAGE (take n page) (omega arith))
      | no h ↦
          let full : PAGE ≡ length (take n page) = omega arith in
          rw e (subst (λ m. take m (take n page ++ r) ≡ take n page) (sym full) (take-append_seam (take n page) r))
    ]

-- as many bytes as were written are the report
ran_bytes : {s out out' : List ℕ} {k : ℕ} → Ran s out out' (Ok k) → take k out' ≡ report_of s
unfolding answer_for left_for
ran_bytes {s} {out} {out'} {k} ran = go (leb (length (report_of s)) (length out)) ran.answer ran.left
  where
    go : (b : Bool) → ◌≡◌ {A = Result ℕ NoRoom} (Ok k) (cond b (Ok (length (report_of s))) (Err (record { needed = length (report_of s) })))
        → out' ≡ cond b (report_of s ++ drop (length (report_of s)) out) out → take k out' ≡ report_of s
    go true e w = let n : k ≡ length (report_of s) = cc in rw (n, w) (take-append_seam (report_of s) _)
    go false e w = absurd (cc)

pub prints : (known left old new : Option (List ℕ)) (page out out' : List ℕ) (n k : ℕ) → length page ≡ PAGE → n ≤ length page
    → Consumes known left (take n page) → (n < length page → IsAtEnd left) → PageRan page n out out' k → Appends old new (take k out') → Prints known old new
prints None left old new page out out' n k size within used whole ran put = tt
prints (Some s) None old new page out out' n k size within used whole ran put = absurd used
prints (Some s) (Some r) old new page out out' n k size within used whole ran put =
    subst (Appends old new) (ran_bytes (ran s (on_page s r page n size within used whole))) put
