-- The page holds every report, so that a run with that much room never asks for more.
use mathlib.Core.Path.{◌≡◌, refl, ◌∙◌}
use mathlib.Core.Bool.{Bool, true, false, cond}
use mathlib.Core.List.{List, ◌++◌}
use Prim.Native.Nat.{ℕ, ◌≤◌, ◌<◌}
use native.Mathlib.Omega.{arith}
use lib.Dec.{ltb}
use lib.ListN.{length, length-append}
use borrow.Author.Tests.{le-leb}
use Rattle.table.specs.Table.{at}
use Rattle.choosers.specs.declared.chooser.Kind.{Kind}
use Rattle.table.specs.Refusals.{Outcome, refusal_number, refusal_detail}
use Rattle.reading.specs.Limits.{COUNT, BITS}
use Rattle.reading.specs.Numerals.{joined}
use Rattle.reading.specs.Text.{Text, good, bad, text_of}
use Rattle.reading.proofs.Following.{good_is_sound}
use Rattle.std.specs.Prelude.{Result, Ok, Err}
use Rattle.sheet.specs.declared.running.NoRoom.{NoRoom}
use Rattle.sheet.specs.Limits.{answer_bytes, PAGE}
use Rattle.sheet.specs.Printing.{refusal_lines, head_lines}
use Rattle.sheet.specs.Answers.{first_wrong, query_lines, answers_report}
use Rattle.sheet.specs.Solved.{report_by, report_for, solved}
use Rattle.sheet.specs.Tablet.{text_report, report_of, answer_for, Ran}
use Rattle.sheet.proofs.Writing.{length_refusal, length_head, length_answer, length_joined}

-- queries that are few, of few digits each
module _ (xs ds : List ℕ) (few : length ds ≤ COUNT) (short : (i : ℕ) → i < length ds → at ds i ≤ BITS) where
  answers_short : (hop len reads : ℕ → ℕ) (W e r : ℕ) → length (answers_report hop len reads xs ds W e r) ≤ PAGE
  unfolding answers_report query_lines
  answers_short hop len reads W e r = go (ltb (first_wrong W ds) (length ds))
    where
      go : (t : Bool)
          → length (cond t (refusal_lines 8 (first_wrong W ds)) (head_lines e r ++ joined (query_lines hop len reads xs ds) (length ds))) ≤ PAGE
      go true = omega (arith, length_refusal 8 (first_wrong W ds))
      go false =
          omega (
            arith,
            length-append (head_lines e r) (joined (query_lines hop len reads xs ds) (length ds)),
            length_head e r,
            length_joined (query_lines hop len reads xs ds) answer_bytes (length ds)
                (λ i h. length_answer _ _ _ _ _ (short i h)),
          )

  for_short : (out : Outcome) (bytes : List ℕ) → length bytes ≤ PAGE → length (report_for out bytes) ≤ PAGE
  unfolding report_for
  for_short (Ok _) bytes h = h
  for_short (Err r) bytes h = omega (arith, length_refusal (refusal_number r) (refusal_detail r))

  solved_short : (n : Kind) (W k links : ℕ) (bits ls hs : List ℕ) → length (solved n W k links bits ls hs xs ds) ≤ PAGE
  unfolding solved report_by
  solved_short n W k links bits ls hs = for_short _ _ (answers_short _ _ _ W _ _)

-- the page holds the report of every text
pub report_short : (s : List ℕ) → length (report_of s) ≤ PAGE
unfolding report_of text_report
report_short s = go (text_of s) refl
  where
    go : (t : Text) → text_of s ≡ t → length (text_report t) ≤ PAGE
    go (bad line) e = omega (arith, length_refusal 11 line)
    go (good sh) e =
        let sound = good_is_sound s sh e in
        solved_short sh.addresses sh.places (omega (arith, sound.as_many_places, sound.queries_few))
        (λ i h. (sound.query i (omega (arith, sound.as_many_places))).1) _ _ _ _ _ _ _

-- a run with room for a page writes the report
pub run_writes : {s out out' : List ℕ} {r : Result ℕ NoRoom} → PAGE ≤ length out → Ran s out out' r → r ≡ Ok (length (report_of s))
unfolding answer_for
run_writes {s} {out} h ran =
    let e = le-leb (length (report_of s)) (length out) (omega (arith, report_short s)) in
    ran.answer ∙ rw e
