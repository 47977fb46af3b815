-- Laws of the whole run, in the code's own terms: what reading the text handed back is `Ok` or `Err` of contents or a bad line.
use mathlib.Core.Path.{◌≡◌, sym, ap, subst, ◌∙◌}
use mathlib.Core.List.{List}
use Prim.Native.Nat.{ℕ, min, ◌≤◌}
use native.Mathlib.Omega.{arith}
use lib.ListN.{length, take, length-take}
use lib.Seq.{take_all}
use lib.Dec.{lit<}
use Rattle.std.specs.Prelude.{Result, Ok, Err}
use Rattle.std.proofs.lemmas.List.{take_min}
use Rattle.reading.specs.declared.lines.BadLine.{BadLine}
use Rattle.reading.specs.declared.parsing.Contents.{Contents}
use Rattle.reading.specs.Contents.{sheet_in}
use Rattle.reading.specs.Text.{good, text_of, contents_of}
use Rattle.reading.proofs.FirstBytes.{first_bytes}
use Rattle.reading.proofs.Holding.{contents_bad, contents_good}
use Rattle.sheet.specs.declared.running.NoRoom.{NoRoom}
use Rattle.sheet.specs.Limits.{PAGE}
use Rattle.sheet.specs.Printing.{refusal_lines}
use Rattle.sheet.specs.Tablet.{text_report, report_of, answer_for, left_for, Ran, OnPage, PageRan}
use Rattle.sheet.specs.Meaning.{PageReports}
use Rattle.sheet.proofs.Meaning.{ran_reports, reports_unique}

module _ (s : List ℕ) where
  pub report_bad : {b : BadLine} → Err b ≡ contents_of (text_of s) → refusal_lines 11 b.line ≡ report_of s
  unfolding report_of text_report
  report_bad read = rw (contents_bad s read)

  pub report_good : {r : Contents} → Ok r ≡ contents_of (text_of s) → text_report (good (sheet_in r)) ≡ report_of s
  unfolding report_of
  report_good read = rw (contents_good s read)

-- ---- the report and the room that was lent

-- handed over from a page that holds it
pub ran : (s : List ℕ) {page out out' : List ℕ} {r : Result ℕ NoRoom} → page ≡ report_of s → r ≡ answer_for page out → out' ≡ left_for page out → Ran s out out' r
ran s {out = out} e a l = record { answer = a ∙ ap (λ (x : List ℕ). answer_for x out) e; left = l ∙ ap (λ (x : List ℕ). left_for x out) e }

-- ---- a text that was read to a page

-- no good text is longer than a page, so a text's first page says what the text says
pub page_says : (s : List ℕ) → text_of (take PAGE s) ≡ text_of s
page_says s = first_bytes PAGE (lit< tt) s

module _ (page : List ℕ) (n : ℕ) (whole : length page ≡ PAGE) {out out' : List ℕ} {r : ℕ} (run : Ran (take (min n PAGE) page) out out' (Ok r)) where
  pub page_ran : PageRan page n out out' r
  unfolding report_of
  page_ran s b =
      let stands : take (min n PAGE) page ≡ take n page = subst (λ (k : ℕ). take (min n k) page ≡ take n page) whole (take_min n page) in
      ran s (ap report_of (stands ∙ sym b) ∙ ap text_report (page_says s)) run.answer run.left

  pub page_reports : PageReports page n out out' r
  page_reports s b = ran_reports (page_ran s b)

-- one answer, and one thing left
pub page_unique : (page : List ℕ) (n : ℕ) → length page ≤ PAGE → {out o o' : List ℕ} {r r' : ℕ}
    → PageReports page n out o r → PageReports page n out o' r' → (r ≡ r') × (o ≡ o')
page_unique page n h {r = r} {r' = r'} a b =
    let e : OnPage (take n page) page n = take_all PAGE (take n page) (omega (arith, length-take n page)) in
    let w = reports_unique (a (take n page) e) (b (take n page) e) in
    let z : r ≡ r' = cc (w.0) in
    (z, w.1)
