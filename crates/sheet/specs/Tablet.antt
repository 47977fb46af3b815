-- The whole run (01, "The tablet program"): "text is tested first, then the build, then all addresses". The report of a
-- text is a list of bytes; what `run` answers and leaves is said of it and of the room that was lent.
use Rattle.std.specs.Prelude.{◌≡◌, cond, List, ◌++◌, ℕ, length, take, drop, leb, Result, Ok, Err, IfOk}
use Rattle.io.specs.Counts.{IsPrefixLen}
use Rattle.reading.specs.Text.{Text, good, bad, text_of}
use Rattle.sheet.specs.declared.running.NoRoom.{NoRoom}
use Rattle.sheet.specs.Limits.{PAGE}
use Rattle.sheet.specs.Printing.{refusal_lines}
use Rattle.sheet.specs.Solved.{solved}

-- a bad text is refused by 11, the first bad line as detail
unfoldable pub text_report : Text → List ℕ
text_report (bad line) = refusal_lines 11 line
text_report (good sh) = solved sh.kind sh.width sh.levels sh.links sh.bits sh.lengths sh.hops sh.addresses sh.places

unfoldable pub report_of : List ℕ → List ℕ
report_of s = text_report (text_of s)

-- ---- the report, in the room that was lent

-- all of it, or the bytes that it needs
unfoldable pub answer_for : (bytes out : List ℕ) → Result ℕ NoRoom
answer_for bytes out = cond (leb (length bytes) (length out)) (Ok (length bytes)) (Err (record { needed = length bytes }))

-- the report and then the bytes that were there; or all as it was
unfoldable pub left_for : (bytes out : List ℕ) → List ℕ
left_for bytes out = cond (leb (length bytes) (length out)) (bytes ++ drop (length bytes) out) out

-- what a call of `run` answers and leaves
pub record Ran (s out out' : List ℕ) (r : Result ℕ NoRoom) : Type 0 where
  pub answer : r ≡ answer_for (report_of s) out
  pub left : out' ≡ left_for (report_of s) out

-- as many bytes as were written stand in the room
abbrev pub Fits : Result ℕ NoRoom → List ℕ → Type 0
Fits r out = IfOk r (λ n. IsPrefixLen n out)

-- ---- a text that was read to a page

-- what n bytes of the page hold is the text s as far as a page goes: all of it, or the page is full
abbrev pub OnPage : (s page : List ℕ) (n : ℕ) → Type 0
OnPage s page n = take PAGE s ≡ take n page

-- what a call of `run_page` answers and leaves: the report of every such text, all r bytes of it
abbrev pub PageRan : (page : List ℕ) (n : ℕ) (out out' : List ℕ) (r : ℕ) → Type 0
PageRan page n out out' r = (s : List ℕ) → OnPage s page n → Ran s out out' (Ok r)
