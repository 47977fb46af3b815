-- Each call answers of the same text, where the one before ended; a bad line of one is the text's.
use Rattle.std.proofs.Common.{refl, ap, sym, ◌∙◌, length}
use Rattle.table.specs.Lists.{padded}
use Rattle.reading.proofs.Stopping.{from_head, from_entries, from_queries, from_last, text_bad}
use Rattle.reading.proofs.Whole.{head_here, entries_here, count_here, queries_here, text_longer, text_read}
use Rattle.reading.proofs.Holding.{is_held, bad_line_few}
use Rattle.reading.proofs.parsing.read.Goals as goal

pub returns-in_err-head : goal.returns-in_err-head
returns-in_err-head c =
    let text-head = c.new-lines.ensures.text in
    let head = head_here text-head c.in_err-head.ensures.took in
    let e = text_bad head.said _ c.from_residual.result (from_head _) c.from_residual.ensures.1 in
    record { exact = e; meaning = is_held e; few = bad_line_few _ e }

pub returns-in_err-entries : goal.returns-in_err-entries
returns-in_err-entries c =
    let text-head = c.new-lines.ensures.text in
    let head = head_here text-head c.in_ok-head.ensures.took in
    let text-entries = c.in_ok-head.ensures.text ∙ text-head in
    let entries = entries_here text-entries head c.in_err-entries.ensures.took in
    let e = text_bad entries.said _ c.from_residual-in_err-entries.result (from_entries _) c.from_residual-in_err-entries.ensures.1 in
    record { exact = e; meaning = is_held e; few = bad_line_few _ e }

pub returns-in_err-queries : goal.returns-in_err-queries
returns-in_err-queries c =
    let text-head = c.new-lines.ensures.text in
    let head = head_here text-head c.in_ok-head.ensures.took in
    let text-entries = c.in_ok-head.ensures.text ∙ text-head in
    let entries = entries_here text-entries head c.in_ok-entries.ensures.took in
    let text-count = c.in_ok-entries.ensures.text ∙ text-entries in
    let count = count_here text-count entries c.in_err-queries.ensures.took in
    let e = text_bad count.said _ c.from_residual-in_err-queries.result (from_queries _) c.from_residual-in_err-queries.ensures.1 in
    record { exact = e; meaning = is_held e; few = bad_line_few _ e }

pub returns-in_err-queries-2 : goal.returns-in_err-queries-2
returns-in_err-queries-2 c =
    let text-head = c.new-lines.ensures.text in
    let head = head_here text-head c.in_ok-head.ensures.took in
    let text-entries = c.in_ok-head.ensures.text ∙ text-head in
    let entries = entries_here text-entries head c.in_ok-entries.ensures.took in
    let text-count = c.in_ok-entries.ensures.text ∙ text-entries in
    let count = count_here text-count entries c.in_ok-queries.ensures.took in
    let text-queries = c.in_ok-queries.ensures.text ∙ text-count in
    let queries = queries_here text-queries count c.in_err-queries-2.ensures.took in
    let e = text_bad queries.said _ c.from_residual-in_err-queries-2.result (from_last _) c.from_residual-in_err-queries-2.ensures.1 in
    record { exact = e; meaning = is_held e; few = bad_line_few _ e }

pub returns-in_err-end : goal.returns-in_err-end
returns-in_err-end c =
    let text-head = c.new-lines.ensures.text in
    let head = head_here text-head c.in_ok-head.ensures.took in
    let text-entries = c.in_ok-head.ensures.text ∙ text-head in
    let entries = entries_here text-entries head c.in_ok-entries.ensures.took in
    let text-count = c.in_ok-entries.ensures.text ∙ text-entries in
    let count = count_here text-count entries c.in_ok-queries.ensures.took in
    let text-queries = c.in_ok-queries.ensures.text ∙ text-count in
    let queries = queries_here text-queries count c.in_ok-queries-2.ensures.took in
    let text-end = ap (λ x. length x.now) (c.in_ok-queries-2.ensures.text ∙ text-queries) in
    let e =
    text_longer queries.said refl c.from_residual-in_err-end.result (λ z. c.in_err-end.ensures.0 (z ∙ sym text-end)) c.in_err-end.ensures.1
    c.from_residual-in_err-end.ensures.1 in
    record { exact = e; meaning = is_held e; few = bad_line_few _ e }

pub returns : goal.returns
unfolding padded
returns c =
    let text-head = c.new-lines.ensures.text in
    let head = head_here text-head c.in_ok-head.ensures.took in
    let text-entries = c.in_ok-head.ensures.text ∙ text-head in
    let entries = entries_here text-entries head c.in_ok-entries.ensures.took in
    let text-count = c.in_ok-entries.ensures.text ∙ text-entries in
    let count = count_here text-count entries c.in_ok-queries.ensures.took in
    let text-queries = c.in_ok-queries.ensures.text ∙ text-count in
    let queries = queries_here text-queries count c.in_ok-queries-2.ensures.took in
    let text-end = ap (λ x. length x.now) (c.in_ok-queries-2.ensures.text ∙ text-queries) in
    let e = text_read queries.said refl head entries.said count.said.1 (refl, refl, refl) (refl, refl) (c.in_ok-end.ensures ∙ text-end) in
    record { exact = e; meaning = is_held e; few = bad_line_few _ e }
