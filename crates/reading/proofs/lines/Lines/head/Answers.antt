-- Five lines of one text, one after the other; a bad one is that of the five.
use Rattle.std.proofs.Common.{◌∙◌}
use Rattle.reading.proofs.Stopping.{from_width, from_kind, from_levels, from_links, stops_none, head_bad}
use Rattle.reading.proofs.Whole.{width_took, kind_took, levels_took, links_took, entries_took, head_good}
use Rattle.reading.proofs.lines.Lines.head.Goals as goal

pub returns-in_err-width-clause-took : goal.returns-in_err-width-clause-took
returns-in_err-width-clause-took c =
    let width = width_took _ c.requires c.in_err-width.ensures.took in
    head_bad width.said c.from_residual.result (from_width _) c.from_residual.ensures.1

pub returns-in_err-kind-clause-took : goal.returns-in_err-kind-clause-took
returns-in_err-kind-clause-took c =
    let width = width_took _ c.requires c.in_ok-width.ensures.took in
    let text-kind = c.in_ok-width.ensures.text in
    let kind = kind_took text-kind width c.in_err-kind.ensures.took in
    head_bad kind.said c.from_residual-in_err-kind.result (from_kind _) c.from_residual-in_err-kind.ensures.1

pub returns-in_err-levels-clause-took : goal.returns-in_err-levels-clause-took
returns-in_err-levels-clause-took c =
    let width = width_took _ c.requires c.in_ok-width.ensures.took in
    let text-kind = c.in_ok-width.ensures.text in
    let kind = kind_took text-kind width c.in_ok-kind.ensures.took in
    let text-levels = c.in_ok-kind.ensures.text ∙ text-kind in
    let levels = levels_took text-levels kind c.in_err-levels.ensures.took in
    head_bad levels.said c.from_residual-in_err-levels.result (from_levels _) c.from_residual-in_err-levels.ensures.1

pub returns-in_err-links-clause-took : goal.returns-in_err-links-clause-took
returns-in_err-links-clause-took c =
    let width = width_took _ c.requires c.in_ok-width.ensures.took in
    let text-kind = c.in_ok-width.ensures.text in
    let kind = kind_took text-kind width c.in_ok-kind.ensures.took in
    let text-levels = c.in_ok-kind.ensures.text ∙ text-kind in
    let levels = levels_took text-levels kind c.in_ok-levels.ensures.took in
    let text-links = c.in_ok-levels.ensures.text ∙ text-levels in
    let links = links_took text-links levels c.in_err-links.ensures.took in
    head_bad links.said c.from_residual-in_err-links.result (from_links _) c.from_residual-in_err-links.ensures.1

pub returns-in_err-entries-clause-took : goal.returns-in_err-entries-clause-took
returns-in_err-entries-clause-took c =
    let width = width_took _ c.requires c.in_ok-width.ensures.took in
    let text-kind = c.in_ok-width.ensures.text in
    let kind = kind_took text-kind width c.in_ok-kind.ensures.took in
    let text-levels = c.in_ok-kind.ensures.text ∙ text-kind in
    let levels = levels_took text-levels kind c.in_ok-levels.ensures.took in
    let text-links = c.in_ok-levels.ensures.text ∙ text-levels in
    let links = links_took text-links levels c.in_ok-links.ensures.took in
    let text-entries = c.in_ok-links.ensures.text ∙ text-links in
    let entries = entries_took text-entries links c.in_err-entries.ensures.took in
    head_bad entries.said c.from_residual-in_err-entries.result (stops_none _) c.from_residual-in_err-entries.ensures.1

pub returns-clause-took : goal.returns-clause-took
returns-clause-took c =
    let width = width_took _ c.requires c.in_ok-width.ensures.took in
    let text-kind = c.in_ok-width.ensures.text in
    let kind = kind_took text-kind width c.in_ok-kind.ensures.took in
    let text-levels = c.in_ok-kind.ensures.text ∙ text-kind in
    let levels = levels_took text-levels kind c.in_ok-levels.ensures.took in
    let text-links = c.in_ok-levels.ensures.text ∙ text-levels in
    let links = links_took text-links levels c.in_ok-links.ensures.took in
    let text-entries = c.in_ok-links.ensures.text ∙ text-links in
    let entries = entries_took text-entries links c.in_ok-entries.ensures.took in
    head_good width kind levels links entries
