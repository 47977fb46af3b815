use mathlib.Core.Path.{◌≡◌, sym, ap, ◌∙◌}
use lib.ListN.{length, get_or}
use Rattle.std.proofs.Common.{rules}
use Rattle.cases.specs.Words.{word_in}
use Rattle.cases.proofs.Spelling.{word_ends, word_other}
use Rattle.cases.proofs.text.Text.is_word.Goals as goal

pub returns-then-starts_with : goal.returns-then-starts_with
returns-then-starts_with c =
    let next : c.unwrap_or-next.result ≡ get_or c.rest-rest.result.now (length c.args.word.now) 0 = search rules in
    rw (c.is_within.ensures, next)
    (word_ends _ _ (sym c.starts_with.ensures.value ∙ c.if-starts_with.true) ∙ ap (word_in c.args.word.now) c.rest-rest.ensures)

pub returns-else-starts_with : goal.returns-else-starts_with
returns-else-starts_with c =
    c.if-starts_with.false ∙ word_other _ _ (sym c.starts_with.ensures.value ∙ c.if-starts_with.false) ∙ ap (word_in c.args.word.now) c.rest-rest.ensures
