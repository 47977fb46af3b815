use Rattle.std.proofs.Common.{sym, length, ◌∙◌}
use Rattle.std.proofs.lemmas.List.{append-nil, length_push}
use Rattle.std.proofs.lemmas.Slice.Zip.{zip_turn}
use Rattle.reading.specs.Numerals.{joined}
use Rattle.sheet.proofs.Queries.{answer_more, answer_fits}
use Rattle.sheet.proofs.answering.put_answers.Goals as goal

pub loop-address-init : goal.loop-address-init
unfolding joined
loop-address-init c = sym (append-nil _)

pub put_answer-requires : goal.put_answer-requires
put_answer-requires c =
    let q = c.args.queries in
    let l = c.loop-address in
    let turn =
    zip_turn q.addresses.now q.places.now l.yielded c.into_iter-address-iterator.result l.address-iterator c.next.new.self c.next.result (cc) (cc)
    l.yielded_by (c.in-Some.field-0-0, c.in-Some.field-0-1) c.in-Some.is c.next.ensures.steps in
    (answer_fits _ _ _ _ (length l.yielded) _ q.lent turn.1 c.requires l.invariant, rw (turn.3 0) (q.lent.short (length l.yielded) turn.1))

pub loop-address-preserved : goal.loop-address-preserved
loop-address-preserved c =
    let q = c.args.queries in
    let l = c.loop-address in
    let turn =
    zip_turn q.addresses.now q.places.now l.yielded c.into_iter-address-iterator.result l.address-iterator c.next.new.self c.next.result (cc) (cc)
    l.yielded_by (c.in-Some.field-0-0, c.in-Some.field-0-1) c.in-Some.is c.next.ensures.steps in
    rw length_push
    (answer_more _ _ _ _ (length l.yielded) _ (turn.2 0) (turn.3 0) (c.from-answer.ensures ∙ c.find.ensures.exact) l.invariant c.put_answer.ensures)
