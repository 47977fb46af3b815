-- The answers so far were put.
use Rattle.std.proofs.Common.{◌≡◌, ◌++◌, length}
use Rattle.walk.specs.Lent.{lent}
use Rattle.sheet.proofs.Queries.{first_answers}
use Rattle.sheet.proofs.answering.put_answers.Given as goal

abbrev pub invariant-loop-address : goal.invariant-loop-address
invariant-loop-address l =
    l.page.items
    ≡ l.initial.page.items ++ first_answers l.built.record (lent l.built.rows) l.queries.addresses.now l.queries.places.now (length l.yielded)
