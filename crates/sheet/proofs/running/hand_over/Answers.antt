use Rattle.std.proofs.Common.{arith, length}
use borrow.Author.Tests.{le-leb, lt-leb}
use Rattle.sheet.specs.Tablet.{answer_for, left_for}
use Rattle.sheet.proofs.running.hand_over.Goals as goal

pub returns-then-out-n-clause-answer : goal.returns-then-out-n-clause-answer
unfolding answer_for
returns-then-out-n-clause-answer c = rw (lt-leb (length c.args.page.now.items) (length c.args.out.now) (omega arith), c.len-n.ensures.value)

pub returns-then-out-n-clause-left : goal.returns-then-out-n-clause-left
unfolding left_for
returns-then-out-n-clause-left c = rw (lt-leb (length c.args.page.now.items) (length c.args.out.now) (omega arith))

pub returns-clause-answer : goal.returns-clause-answer
unfolding answer_for
returns-clause-answer c = rw (le-leb (length c.args.page.now.items) (length c.args.out.now) (omega arith), c.len-n.ensures.value)

pub returns-clause-left : goal.returns-clause-left
unfolding left_for
returns-clause-left c = rw (le-leb (length c.args.page.now.items) (length c.args.out.now) (omega arith), c.copy_from_slice.ensures.after, c.as_slice.ensures.value, c.len-n.ensures.value)
