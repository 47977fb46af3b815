use native.Mathlib.Nat.{pos_of_ne-zero}
use Rattle.visits.proofs.Masked.{found_few}
use Rattle.visits.proofs.looking.better.Goals as goal

pub highest_of-i-requires : goal.highest_of-i-requires
highest_of-i-requires c = (pos_of_ne-zero c.if-on-eq0.false, found_few c.args.left c.found_on-on.ensures.upper_bound)
