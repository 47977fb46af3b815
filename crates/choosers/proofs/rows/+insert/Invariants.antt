-- Each step down takes the tree at a child; the measure is the number of bits left.
use Rattle.choosers.proofs.rows.+insert.Given as goal

abbrev pub decreases-insert : goal.decreases-insert
decreases-insert l = l.n
