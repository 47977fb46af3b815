use Rattle.tries.proofs.blocks.+level.Given as goal

abbrev pub decreases-level : goal.decreases-level
decreases-level l = l.w
