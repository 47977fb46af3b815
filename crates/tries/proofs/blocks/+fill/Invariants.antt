use Rattle.tries.proofs.blocks.+fill.Given as goal

abbrev pub decreases-fill : goal.decreases-fill
decreases-fill l = l.c
