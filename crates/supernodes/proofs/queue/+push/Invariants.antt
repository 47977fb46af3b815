use Rattle.supernodes.proofs.queue.+push.Given as goal

abbrev pub decreases-push : goal.decreases-push
decreases-push l = l.c
