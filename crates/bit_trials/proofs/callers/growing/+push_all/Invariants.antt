use Rattle.bit_trials.proofs.callers.growing.+push_all.Given as goal

abbrev pub decreases-push_all : goal.decreases-push_all
decreases-push_all g l = l.k
