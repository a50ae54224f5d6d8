use Rattle.bit_ranks.proofs.ranked.sums.+push_sums.Given as goal

abbrev pub decreases-push_sums : goal.decreases-push_sums
decreases-push_sums g l = l.level
