use Rattle.node_lists.proofs.dealing.+gather.Given as goal

abbrev pub decreases-gather : goal.decreases-gather
decreases-gather g l = l.count
