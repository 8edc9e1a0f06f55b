use Rattle.pcl_lexer.proofs.pjl.+parts_behind.Given as goal

abbrev pub decreases-parts_behind : goal.decreases-parts_behind
decreases-parts_behind l = l.most
