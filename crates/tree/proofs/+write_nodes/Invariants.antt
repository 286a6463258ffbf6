-- Each half is shorter than its part.
use Rattle.tree.proofs.+write_nodes.Given as goal

abbrev pub decreases-write_nodes : goal.decreases-write_nodes
decreases-write_nodes l = l.size
