use Rattle.std.proofs.Common.{◌+◌, ◌*◌, take, length}
use Rattle.cube_lex.specs.Written.{Spaces}
use Rattle.rule_printer.proofs.TreeWeights.{weight, weights}
use Rattle.rule_printer.specs.Spelled.{written, written_at, listed_spelled, tree_spelled}
use Rattle.rule_printer.specs.Inside.Spine.{Spine}
use Rattle.rule_tree.specs.declared.tree.Tree.{Tree}
use Rattle.rule_printer.proofs.tree_printing.+trees.Given as goal

abbrev pub decreases-write_placed : goal.decreases-write_placed
decreases-write_placed l = 4 * weight l.tree.now + 2

abbrev pub decreases-write_tree : goal.decreases-write_tree
decreases-write_tree l = 4 * weight l.tree.now + 1

abbrev pub decreases-write_call : goal.decreases-write_call
decreases-write_call l = 4 * weights l.arguments.now + 3

abbrev pub decreases-write_trees : goal.decreases-write_trees
decreases-write_trees l = 4 * weights l.trees.now + 2

abbrev pub invariant-write_trees-loop-index : goal.invariant-write_trees-loop-index
invariant-write_trees-loop-index l = Spaces l.fn.out.items l.out.items (listed_spelled tree_spelled (take l.index l.trees))

abbrev pub decreases-write_left : goal.decreases-write_left
decreases-write_left l = 4 * weight l.tree.now + 3

-- what is still to be written stands to the right of a tree that is written
abbrev pub invariant-write_left-up : goal.invariant-write_left-up
invariant-write_left-up l = (head : Tree) × Spine l.level l.tree l.operations.items head × Spaces l.fn.out.items l.out.items (written_at l.level (written head))

abbrev pub decreases-write_left-up : goal.decreases-write_left-up
decreases-write_left-up l = length l.operations.items
