use Rattle.rule_printer.specs.Inside.Spine.{Spine}
use Rattle.rule_printer.proofs.tree_printing.operations_of.Given as goal

abbrev pub invariant-down : goal.invariant-down
invariant-down l = Spine l.level l.tree l.operations.items l.head
