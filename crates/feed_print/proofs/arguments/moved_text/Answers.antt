use Rattle.std.proofs.Common.{◌∙◌, ap}
use Rattle.rule_printer.specs.Writable.{is_writable}
use Rattle.rule_tree.specs.declared.tree.Tree.TheVariants as trees
use Rattle.feed_print.proofs.Writing.{own_writable}
use Rattle.feed_print.proofs.arguments.moved_text.Goals as goal

pub returns-in_ok-own-clause-writable : goal.returns-in_ok-own-clause-writable
returns-in_ok-own-clause-writable c = ap (λ name. is_writable (trees.Current name)) c.in_ok-own.ensures ∙ own_writable c.args.dim.now c.requires
