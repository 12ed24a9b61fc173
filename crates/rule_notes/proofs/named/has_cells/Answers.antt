use Rattle.std.proofs.Common.{sym, subst}
use Rattle.rule_model.specs.Conditions.{IsReference}
use Rattle.rule_notes.proofs.OwnFacts.{own-is}
use Rattle.rule_notes.proofs.named.has_cells.Goals as goal

pub names_some-leaf-requires-clause-reference : goal.names_some-leaf-requires-clause-reference
names_some-leaf-requires-clause-reference c =
    subst (IsReference c.args.cells.model.now.space c.args.cells.cube) (sym c.requires.own) (own-is c.args.cells.model.now.space c.args.cells.cube c.requires.cells.cube)

pub names_some-cons-requires-clause-reference : goal.names_some-cons-requires-clause-reference
names_some-cons-requires-clause-reference c =
    subst (IsReference c.args.cells.model.now.space c.args.cells.cube) (sym c.requires.own) (own-is c.args.cells.model.now.space c.args.cells.cube c.requires.cells.cube)
