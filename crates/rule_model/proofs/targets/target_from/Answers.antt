use Rattle.std.proofs.Common.{rules, ◌<◌, length}
use Rattle.rule_model.proofs.Arguments.{none_by_many}
use Rattle.rule_model.proofs.targets.target_from.Goals as goal

pub returns-then-args-gt-MAX_DIMENSIONS-clause-value : goal.returns-then-args-gt-MAX_DIMENSIONS-clause-value
returns-then-args-gt-MAX_DIMENSIONS-clause-value c =
    let many : 16 < length c.args.reference.now.args = search rules in
    none_by_many c.args.space.now c.args.reference.now.cube c.args.elements.now c.args.reference.now.args c.size-cells.ensures.valid many
