use Rattle.std.proofs.Common.{◌∙◌, true, false, arith}
use Rattle.rule_model.specs.declared.rules.Form.TheVariants.{Both, LeafFirst, ConsFirst}
use Rattle.check_order.specs.References.{part_marks}
use Rattle.check_order.proofs.FirstLate.{late_in_turn, late_of_both, marks_are, part_seen}
use Rattle.check_order.proofs.late.late_in_statement.Goals as goal

pub walk_part-leaf-requires-clause-known : goal.walk_part-leaf-requires-clause-known
walk_part-leaf-requires-clause-known c = c.begin.ensures c.args.model.now c.args.cube c.args.statement.now.area c.requires.known

pub walk_part-seen-requires-clause-known : goal.walk_part-seen-requires-clause-known
walk_part-seen-requires-clause-known c = c.begin.ensures c.args.model.now c.args.cube c.args.statement.now.area c.requires.known

pub walk_part-seen-requires-in-ConsFirst-clause-known : goal.walk_part-seen-requires-in-ConsFirst-clause-known
walk_part-seen-requires-in-ConsFirst-clause-known c = c.begin.ensures c.args.model.now c.args.cube c.args.statement.now.area c.requires.known

pub walk_part-requires-clause-few : goal.walk_part-requires-clause-few
walk_part-requires-clause-few c =
    let seen = part_seen c.args.model.now c.args.cube c.args.statement.now true c.args.statement.now.leaf c.walk_part-seen.result c.walk_part-seen.ensures.seen in
    omega (arith, seen, c.requires.statement.few_read)

pub walk_part-requires-in-ConsFirst-clause-few : goal.walk_part-requires-in-ConsFirst-clause-few
walk_part-requires-in-ConsFirst-clause-few c =
    let seen = part_seen c.args.model.now c.args.cube c.args.statement.now false c.args.statement.now.cons c.walk_part-seen-in-ConsFirst.result c.walk_part-seen-in-ConsFirst.ensures.seen in
    omega (arith, seen, c.requires.statement.few_read)

pub returns-in-Both-clause-late : goal.returns-in-Both-clause-late
returns-in-Both-clause-late c =
    c.earliest.ensures
    ∙ late_of_both (part_marks c.args.model.now c.args.cube c.args.statement.now.area true c.args.statement.now.leaf) (part_marks c.args.model.now c.args.cube c.args.statement.now.area false c.args.statement.now.cons)
    c.walk_part-leaf.result c.walk_part-cons.result c.walk_part-leaf.ensures.seen c.walk_part-cons.ensures.seen
    ∙ marks_are c.args.model.now c.args.cube c.args.statement.now Both c.in-Both.is

pub returns-in-LeafFirst-clause-late : goal.returns-in-LeafFirst-clause-late
returns-in-LeafFirst-clause-late c =
    late_in_turn (part_marks c.args.model.now c.args.cube c.args.statement.now.area true c.args.statement.now.leaf) (part_marks c.args.model.now c.args.cube c.args.statement.now.area false c.args.statement.now.cons)
    c.walk_part-seen.result c.walk_part.result c.walk_part-seen.ensures.seen c.walk_part.ensures.seen
    ∙ marks_are c.args.model.now c.args.cube c.args.statement.now LeafFirst c.in-LeafFirst.is

pub returns-in-ConsFirst-clause-late : goal.returns-in-ConsFirst-clause-late
returns-in-ConsFirst-clause-late c =
    late_in_turn (part_marks c.args.model.now c.args.cube c.args.statement.now.area false c.args.statement.now.cons) (part_marks c.args.model.now c.args.cube c.args.statement.now.area true c.args.statement.now.leaf)
    c.walk_part-seen-in-ConsFirst.result c.walk_part-in-ConsFirst.result c.walk_part-seen-in-ConsFirst.ensures.seen c.walk_part-in-ConsFirst.ensures.seen
    ∙ marks_are c.args.model.now c.args.cube c.args.statement.now ConsFirst c.in-ConsFirst.is
