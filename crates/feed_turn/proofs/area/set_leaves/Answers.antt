use Rattle.std.proofs.Common.{◌∙◌, Some, ap, sym, subst, length}
use Rattle.rule_model.specs.Conditions.{IsSet}
use Rattle.feed_turn.proofs.area.set_leaves.Goals as goal

pub leaves_among-requires : goal.leaves_among-requires
leaves_among-requires c = (subst (IsSet (length c.args.dimension.now.elements)) (c.in-Some.is ∙ ap Some (sym c.as_slice.ensures)) c.requires).1
