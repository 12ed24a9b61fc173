use Rattle.std.proofs.Common.{◌<◌, Some}
use Rattle.rule_model.specs.declared.filed.FixedLeaf.{FixedLeaf}
use Rattle.feed_cover.specs.Asked.{NoneFeeds}
use Rattle.feed_cover.specs.Answers.{AreAnswers}
use Rattle.feed_cover.proofs.feeds.feeds_by_leaf.Given as goal

abbrev pub invariant-each : goal.invariant-each
invariant-each l = record {
  none : (leaf : FixedLeaf) → leaf.dim < l.dim → NoneFeeds l.model l.view l.own (Some leaf);
  answers : AreAnswers l.model l.view.cube l.answers;
}
