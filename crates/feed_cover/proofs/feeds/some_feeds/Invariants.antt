use Rattle.std.proofs.Common.{◌≡◌, false, take, IfSome}
use Rattle.std.specs.List.{list_any}
use Rattle.rule_model.specs.declared.filed.FiledFeeder.{FiledFeeder}
use Rattle.feed_cover.specs.Asked.{feeds_at}
use Rattle.feed_cover.specs.Views.{IsSourced}
use Rattle.feed_cover.specs.Answers.{AreAnswers}
use Rattle.feed_cover.proofs.feeds.some_feeds.Given as goal

abbrev pub invariant-each : goal.invariant-each
invariant-each l = record {
  none : list_any (λ (filed : FiledFeeder). feeds_at l.model l.view l.own filed.place) (take l.k l.group) ≡ false;
  known : IfSome l.known (IsSourced l.model l.view);
  answers : AreAnswers l.model l.view.cube l.answers;
}
