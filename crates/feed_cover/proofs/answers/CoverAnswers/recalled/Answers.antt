use Rattle.feed_cover.proofs.Answered.{kept-at}
use Rattle.feed_cover.proofs.answers.CoverAnswers.recalled.Goals as goal

pub returns-then-ask_alike : goal.returns-then-ask_alike
returns-then-ask_alike c =
    (c.ask_alike.ensures c.if-ask_alike.true, (c.each.k, kept-at c.args.self.now.kept c.each.k c.in-Some.known c.in-Some.is))
