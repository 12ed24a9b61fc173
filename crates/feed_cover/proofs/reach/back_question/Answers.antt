use Rattle.feed_cover.proofs.Answered.{back-question}
use Rattle.feed_cover.proofs.reach.back_question.Goals as goal

pub returns : goal.returns
returns c = back-question c.args.back c.in_ok-to.to c.question_of.result c.in_ok-to.ensures c.question_of.ensures
