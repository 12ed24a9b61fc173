use Rattle.feed_cover.proofs.Answered.{no-answer}
use Rattle.feed_cover.proofs.answers.CoverAnswers.none.Goals as goal

pub returns : goal.returns
returns c = λ model cube. record { each = λ k answer at. absurd (no-answer 64 k answer at) }
