use Rattle.std.proofs.Common.{◌≡◌, sym, ap, ◌∙◌, subst, Some, None}
use Rattle.rule_evaluate.specs.Known.{Known, listed, answer_in}
use Rattle.cell_values.specs.Inside.Answers.{ListedAnswers}
use Rattle.cell_values.specs.Inside.Questions.{answer_on}
use Rattle.cell_values.proofs.Asked.{listed-right, answer-ok, answer-err}
use Rattle.cell_values.proofs.answers.Answers.listed.Goals as goal

pub returns-in-Ok : goal.returns-in-Ok
returns-in-Ok c =
    let known = c.self.inside.known.now in
    let q = c.args.question in
    let there = answer-ok known q c.in-Ok.value (sym (c.answer.ensures ∙ ap (λ (k : Known). answer_in k q) c.new.ensures) ∙ c.in-Ok.is) in
    let right = listed-right c.self.inside.version.now known c.self.invariant q c.in-Ok.value there in
    record {
      value = subst (λ (at : ListedAnswers). listed at.known q ≡ Some c.in-Ok.value) c.self.view_is there;
      right = subst (λ (at : ListedAnswers). c.in-Ok.value ≡ answer_on at.version q) c.self.view_is right;
      fault = tt;
    }

pub returns-in-Err-clause-fault : goal.returns-in-Err-clause-fault
returns-in-Err-clause-fault c =
    let known = c.self.inside.known.now in
    let q = c.args.question in
    let none = answer-err known q c.in-Err.open (sym (c.answer.ensures ∙ ap (λ (k : Known). answer_in k q) c.new.ensures) ∙ c.in-Err.is) in
    (subst (λ (at : ListedAnswers). listed at.known q ≡ None) c.self.view_is none.0, c.new-in-Err.ensures.first ∙ sym none.1, c.new-in-Err.ensures.more)
