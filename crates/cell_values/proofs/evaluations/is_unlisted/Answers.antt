use Rattle.std.proofs.Common.{sym, ap, ◌∙◌}
use Rattle.rule_evaluate.specs.Known.{Known, answer_in}
use Rattle.cell_values.proofs.Asked.{answer-err}
use Rattle.cell_values.proofs.evaluations.is_unlisted.Goals as goal

pub returns-in-Err : goal.returns-in-Err
returns-in-Err c =
    λ on.
    let q = c.args.question in
    (answer-err c.args.known.now q c.in-Err.field-0 (sym (c.answer.ensures ∙ ap (λ (k : Known). answer_in k q) c.new.ensures) ∙ c.in-Err.is)).0
