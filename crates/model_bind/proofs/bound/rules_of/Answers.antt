use Rattle.std.proofs.Common.{◌∙◌}
use Rattle.model_bind.proofs.InStages.{unread, unmeant, unlined, lined, as-many-texts}
use Rattle.model_bind.proofs.bound.rules_of.Goals as goal

pub returns-in_err-texts-clause-comes : goal.returns-in_err-texts-clause-comes
returns-in_err-texts-clause-comes c =
    unread c.args.found.now.space c.args.found.now.orders c.args.files.now c.in_err-texts.field-0.0 c.from_residual.result c.from_residual.ensures.1 c.in_err-texts.ensures.comes

pub meanings_of-requires-clause-one_each : goal.meanings_of-requires-clause-one_each
meanings_of-requires-clause-one_each c =
    as-many-texts c.args.found.now.space c.args.found.now.orders c.args.files.now c.in_ok-texts.texts c.in_ok-texts.ensures.comes ∙ c.requires.one_each

pub returns-in_err-meant-clause-comes : goal.returns-in_err-meant-clause-comes
returns-in_err-meant-clause-comes c =
    unmeant c.args.found.now.space c.args.found.now.orders c.args.files.now c.in_ok-texts.texts c.in_ok-texts.ensures.comes c.in_err-meant.field-0.0 c.from_residual-in_err-meant.result
    c.from_residual-in_err-meant.ensures.1 c.in_err-meant.ensures.comes
