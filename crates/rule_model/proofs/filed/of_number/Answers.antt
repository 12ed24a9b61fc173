use Rattle.std.proofs.Common.{◌∙◌, ap, filter, leb}
use Rattle.rule_model.specs.declared.filed.FiledFeeder.{FiledFeeder}
use Rattle.rule_model.proofs.Filing.{between}
use Rattle.rule_model.proofs.filed.of_number.Goals as goal

pub returns : goal.returns
returns c =
    c.at_least.ensures ∙ ap (filter (λ (f : FiledFeeder). leb c.args.key f.key)) c.at_most.ensures.those ∙ between c.args.file.now c.args.key
