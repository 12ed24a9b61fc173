use Rattle.std.proofs.Common.{◌∙◌, sym, ap, subst, Some}
use Rattle.rule_model.proofs.Statements.{listed_by as found-listed}
use Rattle.rule_model.specs.Areas.{in_set}
use Rattle.rule_model.specs.Conditions.{IsSet}
use Rattle.read_sources.proofs.reading.is_listed.Goals as goal

pub returns-in-Some : goal.returns-in-Some
returns-in-Some c =
    let rises = (subst (IsSet c.args.size) (c.in-Some.is ∙ ap Some (sym c.as_slice.ensures)) c.requires).0 in
    c.is_ok.ensures.value ∙ found-listed c.as_slice.result.now c.args.element c.binary_search.result rises c.binary_search.ensures.position
    ∙ ap (λ l. in_set (Some l) c.args.element) c.as_slice.ensures ∙ ap (λ s. in_set s c.args.element) (sym c.in-Some.is)
