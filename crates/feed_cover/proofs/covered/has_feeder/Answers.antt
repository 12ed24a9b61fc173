use Rattle.std.proofs.Common.{rules, false, ◌≡◌, ◌∙◌, sym, ap, not, length, ◌==◌}
use Rattle.rule_model.specs.BoundModel.{rules_of}
use Rattle.rule_model.specs.declared.rules.CubeRules.{CubeRules}
use Rattle.feed_cover.proofs.Steps.{some-found}
use Rattle.feed_cover.proofs.covered.has_feeder.Goals as goal

pub returns-then-not-is_empty : goal.returns-then-not-is_empty
returns-then-not-is_empty c =
    let empty : c.is_empty.result ≡ false = search rules in
    let on = ap not (sym c.is_empty.ensures ∙ empty) in
    some-found (λ own. not (length (rules_of c.args.model.now own).feeders == 0)) c.each.own (length c.args.model.now.space.cubes) (search rules)
    (ap (λ fs. not (length fs == 0)) (sym (c.as_slice.ensures ∙ ap (λ (r : CubeRules). r.feeders) c.rules.ensures)) ∙ on)
