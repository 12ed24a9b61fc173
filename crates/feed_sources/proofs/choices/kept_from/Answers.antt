use Rattle.std.proofs.Common.{◌∙◌, sym, ap}
use Rattle.rule_model.specs.Targets.{element_by}
use Rattle.feed_sources.proofs.ChoiceFacts.{identity-keeps}
use Rattle.feed_sources.proofs.choices.kept_from.Goals as goal

pub returns-in-Moved-clause-kept : goal.returns-in-Moved-clause-kept
returns-in-Moved-clause-kept c = λ elements element is.
    identity-keeps elements c.in-Moved.from element c.in-Moved.to (c.is_identity.ensures c.if-is_identity.true) (ap (element_by elements) (sym c.in-Moved.is) ∙ is)
