use Rattle.std.proofs.Common.{◌∙◌, sym, ap, subst, Some}
use Rattle.rule_model.specs.Conditions.{IsSet}
use Rattle.rule_notes.specs.Inside.Areas.{has_set}
use Rattle.rule_notes.proofs.AreaFacts.{all-have}
use Rattle.rule_notes.proofs.areas.has_set.Goals as goal

pub has_listed-requires-clause-listed : goal.has_listed-requires-clause-listed
has_listed-requires-clause-listed c = (subst (IsSet c.args.size) (c.in-Some.is ∙ ap Some (sym c.as_slice.ensures)) c.requires.outer).0

pub returns-in-Some : goal.returns-in-Some
returns-in-Some c = c.has_listed.ensures ∙ ap (λ l. has_set c.args.size (Some l) c.args.inner.now) c.as_slice.ensures ∙ ap (λ s. has_set c.args.size s c.args.inner.now) (sym c.in-Some.is)

pub returns-in-None : goal.returns-in-None
returns-in-None c = all-have c.args.size c.args.outer.now c.args.inner.now c.in-None.is
