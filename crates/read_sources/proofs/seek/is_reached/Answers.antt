use Rattle.std.proofs.Common.{◌≡◌, sym, subst, ◌∙◌, true, false}
use Rattle.read_sources.specs.Ways.{precedent, choice, asked}
use Rattle.read_sources.specs.Sources.{IsGiven}
use Rattle.read_sources.proofs.Reached.{unread-each, unread-given}
use Rattle.read_sources.proofs.seek.is_reached.Goals as goal

pub returns-then-not-has_each-clause-unread : goal.returns-then-not-has_each-clause-unread
returns-then-not-has_each-clause-unread c =
    λ _.
    unread-each c.args.model.now c.space-space.ensures.valid c.args.source.cube c.requires.source.cube c.args.source.area.now c.args.source.kind c.args.source.its (precedent c.args.source)
    (λ each. (let clash : true ≡ false = sym (c.has_each.ensures.each.1 each) ∙ c.if-not-has_each.true in cc))

pub returns-clause-unread : goal.returns-clause-unread
returns-clause-unread c =
    λ off.
    let so = subst (λ n. IsGiven (choice c.args.model.now c.args.source) n n (asked c.args.source) c.given_beside.result) c.axis_count-count.ensures.count c.given_beside.ensures.given in
    unread-given c.args.model.now c.space-space.ensures.valid c.args.source c.requires.source c.given_beside.result so (sym c.gives_asked.ensures ∙ off)
