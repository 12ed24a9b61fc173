use Rattle.std.proofs.Common.{◌≡◌, ◌∙◌, sym, subst, arith, Some}
use Rattle.ref_order.proofs.Axes.{few-axes}
use Rattle.feed_cover.specs.Asked.{NoneFeeds}
use Rattle.lists.proofs.Found.{none_some}
use Rattle.feed_cover.proofs.Asked.{dim-none}
use Rattle.feed_cover.proofs.feeds.feeds_in_dim.Goals as goal

pub overflow_cast-leaf : goal.overflow_cast-leaf
overflow_cast-leaf c = omega (arith, few-axes c.args.model.now.space c.args.view.cube c.requires.view.valid c.requires.view.cube, c.requires.dim)

pub returns-in-Some-clause-none : goal.returns-in-Some-clause-none
returns-in-Some-clause-none c = λ off.
    dim-none c.args.model.now c.args.view c.args.own c.requires.view c.requires.counted c.requires.possible c.space-space.ensures.rules c.requires.own c.args.dim c.only_narrow.result c.only_narrow.ensures
    (λ element is.
    let same : c.in-Some.element ≡ element = (let both : Some c.in-Some.element ≡ Some element = sym c.in-Some.is ∙ is in cc) in
    subst (λ e. NoneFeeds c.args.model.now c.args.view c.args.own (Some (record { dim = c.args.dim; element = e }))) same (c.filed_feeds.ensures.none off))

pub returns-in-None-clause-none : goal.returns-in-None-clause-none
returns-in-None-clause-none c = λ off.
    dim-none c.args.model.now c.args.view c.args.own c.requires.view c.requires.counted c.requires.possible c.space-space.ensures.rules c.requires.own c.args.dim c.only_narrow.result c.only_narrow.ensures
    (λ element is. absurd (let clash = sym c.in-None.is ∙ is in none_some clash))
