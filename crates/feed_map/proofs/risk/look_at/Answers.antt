use Rattle.std.proofs.Common.{rules, sym, subst, inr, ℕ, List}
use Rattle.std.specs.List.{Contains}
use Rattle.std.proofs.lemmas.List.Elements.{Contains-push}
use Rattle.feed_map.proofs.RiskFacts.{outside-more}
use Rattle.feed_map.proofs.risk.look_at.Goals as goal

pub returns-clause-outside : goal.returns-clause-outside
returns-clause-outside c =
    let unsure = c.in_ok-is_sure.ensures.other (search rules) in
    outside-more c.args.model.now c.args.base.now c.args.store.now c.args.reached.now.growth c.follow.new.reached.growth c.args.risk.now.items c.push.new.self.items c.args.cell
    unsure c.in_ok-push.ensures.items c.in_ok-follow.ensures.gains c.requires.outside

pub returns-clause-looked : goal.returns-clause-looked
returns-clause-looked c =
    inr (subst (λ (xs : List ℕ). Contains xs c.args.cell) (sym c.in_ok-push.ensures.items) (Contains-push c.args.risk.now.items c.args.cell))
