use Rattle.std.proofs.Common.{◌≡◌, ◌∙◌, sym, subst, ℕ, Some}
use Rattle.std.specs.List.{Contains}
use Rattle.rule_laws.specs.Feeding.{leaves_of}
use Rattle.rule_model.specs.Targets.{target}
use Rattle.rule_model.specs.System.{system_of}
use Rattle.feed_sources.specs.Feeders.{StandsFor}
use Rattle.feed_map.proofs.GainFacts.{gains-result, stops-result}
use Rattle.feed_map.proofs.follow.add_target.Goals.{After-add_leaves_of}
use Rattle.feed_map.proofs.follow.add_target.Goals as goal

is : (c : After-add_leaves_of) → target c.args.model.now.space c.args.reference.now c.args.cell ≡ Some c.in-Some.target
is c = sym c.target.ensures.value ∙ c.in-Some.is

pub returns-in-Some-clause-gains : goal.returns-in-Some-clause-gains
returns-in-Some-clause-gains c =
    let own = is (goal.at.returns-in-Some-clause-gains c).After-add_leaves_of in
    gains-result c.add_leaves_of.result (Contains (leaves_of (system_of c.args.model.now) c.in-Some.target)) (StandsFor c.args.model.now c.args.reference.now c.args.cell)
    (λ x has. (c.in-Some.target, own, has))
    (λ x stands. (let some : Some c.in-Some.target ≡ Some stands.0 = sym own ∙ stands.1 in
    let same : stands.0 ≡ c.in-Some.target = cc in
    subst (λ (t : ℕ). Contains (leaves_of (system_of c.args.model.now) t) x) same stands.2))
    c.args.reached.now.growth c.add_leaves_of.new.reached.growth c.add_leaves_of.ensures.gains

pub returns-in-Some-clause-stops : goal.returns-in-Some-clause-stops
returns-in-Some-clause-stops c =
    let own = is (goal.at.returns-in-Some-clause-stops c).After-add_leaves_of in
    stops-result c.add_leaves_of.result (Contains (leaves_of (system_of c.args.model.now) c.in-Some.target)) (StandsFor c.args.model.now c.args.reference.now c.args.cell)
    (λ x has. (c.in-Some.target, own, has))
    c.args.reached.now.growth c.add_leaves_of.new.reached.growth c.add_leaves_of.ensures.stops
