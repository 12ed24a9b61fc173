use Rattle.std.proofs.Common.{◌+◌, ◌≡◌, ◌∙◌, sym, ap, subst, arith, Ok, List, length, ◌<◌, ◌*◌}
use Rattle.std.specs.List.{All}
use Rattle.std.proofs.lemmas.List.{take_all}
use Rattle.rule_model.specs.declared.rules.CubeRules.{CubeRules}
use Rattle.rule_model.specs.declared.rules.Feeder.{Feeder}
use Rattle.rule_model.specs.BoundModel.{rules_of}
use Rattle.rule_model.specs.Conditions.{IsFeeder}
use Rattle.feed_sources.specs.Feeders.{FeedsByOne}
use Rattle.feed_sources.proofs.BackFacts.{none-more}
use Rattle.feed_sources.proofs.StepFacts.{spent-more, spent-short, where-err}
use Rattle.feed_sources.proofs.fed_from.is_fed_from_cube.Goals.{After-as_slice-feeders}
use Rattle.feed_sources.proofs.fed_from.is_fed_from_cube.Goals as goal

-- these are the feeders of the cube
are : (g : _) (c : After-as_slice-feeders g) → c.as_slice-feeders.result.now ≡ (rules_of c.args.model.now c.args.cube).feeders
are g c = c.as_slice-feeders.ensures ∙ ap (λ (r : CubeRules). r.feeders) c.rules.ensures

pub is_fed_by-requires-clause-feeder : goal.is_fed_by-requires-clause-feeder
is_fed_by-requires-clause-feeder g c =
    let own = are g (goal.at.is_fed_by-requires-clause-feeder g c).After-as_slice-feeders in
    let all : All (IsFeeder c.args.model.now.space c.args.cube) c.as_slice-feeders.result.now =
    subst (All (IsFeeder c.args.model.now.space c.args.cube)) (sym own) (c.requires.rules.cube c.args.cube c.requires.cube).feeders in
    subst (IsFeeder c.args.model.now.space c.args.cube) (sym c.index-feeders-n.is) (all c.each.n c.index-feeders-n.result c.each-test.true)

pub each-preserved : goal.each-preserved
each-preserved g c = record {
  none = none-more c.args.model.now c.args.cell (g.W.CellSet.cells c.args.live.now) c.args.cube c.as_slice-feeders.result.now c.each.n c.index-feeders-n.result c.each-test.true c.index-feeders-n.is c.each.invariant.none
      (c.in_ok-is_fed_by.ensures.none (ap Ok c.if-branch.false));
  steps = (let s = c.in_ok-is_fed_by.ensures.steps in omega (arith, s, c.each.invariant.steps));
  spent = spent-more c.args.steps.now c.each.steps c.is_fed_by.new.steps c.each.n (1 + length (g.W.CellSet.cells c.args.live.now)) c.each.invariant.spent c.in_ok-is_fed_by.ensures.spent;
}

pub returns-clause-none : goal.returns-clause-none
returns-clause-none g c = λ _ x has one.
    let own = are g (goal.at.returns-clause-none g c).After-as_slice-feeders in
    let fs = c.as_slice-feeders.result.now in
    c.each.invariant.none x has (subst (λ (gs : List Feeder). FeedsByOne c.args.model.now c.args.cube gs x c.args.cell) (sym own ∙ sym (take_all c.each.n fs c.each-test.false)) one)

pub returns-in_err-is_fed_by-clause-enough : goal.returns-in_err-is_fed_by-clause-enough
returns-in_err-is_fed_by-clause-enough g c = where-err _
    (let own = are g (goal.at.returns-in_err-is_fed_by-clause-enough g c).After-as_slice-feeders in
    subst (λ (fs : List Feeder). c.args.steps.now < length fs * (1 + length (g.W.CellSet.cells c.args.live.now))) own
    (spent-short c.args.steps.now c.each.steps c.each.n (length c.as_slice-feeders.result.now) (1 + length (g.W.CellSet.cells c.args.live.now)) c.each-test.true c.each.invariant.spent c.in_err-is_fed_by.ensures.enough))
