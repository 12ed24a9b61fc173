use Rattle.std.proofs.Common.{◌≡◌, ◌∙◌, Some, List, option_map, ap, sym, subst}
use Rattle.rule_laws.specs.declared.reference.Reference.{Reference}
use Rattle.rule_laws.specs.declared.reference.Arg.{Arg}
use Rattle.rule_model.specs.Conditions.{IsArea, IsReference}
use Rattle.feed_turn.specs.Turning.{feeder_to, turned_feeder}
use Rattle.feed_turn.specs.Views.{turn_of}
use Rattle.feed_turn.proofs.Valid.{turned-valid}
use Rattle.feed_turn.proofs.turned.turned_feeder.Goals as goal

pub returns-clause-valid : goal.returns-clause-valid
unfolding turned_feeder
returns-clause-valid c =
    let view = c.args.view in
    let space = view.model.now.space in
    let r = view.reference.now in
    let found = rw c.in-Some.is at c.in_ok-args.ensures.args in
    let made : turned_feeder (turn_of view) c.args.statement ≡ Some (feeder_to (turn_of view) c.args.statement c.in-Some.args.items) = ap (option_map (feeder_to (turn_of view) c.args.statement)) (sym found) in
    let valid = turned-valid space c.requires.view.valid view.cube c.requires.view.cube view.area.now c.requires.view.area r c.requires.view.reference c.args.statement (feeder_to (turn_of view) c.args.statement c.in-Some.args.items) made in
    record {
      area = subst (IsArea space r.cube) (sym (c.in_ok-area.ensures ∙ c.in_ok-sources.ensures.area)) valid.area;
      target = subst (λ (args : List Arg). let target : Reference = record { cube = view.cube; args = args } in IsReference space r.cube target) (sym c.new-2.ensures) valid.target;
    }
