use Rattle.std.proofs.Common.{rules, ◌≡◌, ◌∙◌, sym, true, false}
use Rattle.rule_laws.specs.Feeding.{is_dense}
use Rattle.rule_model.specs.System.{system_of}
use Rattle.feed_map.specs.Inside.Leaves.{IsLeafCellOf}
use Rattle.feed_map.specs.Inside.Follows.{IsDenseOf}
use Rattle.feed_map.proofs.GainFacts.{gains-none, gains-result, stops-result}
use Rattle.feed_map.proofs.dense.add_if_dense.Goals as goal

pub returns-then-not-is_dense-clause-gains : goal.returns-then-not-is_dense-clause-gains
returns-then-not-is_dense-clause-gains c =
    let off : c.is_dense.result ≡ false = search rules in
    gains-none (IsDenseOf c.args.model.now c.args.cube) (λ x is. (let clash : true ≡ false = sym is.1 ∙ sym c.is_dense.ensures ∙ off in cc)) c.args.growth.now

pub returns-clause-gains : goal.returns-clause-gains
returns-clause-gains c =
    let sure : c.is_dense.result ≡ true = search rules in
    let on : is_dense (system_of c.args.model.now) c.args.cube ≡ true = sym c.is_dense.ensures ∙ sure in
    gains-result c.add_cube.result (IsLeafCellOf c.args.model.now.space c.args.cube) (IsDenseOf c.args.model.now c.args.cube) (λ x is. (is, on)) (λ x is. is.0)
    c.args.growth.now c.add_cube.new.growth c.add_cube.ensures.gains

pub returns-clause-stops : goal.returns-clause-stops
returns-clause-stops c =
    let sure : c.is_dense.result ≡ true = search rules in
    let on : is_dense (system_of c.args.model.now) c.args.cube ≡ true = sym c.is_dense.ensures ∙ sure in
    stops-result c.add_cube.result (IsLeafCellOf c.args.model.now.space c.args.cube) (IsDenseOf c.args.model.now c.args.cube) (λ x is. (is, on))
    c.args.growth.now c.add_cube.new.growth c.add_cube.ensures.stops
