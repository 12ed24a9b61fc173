use Rattle.std.proofs.Common.{◌≡◌, ◌∙◌, sym, ap, Some}
use Rattle.cube_space.specs.Cells.{cell_number}
use Rattle.feed_map.proofs.GainFacts.{gains-result, stops-result}
use Rattle.feed_map.proofs.leaves.add_number.Goals as goal

pub returns-in-Some-clause-gains : goal.returns-in-Some-clause-gains
returns-in-Some-clause-gains c =
    let is : cell_number c.args.space.now c.args.cube c.args.elements.now ≡ Some c.in-Some.cell = sym c.number.ensures.value ∙ c.in-Some.is in
    gains-result c.add.result (λ other. c.in-Some.cell ≡ other) (λ cell. cell_number c.args.space.now c.args.cube c.args.elements.now ≡ Some cell)
    (λ x same. is ∙ ap Some same) (λ x own. (let some : Some c.in-Some.cell ≡ Some x = sym is ∙ own in cc)) c.args.growth.now c.add.new.self c.add.ensures.gains

pub returns-in-Some-clause-stops : goal.returns-in-Some-clause-stops
returns-in-Some-clause-stops c =
    let is : cell_number c.args.space.now c.args.cube c.args.elements.now ≡ Some c.in-Some.cell = sym c.number.ensures.value ∙ c.in-Some.is in
    stops-result c.add.result (λ other. c.in-Some.cell ≡ other) (λ cell. cell_number c.args.space.now c.args.cube c.args.elements.now ≡ Some cell)
    (λ x same. is ∙ ap Some same) c.args.growth.now c.add.new.self c.add.ensures.stops
