use Rattle.rule_model.proofs.Shapes.{read_place}
use Rattle.rule_model.proofs.governed.governing_from.Goals as goal

pub governing_in-requires : goal.governing_in-requires
governing_in-requires c = read_place c.args.model.now.space c.args.cell c.place_of-cube.result.0 _ c.requires c.place_of-cube.ensures.cube c.place_of-cube.ensures.elements
