use Rattle.std.proofs.Common.{◌∙◌, ◌<◌, ℕ, sym, ap, subst, length, take}
use Rattle.cube_space.specs.Radix.{are_digits}
use Rattle.cube_space.specs.Layout.{sizes}
use Rattle.cube_space.specs.Cells.{cube_of}
use Rattle.late_example.proofs.Levels.{cell_cube, cell_digits}
use Rattle.late_example.proofs.rank.rank_at.Goals as goal

pub rules-requires : goal.rules-requires
rules-requires c = subst (λ (k : ℕ). k < length c.args.model.now.space.cubes) (sym c.place_of-cube.ensures.cube) (cell_cube c.args.model.now.space c.args.cell c.requires)

pub level_from-requires-clause-cube : goal.level_from-requires-clause-cube
level_from-requires-clause-cube c = subst (λ (k : ℕ). k < length c.args.model.now.space.cubes) (sym c.place_of-cube.ensures.cube) (cell_cube c.args.model.now.space c.args.cell c.requires)

pub level_from-requires-clause-elements : goal.level_from-requires-clause-elements
level_from-requires-clause-elements c =
    let space = c.args.model.now.space in
    ap (λ (k : ℕ). are_digits (sizes space k) (take c.place_of-cube.result.1 c.place_of-cube.new.at)) c.place_of-cube.ensures.cube
    ∙ ap (are_digits (sizes space (cube_of space c.args.cell))) c.place_of-cube.ensures.elements ∙ cell_digits space c.args.cell c.requires
