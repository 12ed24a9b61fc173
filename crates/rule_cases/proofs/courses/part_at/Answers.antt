use Rattle.std.proofs.Common.{◌≡◌, ◌<◌, ◌∙◌, refl, sym, ap, subst, length, true, Option, None, Some, Bor}
use Rattle.std.specs.Prelude.{is_some}
use Rattle.std.specs.Option.{option_copied}
use Rattle.cube_space.proofs.Places.{cell-place}
use Rattle.cube_space.specs.Cells.{is_leaf_cell}
use Rattle.rule_model.specs.BoundModel.{rules_of}
use Rattle.rule_cases.proofs.courses.part_at.Goals as goal

copied : {X : Type 0} (o : Option (Bor X)) → is_some o ≡ true → is_some (option_copied o) ≡ true
copied None some = some
copied (Some x) some = refl

pub part_of-requires-clause-cube : goal.part_of-requires-clause-cube
part_of-requires-clause-cube c =
    subst (λ k. k < length c.args.model.now.space.cubes) (sym c.place_of-cube.ensures.cube)
    (cell-place c.args.model.now.space c.args.cell c.requires.cell).place.there

pub part_of-requires-clause-statement : goal.part_of-requires-clause-statement
part_of-requires-clause-statement c =
    subst (λ k. c.args.statement < length (rules_of c.args.model.now k).statements) (sym c.place_of-cube.ensures.cube) c.requires.there

pub returns : goal.returns
returns c =
    let own = sym c.place_of-cube.ensures.cube in
    let leaf : is_leaf_cell c.args.model.now.space c.args.cell ≡ c.is_leaf.result =
    ap (λ s. is_leaf_cell s c.args.cell) (sym c.space.ensures.space) ∙ sym c.is_leaf.ensures in
    let there = c.part_of.ensures.there c.args.cell 0 own leaf c.requires.governs in
    let value = c.part_of.ensures.value c.args.cell 0 own leaf c.requires.governs in
    ap is_some (sym value) ∙ copied c.part_of.result there
