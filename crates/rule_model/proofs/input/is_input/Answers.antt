use Rattle.std.proofs.Common.{rules, ◌≡◌, ◌∙◌, List, sym, ap, subst, length, map, take, true, false}
use Rattle.cube_space.specs.Cells.{cube_of, is_leaf_cell, is_place}
use Rattle.cube_space.proofs.Places.{is_place-parts}
use Rattle.rule_model.specs.declared.rules.CubeRules.{CubeRules}
use Rattle.rule_model.specs.declared.rules.Statement.{Statement}
use Rattle.rule_model.specs.BoundModel.{rules_of}
use Rattle.rule_model.specs.Inside.Parts.{HaveSets, is_open_by}
use Rattle.rule_model.specs.Inside.Words.{leaf_words}
use Rattle.rule_model.proofs.Shapes.{read_place}
use Rattle.rule_model.proofs.GoverningFacts.{have_sets, open_same, never_open}
use Rattle.rule_model.proofs.input.is_input.Goals as goal
use Rattle.rule_model.proofs.input.is_input.Goals.{After-place_of-cube}

pub returns-then-not-is_leaf : goal.returns-then-not-is_leaf
returns-then-not-is_leaf c =
    let off : is_leaf_cell c.args.model.now.space c.args.cell ≡ false = search rules in
    never_open c.args.model.now c.args.cell off

there : (c : goal.After-place_of-cube) → is_place c.args.model.now.space c.place_of-cube.result.0 (take c.place_of-cube.result.1 c.place_of-cube.new.at) ≡ true
there c = read_place c.args.model.now.space c.args.cell c.place_of-cube.result.0 _ c.requires c.place_of-cube.ensures.cube c.place_of-cube.ensures.elements

pub rules-requires : goal.rules-requires
rules-requires c =
    let place = there (goal.at.rules-requires c).After-place_of-cube in
    (is_place-parts c.args.model.now.space c.place_of-cube.result.0 (take c.place_of-cube.result.1 c.place_of-cube.new.at) place).there

pub is_open-requires-clause-sets : goal.is_open-requires-clause-sets
is_open-requires-clause-sets c =
    let place = there (goal.at.is_open-requires-clause-sets c).After-place_of-cube in
    let low = (is_place-parts c.args.model.now.space c.place_of-cube.result.0 (take c.place_of-cube.result.1 c.place_of-cube.new.at) place).there in
    subst (HaveSets (length (take c.place_of-cube.result.1 c.place_of-cube.new.at))) (sym (c.as_slice.ensures ∙ ap (λ (r : CubeRules). r.statements) c.rules.ensures))
    (have_sets c.args.model.now.space c.place_of-cube.result.0 (rules_of c.args.model.now c.place_of-cube.result.0) (take c.place_of-cube.result.1 c.place_of-cube.new.at)
    (c.space.ensures.rules.cube c.place_of-cube.result.0 low) place)

pub is_open-requires-clause-words : goal.is_open-requires-clause-words
is_open-requires-clause-words c =
    c.words.ensures ∙ ap (λ (r : CubeRules). map leaf_words r.statements) (sym c.rules.ensures) ∙ ap (map leaf_words) (sym c.as_slice.ensures)

pub words-requires : goal.words-requires
words-requires c =
    let place = there (goal.at.words-requires c).After-place_of-cube in
    (is_place-parts c.args.model.now.space c.place_of-cube.result.0 (take c.place_of-cube.result.1 c.place_of-cube.new.at) place).there

pub returns : goal.returns
returns c =
    let on : is_leaf_cell c.args.model.now.space c.args.cell ≡ true = search rules in
    c.is_open.ensures
    ∙ ap (λ (ss : List Statement). is_open_by ss (take c.place_of-cube.result.1 c.place_of-cube.new.at)) (c.as_slice.ensures ∙ ap (λ (r : CubeRules). r.statements) c.rules.ensures)
    ∙ ap (λ k. is_open_by (rules_of c.args.model.now k).statements (take c.place_of-cube.result.1 c.place_of-cube.new.at)) c.place_of-cube.ensures.cube
    ∙ ap (λ es. is_open_by (rules_of c.args.model.now (cube_of c.args.model.now.space c.args.cell)).statements es) c.place_of-cube.ensures.elements
    ∙ open_same c.args.model.now c.args.cell on
