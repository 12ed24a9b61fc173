use Rattle.std.proofs.Common.{List, ◌∙◌, sym, ap, subst, length}
use Rattle.cube_space.specs.Cells.{cube_of, elements_of}
use Rattle.cube_space.proofs.Places.{is_place-parts}
use Rattle.rule_model.specs.declared.rules.CubeRules.{CubeRules}
use Rattle.rule_model.specs.declared.rules.Statement.{Statement}
use Rattle.rule_model.specs.BoundModel.{rules_of}
use Rattle.rule_model.specs.Inside.Parts.{HaveSets, first_part}
use Rattle.rule_model.proofs.GoverningFacts.{have_sets, governing_same}
use Rattle.rule_model.proofs.governed.governing_in.Goals as goal

pub first_part-requires-clause-sets : goal.first_part-requires-clause-sets
first_part-requires-clause-sets c =
    let place = is_place-parts c.args.model.now.space c.args.cube c.args.elements.now c.requires in
    subst (HaveSets (length c.args.elements.now)) (sym (c.as_slice.ensures ∙ ap (λ (r : CubeRules). r.statements) c.rules.ensures))
    (have_sets c.args.model.now.space c.args.cube (rules_of c.args.model.now c.args.cube) c.args.elements.now (c.space-space.ensures.rules.cube c.args.cube place.there) c.requires)

pub returns-clause-value : goal.returns-clause-value
returns-clause-value c = λ cell own at leaf.
    c.first_part.ensures.value
    ∙ ap (λ (ss : List Statement). first_part ss c.args.elements.now c.args.is_leaf c.args.from) (c.as_slice.ensures ∙ ap (λ (r : CubeRules). r.statements) c.rules.ensures)
    ∙ ap (λ k. first_part (rules_of c.args.model.now k).statements c.args.elements.now c.args.is_leaf c.args.from) (sym own)
    ∙ ap (λ es. first_part (rules_of c.args.model.now (cube_of c.args.model.now.space cell)).statements es c.args.is_leaf c.args.from) (sym at)
    ∙ ap (λ b. first_part (rules_of c.args.model.now (cube_of c.args.model.now.space cell)).statements (elements_of c.args.model.now.space cell) b c.args.from) (sym leaf)
    ∙ governing_same c.args.model.now cell c.args.from
