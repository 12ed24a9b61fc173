use Rattle.std.proofs.Common.{◌≡◌, ◌<◌, ◌∙◌, length, arith}
use Rattle.dim_order.specs.Levels.{level_of}
use Rattle.dim_order.proofs.LevelFacts.{level-below}
use Rattle.dim_core.proofs.Elements.{length-elements_of, component_lists-elements_of, get_or_within}
use Rattle.dim_core.proofs.dimension.Dimension.level.Goals as goal

pub index-requires : goal.index-requires
index-requires c =
    let counted : length c.args.self.now.elements ≡ length c.self.inside.names = rw (← c.self.view_is) (length-elements_of c.self.inside.names c.self.inside.components.items c.self.invariant.0.paired) in
    omega (arith, counted, c.self.invariant.0.paired, c.self.invariant.0.leveled.whole)

pub returns-clause-level : goal.returns-clause-level
returns-clause-level c =
    let counted : length c.args.self.now.elements ≡ length c.self.inside.names = rw (← c.self.view_is) (length-elements_of c.self.inside.names c.self.inside.components.items c.self.invariant.0.paired) in
    let there : c.args.element < length c.self.inside.components.items = omega (arith, counted, c.self.invariant.0.paired, c.requires) in
    rw (← c.self.view_is, component_lists-elements_of c.self.inside.names c.self.inside.components.items c.self.invariant.0.paired)
    (c.index.ensures ∙ get_or_within c.self.inside.levels.items c.args.element _ 0 (omega (arith, there, c.self.invariant.0.leveled.whole)) ∙ c.self.invariant.0.leveled.each c.args.element there)

pub returns-clause-below : goal.returns-clause-below
returns-clause-below c =
    let counted : length c.args.self.now.elements ≡ length c.self.inside.names = rw (← c.self.view_is) (length-elements_of c.self.inside.names c.self.inside.components.items c.self.invariant.0.paired) in
    let there : c.args.element < length c.self.inside.components.items = omega (arith, counted, c.self.invariant.0.paired, c.requires) in
    let is : c.index.result.now ≡ level_of c.self.inside.components.items c.args.element = c.index.ensures ∙ get_or_within c.self.inside.levels.items c.args.element _ 0 (omega (arith, there, c.self.invariant.0.leveled.whole)) ∙ c.self.invariant.0.leveled.each c.args.element there in
    let below = level-below c.self.inside.components.items c.self.inside.order.items c.self.invariant.0.ordered c.args.element there in
    omega (arith, is, below, counted, c.self.invariant.0.paired)
