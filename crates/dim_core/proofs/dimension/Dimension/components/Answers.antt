use Rattle.std.proofs.Common.{◌≡◌, length, arith, ◌∙◌, []}
use Rattle.dim_core.proofs.Elements.{length-elements_of, component_lists-elements_of, get_or_within}
use Rattle.dim_core.proofs.dimension.Dimension.components.Goals as goal

pub index-requires : goal.index-requires
index-requires c =
    let counted : length c.args.self.now.elements ≡ length c.self.inside.names = rw (← c.self.view_is) (length-elements_of c.self.inside.names c.self.inside.components.items c.self.invariant.0.paired) in
    omega (arith, counted, c.self.invariant.0.paired)

pub returns : goal.returns
returns c =
    let counted : length c.args.self.now.elements ≡ length c.self.inside.names = rw (← c.self.view_is) (length-elements_of c.self.inside.names c.self.inside.components.items c.self.invariant.0.paired) in
    rw (← c.self.view_is, component_lists-elements_of c.self.inside.names c.self.inside.components.items c.self.invariant.0.paired)
    (c.as_slice.ensures ∙ c.index.ensures ∙ get_or_within c.self.inside.components.items c.args.element _ [] (omega (arith, counted, c.self.invariant.0.paired)))
