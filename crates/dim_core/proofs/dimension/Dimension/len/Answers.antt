use Rattle.std.proofs.Common.{arith, sym, ◌∙◌, subst}
use Rattle.dim_core.specs.Outline.{Outline, IsDimension}
use Rattle.dim_core.proofs.Resolving.{stored_dimension}
use Rattle.dim_core.proofs.Elements.{length-elements_of}
use Rattle.dim_core.proofs.dimension.Dimension.len.Goals as goal

pub overflow_cast-result : goal.overflow_cast-result
overflow_cast-result c =
    let e = length-elements_of c.self.inside.names c.self.inside.components.items c.self.invariant.0.paired in
    omega (arith, e, c.self.invariant.0.few)

pub returns-clause-len : goal.returns-clause-len
returns-clause-len c = rw (← c.self.view_is) (c.len.ensures.len ∙ sym (length-elements_of c.self.inside.names c.self.inside.components.items c.self.invariant.0.paired))

pub returns-clause-valid : goal.returns-clause-valid
returns-clause-valid c =
    let P : Outline → Type 0 = IsDimension in
    subst P c.self.view_is (stored_dimension c.self.inside.name c.self.inside.names c.self.inside.components.items c.self.inside.order.items c.self.inside.levels.items c.self.inside.attributes c.self.invariant.0 c.self.invariant.1)
