use Rattle.std.proofs.Common.{sym, subst, List, ℕ, ℤ}
use Rattle.dim_order.specs.Loops.{IsOrder}
use Rattle.dim_core.specs.Outline.{Outline, component_lists}
use Rattle.dim_core.proofs.Elements.{component_lists-elements_of}
use Rattle.dim_core.proofs.dimension.Dimension.order.Goals as goal

pub returns : goal.returns
returns c =
    let listed = component_lists-elements_of c.self.inside.names c.self.inside.components.items c.self.invariant.0.paired in
    let L : List (List (ℕ × ℤ)) → Type 0 = λ lists. IsOrder lists c.deref.result.now in
    let P : Outline → Type 0 = λ d. IsOrder (component_lists d.elements) c.deref.result.now in
    let O : List ℕ → Type 0 = IsOrder c.self.inside.components.items in
    subst P c.self.view_is (subst L (sym listed) (subst O (sym c.deref.ensures.value) c.self.invariant.0.ordered))
