use Rattle.std.proofs.Common.{arith}
use Rattle.dim_core.proofs.Elements.{length-elements_of, names_of-elements_of}
use Rattle.dim_core.proofs.dimension.Dimension.index_of.Goals as goal

pub overflow_cast-result : goal.overflow_cast-result
overflow_cast-result c =
    let counted = length-elements_of c.self.inside.names c.self.inside.components.items c.self.invariant.0.paired in
    omega (arith, counted, c.self.invariant.0.few, c.in-Some.ensures.within)

pub returns-in-Some : goal.returns-in-Some
returns-in-Some c =
    rw (← c.self.view_is, names_of-elements_of c.self.inside.names c.self.inside.components.items c.self.invariant.0.paired) c.in-Some.ensures.index

pub returns-in-None : goal.returns-in-None
returns-in-None c =
    rw (← c.self.view_is, names_of-elements_of c.self.inside.names c.self.inside.components.items c.self.invariant.0.paired) c.in-None.ensures.index
