use Rattle.std.proofs.Common.{[], sym, refl, ◌∙◌}
use Rattle.dim_core.specs.declared.attribute.Attribute.{Attribute}
use Rattle.dim_core.proofs.Keys.{key_place, no_place}
use Rattle.dim_core.proofs.attributes.Attributes.place_of.Goals as goal

pub returns-in-Some : goal.returns-in-Some
returns-in-Some c =
    let a = c.self.inside in
    let asked : Attribute = record { element = c.args.element; name = c.args.name.now; text = [] } in
    rw (← c.self.view_is) (c.get_index_of-in-Some.ensures.index ∙ key_place a.names a.list.items a.keys c.self.invariant asked (c.args.element, c.in-Some.number) (refl, sym c.in-Some.ensures.index))

pub returns-in-None : goal.returns-in-None
returns-in-None c =
    let a = c.self.inside in
    rw (← c.self.view_is) (sym (no_place a.names a.list.items a.keys c.self.invariant c.args.element c.args.name.now (sym c.in-None.ensures.index)))
