use Rattle.std.proofs.Common.{◌≡◌, length, arith, sym, ◌∙◌, ap}
use Rattle.std.proofs.lemmas.Option.{get_or_from_slice_get}
use Rattle.std.specs.Option.{option_copied}
use Rattle.dim_core.proofs.Elements.{length-elements_of, names_of-elements_of}
use Rattle.dim_core.proofs.dimension.Dimension.name_of.Goals as goal

pub unwrap-requires : goal.unwrap-requires
unwrap-requires c =
    let counted : length c.args.self.now.elements ≡ length c.self.inside.names = rw (← c.self.view_is) (length-elements_of c.self.inside.names c.self.inside.components.items c.self.invariant.0.paired) in
    c.get_index.ensures.found.1 (omega (arith, counted))

pub returns : goal.returns
returns c =
    rw (← c.self.view_is, names_of-elements_of c.self.inside.names c.self.inside.components.items c.self.invariant.0.paired)
    (sym (get_or_from_slice_get _ c.args.element _ _ (sym c.get_index.ensures.key ∙ ap option_copied c.unwrap.ensures)))
