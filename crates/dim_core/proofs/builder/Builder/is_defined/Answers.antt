use Rattle.std.proofs.Common.{sym, ◌∙◌}
use Rattle.dim_core.proofs.Elements.{is_defined-elements_of}
use Rattle.dim_core.proofs.builder.Builder.is_defined.Goals as goal

pub returns : goal.returns
returns c = rw (← c.self.view_is) (c.contains.ensures ∙ sym (is_defined-elements_of c.self.inside.name c.self.inside.names.keys c.self.inside.components.items c.self.inside.attributes.items c.args.name.now c.self.invariant.0.paired))
