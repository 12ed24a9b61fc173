use Rattle.std.proofs.Common.{◌∙◌, sym, subst}
use Rattle.std.specs.Prelude.{slice_index_or}
use Rattle.cube_space.specs.Layout.{sizes}
use Rattle.rule_model.specs.Conditions.{IsSet}
use Rattle.order_laws.proofs.SetFacts.{set-at}
use Rattle.read_sources.proofs.reading.has_element.Goals as goal

pub is_listed-requires : goal.is_listed-requires
is_listed-requires c =
    let all = sizes c.args.model.now.space c.args.source.cube in
    let size = c.len-size.ensures.len ∙ sym c.axis.ensures.size in
    subst (λ n. IsSet n c.set_of.result.now) (sym size)
    (subst (IsSet (slice_index_or all c.args.dim 0)) (sym c.set_of.ensures) (set-at all c.args.source.area.now.sets c.args.dim c.requires.source.area))
