use Rattle.std.proofs.Common.{◌≡◌, ◌∙◌, sym, ap, Option, Some, List, ℕ, true}
use Rattle.std.specs.Prelude.{slice_get}
use Rattle.dim_core.specs.Outline.{Outline}
use Rattle.cube_space.specs.Layout.{Layout, axes, axes_of}
use Rattle.cube_space.specs.Cells.{elements_of}
use Rattle.rule_model.specs.declared.area.Area.{Area}
use Rattle.rule_model.specs.Areas.{in_source_sets}
use Rattle.rule_model.proofs.Shapes.{shape_dims}
use Rattle.feed_sources.specs.Inside.Choices.{AreChosen}
use Rattle.feed_sources.proofs.ChoiceFacts.{none-chosen}
use Rattle.feed_sources.proofs.FeederFacts.{source-cube, source-has}
use Rattle.feed_sources.proofs.FedParts.{fed-parts}
use Rattle.feed_sources.proofs.choices.choices_of.Goals as goal

pub returns : goal.returns
returns c = λ x by.
    let m = c.args.model.now in
    let es = elements_of m.space x in
    let parts = fed-parts m c.args.cube x c.args.cell c.args.feeder.now by in
    let own = source-cube m x c.args.cell c.args.cube c.args.feeder.now by in
    let found : slice_get m.space.cubes c.args.cube ≡ Some c.shape.result.now = rw c.space.ensures.space at c.shape.ensures in
    let same : axes m.space c.args.cube ≡ axes_of m.space.dimensions c.as_slice-dims.result.now =
    shape_dims m.space c.args.cube c.shape.result.now found ∙ ap (axes_of m.space.dimensions) (sym c.as_slice-dims.ensures) in
    let on : in_source_sets (axes_of m.space.dimensions c.as_slice-dims.result.now) c.args.feeder.now.area.sets es ≡ true =
    ap (λ (ds : List Outline). in_source_sets ds c.args.feeder.now.area.sets es) (sym same) ∙ source-has m x c.args.cube c.args.feeder.now parts.leaf own parts.source in
    let begun : in_source_sets (axes_of c.space-2.result.now.dimensions c.as_slice-dims.result.now) c.as_slice.result.now es ≡ true =
    ap (λ (l : Layout). in_source_sets (axes_of l.dimensions c.as_slice-dims.result.now) c.as_slice.result.now es) c.space-2.ensures.space
    ∙ ap (λ (sets : List (Option (List ℕ))). in_source_sets (axes_of m.space.dimensions c.as_slice-dims.result.now) sets es) (c.as_slice.ensures ∙ ap (λ (a : Area). a.sets) c.get.ensures) ∙ on in
    let listed : AreChosen c.choose_listed.new.choices es = c.choose_listed.ensures es begun (none-chosen 16 es) in
    c.choose_kept.ensures x parts.cell own parts.leaf parts.stands listed
