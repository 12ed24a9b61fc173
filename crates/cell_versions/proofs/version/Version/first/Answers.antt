use Rattle.std.proofs.Common.{rules, ◌≡◌, ◌≤◌, ◌∙◌, [], length, subst, sym, true}
use Rattle.std.specs.Arc.{arc_value}
use Rattle.cell_store.specs.declared.entry.Entry.{Entry}
use Rattle.feed_map.specs.FedCells.{AreFedCells, HasFewFed, IsFeeding, most_fed}
use Rattle.rule_model.specs.BoundModel.{BoundModel}
use Rattle.std.proofs.lemmas.List.Elements.{All-nil}
use Rattle.cube_space.specs.Cells.{IsCell, is_leaf_cell}
use Rattle.cell_versions.proofs.version.Version.first.Goals as goal

pub invariant_of-result : goal.invariant_of-result
invariant_of-result c =
    let space = (arc_value c.args.accepted).space in
    let feeding : IsFeeding (arc_value c.args.accepted) c.new-store.result c.in-Ok.feeding.fed c.in-Ok.feeding.totals =
    subst (λ (m : BoundModel). IsFeeding m c.new-store.result c.in-Ok.feeding.fed c.in-Ok.feeding.totals) (c.sources.ensures.model ∙ c.deref-2.ensures) c.in-Ok.ensures.fed in (
      record {
        leaves = rw c.new-store.ensures (All-nil (λ (entry : Entry). IsCell space entry.cell × (is_leaf_cell space entry.cell ≡ true)));
        fed = feeding.fed;
      },
      feeding.opened,
    )

-- no more cells are fed over nothing than over what an accepted model keeps
pub unreachable-requires : goal.unreachable-requires
unreachable-requires c =
    let base = c.feeding-base.result.now in
    let same : c.deref.result.now ≡ c.sources.result.now = search rules in
    let over_nothing : AreFedCells c.sources.result.now [] base.fed = subst (λ (m : BoundModel). AreFedCells m [] base.fed) same c.feeding-base.ensures.fed in
    let fed : AreFedCells c.sources.result.now c.new-store.result base.fed = rw c.new-store.ensures over_nothing in
    let short : length base.fed ≤ most_fed = search rules in
    let few : HasFewFed c.sources.result.now c.new-store.result = (base.fed, fed, short) in
    let memory = c.in-Err-FedLimit.ensures.within few in
    absurd (let clash = sym c.in-Err-FedLimit.field-0-is ∙ memory in cc)
