use Rattle.std.proofs.Common.{◌≡◌, ◌<◌, ◌≤◌, sym, subst, arith, List, length, All}
use Rattle.rule_model.specs.BoundModel.{BoundModel}
use Rattle.read_sources.specs.declared.source.Source.{Source}
use Rattle.order_find.specs.declared.numbering.Numbering.{Numbering}
use Rattle.order_find.specs.declared.filing.Filing.{Filing}
use Rattle.read_sources.specs.Ways.{IsSource}
use Rattle.order_find.specs.Filing.{AreFiled, looked_by}
use Rattle.read_sources.proofs.Sourced.{sources-are, listed-are}
use Rattle.order_find.proofs.Planned.{plan-is, plan-of-all}
use Rattle.order_find.proofs.graph.NodeGraph.over.Goals as goal

pub part_sources-requires-clause-each : goal.part_sources-requires-clause-each
part_sources-requires-clause-each c =
    let m = c.args.model.now in
    subst (All (IsSource m)) (sym c.deref.ensures.value)
    (sources-are m c.space-space.ensures.valid c.space-space.ensures.rules c.args.sources.items c.requires)

pub file_sources-requires-clause-sources : goal.file_sources-requires-clause-sources
file_sources-requires-clause-sources c =
    let m = c.args.model.now in
    let all = c.in_ok-parted.ensures in
    subst (All (IsSource m)) (sym c.deref-2.ensures.value)
    (listed-are m c.space-space.ensures.valid c.space-space.ensures.rules c.in_ok-parted.parted.singles.items all.parts.singles)

pub file_sources-requires-clause-few : goal.file_sources-requires-clause-few
file_sources-requires-clause-few c =
    let few : length c.in_ok-parted.parted.singles.items ≤ 536870912 = c.in_ok-parted.ensures.parts.few_singles in
    subst (λ (xs : List Source). length xs < 4294967296) (sym c.deref-2.ensures.value) (omega (arith, few))

pub file_sources-requires-2-clause-sources : goal.file_sources-requires-2-clause-sources
file_sources-requires-2-clause-sources c =
    let m = c.args.model.now in
    let all = c.in_ok-parted.ensures in
    subst (All (IsSource m)) (sym c.deref-3.ensures.value)
    (listed-are m c.space-space.ensures.valid c.space-space.ensures.rules c.in_ok-parted.parted.heads.items all.parts.heads)

pub file_sources-requires-2-clause-few : goal.file_sources-requires-2-clause-few
file_sources-requires-2-clause-few c =
    let few : length c.in_ok-parted.parted.heads.items ≤ 536870912 = c.in_ok-parted.ensures.parts.few_heads in
    subst (λ (xs : List Source). length xs < 4294967296) (sym c.deref-3.ensures.value) (omega (arith, few))

-- what is filed of a list, is filed of the same list by another name
filed : (m : BoundModel) (numbering : Numbering) (filing : Filing) (these sources : List Source) → these ≡ sources → AreFiled (looked_by m numbering these filing) (length these)
    → AreFiled (looked_by m numbering sources filing) (length sources)
filed m numbering filing these sources same is = subst (λ (xs : List Source). AreFiled (looked_by m numbering xs filing) (length xs)) same is

pub invariant_of-result : goal.invariant_of-result
invariant_of-result c =
    plan-is c.args.model.now c.in_ok-numbering.numbering c.in_ok-parted.parted c.in_ok-filing.filing c.in_ok-grouped.grouped c.space-space.ensures.valid c.space-space.ensures.rules
    c.in_ok-numbering.ensures.numbering c.in_ok-numbering.ensures.few c.in_ok-parted.ensures (filed c.args.model.now c.in_ok-numbering.numbering c.in_ok-filing.filing c.deref-2.result.now c.in_ok-parted.parted.singles.items c.deref-2.ensures.value c.in_ok-filing.ensures) (filed c.args.model.now c.in_ok-numbering.numbering c.in_ok-grouped.grouped c.deref-3.result.now c.in_ok-parted.parted.heads.items c.deref-3.ensures.value c.in_ok-grouped.ensures)

pub returns-clause-plan : goal.returns-clause-plan
returns-clause-plan c =
    plan-of-all c.args.model.now c.in_ok-numbering.numbering c.in_ok-parted.parted c.in_ok-filing.filing c.in_ok-grouped.grouped c.space-space.ensures.valid c.space-space.ensures.rules
    c.in_ok-numbering.ensures.numbering c.in_ok-numbering.ensures.few c.in_ok-parted.ensures (filed c.args.model.now c.in_ok-numbering.numbering c.in_ok-filing.filing c.deref-2.result.now c.in_ok-parted.parted.singles.items c.deref-2.ensures.value c.in_ok-filing.ensures) (filed c.args.model.now c.in_ok-numbering.numbering c.in_ok-grouped.grouped c.deref-3.result.now c.in_ok-parted.parted.heads.items c.deref-3.ensures.value c.in_ok-grouped.ensures)
