use Rattle.std.proofs.Common.{sym, ◌∙◌, ap, subst, List}
use Rattle.cube_fixed.specs.declared.value.Value.{Value}
use Rattle.rule_laws.specs.RuleSystem.{right_side}
use Rattle.rule_model.specs.System.{system_of}
use Rattle.stored_laws.specs.Stored.{stored_in}
use Rattle.rule_dense.specs.Inside.Plain.{table_of}
use Rattle.rule_dense.specs.Inside.Depths.{IsByDepth}
use Rattle.rule_dense.proofs.Depths.{dense-more, dense-all}
use Rattle.std.specs.Prelude.{slice_index_or}
use Rattle.rule_dense.proofs.table.all_values.Goals.{After-deref-cell-items}
use Rattle.rule_dense.proofs.table.all_values.Goals as goal

cells : (c : After-deref-cell-items) → IsByDepth c.args.model.now c.deref-cell-items.result.now
cells c = subst (IsByDepth c.args.model.now) (sym c.deref-cell-items.ensures.value) c.in_ok-cells.ensures

pub loop-cell-preserved : goal.loop-cell-preserved
loop-cell-preserved c =
    dense-more c.args.model.now (stored_in c.args.store.now) c.space.ensures.valid c.space.ensures.rules c.requires.ordered c.deref-cell-items.result.now (cells (goal.at.loop-cell-preserved c).After-deref-cell-items)
    c.loop-cell.values.items c.loop-cell.cell-index c.loop-cell.invariant (0, 0) c.loop-cell-test.true c.right_side.result
    (c.right_side.ensures
    ∙ ap (λ (values : List Value). right_side (system_of c.args.model.now) (stored_in c.args.store.now) (table_of values) (slice_index_or c.deref-cell-items.result.now c.loop-cell.cell-index (0, 0)).1) c.deref.ensures.value)

pub returns : goal.returns
returns c =
    dense-all c.args.model.now (stored_in c.args.store.now) c.space.ensures.valid c.space.ensures.rules c.requires.ordered c.deref-cell-items.result.now (cells (goal.at.returns c).After-deref-cell-items)
    c.loop-cell.values.items c.loop-cell.cell-index c.loop-cell.invariant c.loop-cell-test.false
