use Rattle.std.proofs.Common.{◌∙◌, ◌+◌, ◌<◌, Err, ap, sym, subst, ℕ, List, length, take, get_or, arith}
use Rattle.std.proofs.lemmas.Result.{err_from_is_err_and}
use Rattle.dim_weights.specs.Refusal.{fault_at, refusal_of}
use Rattle.dim_weights.specs.Inside.Rows.{Rows, AreRowsOf}
use Rattle.dim_weights.specs.Inside.Levels.{IsByLevel}
use Rattle.dim_core.specs.Outline.{components_of}
use Rattle.dim_weights.specs.Inside.Alike.{HaveSameRows, HasSameRow}
use Rattle.dim_weights.proofs.AlikeRows.{same-rows, same-row}
use Rattle.dim_weights.proofs.MadeRows.{AreRowsOf-none, AreRowsOf-more, IsWeightsOf-all, fault-is, refusal-some, refusal-none, cause-refused, cause-accepted, ok-free, free-more}
use Rattle.dim_weights.proofs.weights.rows_of.Goals as goal

pub loop-element-init : goal.loop-element-init
loop-element-init c = record {
  made = AreRowsOf-none c.args.dimension.now c.in_ok-table.table (c.in_ok-table.ensures.length ∙ c.len-2.ensures.len) c.in_ok-table.ensures.count;
  whole = c.in_ok-sums.ensures.length ∙ c.len.ensures.len;
  zero = c.in_ok-sums.ensures.zero;
  free = λ j low. absurd (omega arith);
}

pub add-requires-clause-same : goal.add-requires-clause-same
add-requires-clause-same c =
    let P : List ℕ → Type 0 = IsByLevel c.args.dimension.now in
    let by = subst P (sym c.as_slice-by_level.ensures.value) c.in_ok-elements.ensures in
    let H : List ℕ → Type 0 = λ xs. HaveSameRows c.loop-element.table.rows xs (components_of c.args.dimension.now (get_or c.as_slice-by_level.result.now c.loop-element.element-index 0)) in
    subst H (sym c.deref.ensures.value)
    (same-rows c.args.dimension.now c.len.ensures.valid c.as_slice-by_level.result.now by c.in_ok-alike.alike.items c.in_ok-alike.ensures c.loop-element.table c.loop-element.element-index c.loop-element-test.true c.loop-element.invariant.made)

pub add-requires-clause-made : goal.add-requires-clause-made
add-requires-clause-made c =
    let P : List ℕ → Type 0 = IsByLevel c.args.dimension.now in
    let by = subst P (sym c.as_slice-by_level.ensures.value) c.in_ok-elements.ensures in
    let element : ℕ = get_or c.as_slice-by_level.result.now c.loop-element.element-index 0 in
    let H : List ℕ → Type 0 = λ xs. HasSameRow (length c.args.dimension.now.elements) c.loop-element.table.rows xs element (components_of c.args.dimension.now element) in
    subst H (sym c.deref.ensures.value)
    (same-row c.args.dimension.now c.len.ensures.valid c.as_slice-by_level.result.now by c.in_ok-alike.alike.items c.in_ok-alike.ensures c.loop-element.table c.loop-element.element-index c.loop-element-test.true c.loop-element.invariant.made)

pub returns-in_err-add-clause-refused : goal.returns-in_err-add-clause-refused
returns-in_err-add-clause-refused c =
    let P : List ℕ → Type 0 = IsByLevel c.args.dimension.now in
    let by = subst P (sym c.as_slice-by_level.ensures.value) c.in_ok-elements.ensures in
    let there : c.loop-element.element-index < length c.as_slice-by_level.result.now = c.loop-element-test.true in
    let p = err_from_is_err_and c.from_residual-in_err-add.result c.from_residual-in_err-add.ensures.1 in
    let fault = fault-is c.args.dimension.now c.len.ensures.valid c.as_slice-by_level.result.now by c.loop-element.table c.loop-element.element-index there c.loop-element.invariant.made in
    cause-refused _ (refusal_of c.args.dimension.now) c.add.result c.from_residual-in_err-add.result c.in_err-add.field-0.0 c.in_err-add.was (p.1 ∙ ap Err p.2)
    (λ cause same. refusal-some c.args.dimension.now c.as_slice-by_level.result.now by cause c.loop-element.element-index there c.loop-element.invariant.free (sym fault ∙ same))
    c.add.ensures.refused c.add.ensures.accepted

pub returns-in_err-add-clause-accepted : goal.returns-in_err-add-clause-accepted
returns-in_err-add-clause-accepted c =
    let P : List ℕ → Type 0 = IsByLevel c.args.dimension.now in
    let by = subst P (sym c.as_slice-by_level.ensures.value) c.in_ok-elements.ensures in
    let there : c.loop-element.element-index < length c.as_slice-by_level.result.now = c.loop-element-test.true in
    let p = err_from_is_err_and c.from_residual-in_err-add.result c.from_residual-in_err-add.ensures.1 in
    let fault = fault-is c.args.dimension.now c.len.ensures.valid c.as_slice-by_level.result.now by c.loop-element.table c.loop-element.element-index there c.loop-element.invariant.made in
    cause-accepted _ (refusal_of c.args.dimension.now) c.add.result c.from_residual-in_err-add.result c.in_err-add.field-0.0 c.in_err-add.was (p.1 ∙ ap Err p.2)
    (λ cause same. refusal-some c.args.dimension.now c.as_slice-by_level.result.now by cause c.loop-element.element-index there c.loop-element.invariant.free (sym fault ∙ same))
    c.add.ensures.refused c.add.ensures.accepted

pub loop-element-preserved : goal.loop-element-preserved
loop-element-preserved c =
    let P : List ℕ → Type 0 = IsByLevel c.args.dimension.now in
    let by = subst P (sym c.as_slice-by_level.ensures.value) c.in_ok-elements.ensures in
    let valid = c.len.ensures.valid in
    let there : c.loop-element.element-index < length c.as_slice-by_level.result.now = c.loop-element-test.true in
    let fault = fault-is c.args.dimension.now valid c.as_slice-by_level.result.now by c.loop-element.table c.loop-element.element-index there c.loop-element.invariant.made in
    let more = AreRowsOf-more c.args.dimension.now valid c.as_slice-by_level.result.now by c.loop-element.table c.loop-element.element-index there c.loop-element.invariant.made in
    let R : Rows → Type 0 = AreRowsOf c.args.dimension.now (take (c.loop-element.element-index + 1) c.as_slice-by_level.result.now) in
    record {
      made = subst R (sym c.in_ok-add.ensures.added) more;
      whole = omega (arith, c.in_ok-add.ensures.sums, c.loop-element.invariant.whole);
      zero = c.in_ok-add.ensures.zero;
      free = free-more (fault_at c.args.dimension.now c.as_slice-by_level.result.now) c.loop-element.element-index c.loop-element.invariant.free (sym fault ∙ ok-free _ c.add.result _ c.in_ok-add.was c.add.ensures.refused);
    }

pub returns-clause-weights : goal.returns-clause-weights
returns-clause-weights c =
    let P : List ℕ → Type 0 = IsByLevel c.args.dimension.now in
    let by = subst P (sym c.as_slice-by_level.ensures.value) c.in_ok-elements.ensures in
    rw c.into_rows.ensures.rows (IsWeightsOf-all c.args.dimension.now c.len.ensures.valid c.as_slice-by_level.result.now by c.loop-element.table c.loop-element.element-index (omega (arith, c.loop-element-test.false)) c.loop-element.invariant.made)

pub returns-clause-refused : goal.returns-clause-refused
returns-clause-refused c =
    let P : List ℕ → Type 0 = IsByLevel c.args.dimension.now in
    let by = subst P (sym c.as_slice-by_level.ensures.value) c.in_ok-elements.ensures in
    let none = refusal-none c.args.dimension.now c.as_slice-by_level.result.now by (λ j low. c.loop-element.invariant.free j (omega (arith, c.loop-element-test.false))) in
    rw none tt
