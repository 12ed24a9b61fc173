use Rattle.std.proofs.Common.{◌≡◌, ◌∙◌, length, ap, sym, subst, true, All, IfSome, arith}
use Rattle.cube_space.specs.Layout.{axes}
use Rattle.rule_model.specs.Conditions.{IsOrderOf}
use Rattle.bind_order.specs.ByKind.{kinds_order}
use Rattle.bind_order.specs.LeafCells.{holds_leaf_cells}
use Rattle.bind_order.specs.Inside.Held.{IsByKind}
use Rattle.bind_order.proofs.OrderFacts.{by_kind-valid}
use Rattle.bind_order.proofs.bind.order_by_kind.Goals as goal

pub returns-in_ok-order-clause-valid : goal.returns-in_ok-order-clause-valid
returns-in_ok-order-clause-valid c =
    let space = c.args.space.now in
    let cube = c.args.cube in
    let ds = axes space cube in
    let items = c.in-Some.positions.items in
    let each : All (IsByKind ds) items = subst (λ o. IfSome o (λ list. All (IsByKind ds) list.items)) c.in-Some.is c.in_ok-positions.ensures.each in
    let count : length items ≡ length c.args.words.now = subst (λ o. IfSome o (λ list. length list.items ≡ length c.args.words.now)) c.in-Some.is c.in_ok-positions.ensures.count in
    let holds : holds_leaf_cells ds (kinds_order items) ≡ true = ap (λ l. holds_leaf_cells ds (kinds_order l)) (sym c.deref.ensures.value) ∙ sym c.holds_leaf_cells.ensures ∙ c.if-holds_leaf_cells.true in
    subst (IsOrderOf space cube) (sym c.in_ok-order.ensures) (by_kind-valid space cube items (omega (arith, count, c.requires.few)) each holds)
