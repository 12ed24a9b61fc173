use Rattle.std.proofs.Common.{arith, sym, subst}
use Rattle.rule_model.specs.Conditions.{IsArea}
use Rattle.ref_order.proofs.Sums.{sets-long}
use Rattle.late_example.proofs.Sets.{narrowed-area}
use Rattle.late_example.proofs.search.comes_late_before.Goals as goal

pub narrowed-requires-clause-dim : goal.narrowed-requires-clause-dim
narrowed-requires-clause-dim c = omega (arith, sets-long c.args.cells.model.now.space c.args.cells.cube c.args.cells.area.now c.requires.cells.area, c.requires.dim)

pub is_sought-requires-clause-cells : goal.is_sought-requires-clause-cells
is_sought-requires-clause-cells c =
    let space = c.args.cells.model.now.space in
    let cube = c.args.cells.cube in record {
      cube = c.requires.cells.cube;
      area = subst (IsArea space cube) (sym c.in_ok-area.ensures) (narrowed-area space cube c.args.cells.area.now c.args.dim 0 c.args.end c.requires.cells.area c.requires.end);
    }

pub is_sought-requires-clause-known : goal.is_sought-requires-clause-known
is_sought-requires-clause-known c = c.begin.ensures c.args.cells.model.now c.args.cells.cube c.in_ok-area.area c.requires.known
