use Rattle.std.proofs.Common.{◌++◌, codes, sym, ap}
use Rattle.rule_printer.proofs.WrittenParts.{then_adds, adds_same}
use Rattle.rule_printer.specs.Spelled.{part_spelled, body_spelled}
use Rattle.rule_printer.proofs.printing.write_body.Goals as goal

pub returns-in_ok-write_leaf-in-LeafCons : goal.returns-in_ok-write_leaf-in-LeafCons
returns-in_ok-write_leaf-in-LeafCons c =
    adds_same c.write_cons-in-LeafCons.result c.args.out.now.items c.write_cons-in-LeafCons.new.out.items (part_spelled (codes "N") c.in-LeafCons.leaf ++ part_spelled (codes "C") c.in-LeafCons.cons) (body_spelled c.args.body.now) (ap body_spelled (sym c.in-LeafCons.is))
    (then_adds c.write_cons-in-LeafCons.result c.args.out.now.items c.write_leaf-in-LeafCons.new.out.items c.write_cons-in-LeafCons.new.out.items (part_spelled (codes "N") c.in-LeafCons.leaf) (part_spelled (codes "C") c.in-LeafCons.cons) c.in_ok-write_leaf-in-LeafCons.ensures c.write_cons-in-LeafCons.ensures)

pub returns-in_ok-write_cons-in-ConsLeaf : goal.returns-in_ok-write_cons-in-ConsLeaf
returns-in_ok-write_cons-in-ConsLeaf c =
    adds_same c.write_leaf-in-ConsLeaf.result c.args.out.now.items c.write_leaf-in-ConsLeaf.new.out.items (part_spelled (codes "C") c.in-ConsLeaf.cons ++ part_spelled (codes "N") c.in-ConsLeaf.leaf) (body_spelled c.args.body.now) (ap body_spelled (sym c.in-ConsLeaf.is))
    (then_adds c.write_leaf-in-ConsLeaf.result c.args.out.now.items c.write_cons-in-ConsLeaf.new.out.items c.write_leaf-in-ConsLeaf.new.out.items (part_spelled (codes "C") c.in-ConsLeaf.cons) (part_spelled (codes "N") c.in-ConsLeaf.leaf) c.in_ok-write_cons-in-ConsLeaf.ensures c.write_leaf-in-ConsLeaf.ensures)
