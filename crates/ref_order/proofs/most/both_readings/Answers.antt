use Rattle.std.proofs.Common.{◌≡◌, refl, sym, true, false, Bool}
use Rattle.order_laws.specs.Scales.{scale_of}
use Rattle.order_laws.specs.Excess.{read_cube}
use Rattle.order_laws.specs.Earlier.{Kinds, greatest_of_kinds}
use Rattle.ref_order.specs.declared.area_cells.AreaCells.{AreaCells}
use Rattle.ref_order.specs.declared.kinds.ByKinds.{ByKinds}
use Rattle.ref_order.specs.declared.question.Question.{Question}
use Rattle.ref_order.specs.Areas.{numbers_reading}
use Rattle.ref_order.specs.Kinds.{AreByKinds}
use Rattle.ref_order.specs.Reads.{precedent_of}
use Rattle.ref_order.proofs.KindFacts.{kinds-same}
use Rattle.ref_order.proofs.Scaled.{answers-scaled}
use Rattle.ref_order.proofs.most.both_readings.Goals as goal

-- the numbers by scales that are the same serve
serve : (cells : AreaCells) (asked : Question) (found : Kinds) (its : Bool) (numbers : ByKinds) → scale_of cells.model.now cells.cube found.own asked.place ≡ scale_of cells.model.now cells.cube asked.own asked.place
    → scale_of cells.model.now (read_cube cells.cube (precedent_of asked.read)) found.its asked.place ≡ scale_of cells.model.now (read_cube cells.cube (precedent_of asked.read)) its asked.place
    → AreByKinds numbers (greatest_of_kinds cells.model.now cells.cube cells.area.now found asked.place (precedent_of asked.read) asked.dim) → AreByKinds numbers (numbers_reading cells asked its asked.dim)
serve cells asked found its numbers own same are =
    let model = cells.model.now in
    let p = precedent_of asked.read in
    let wanted : Kinds = record { own = asked.own; its = its } in
    kinds-same numbers (greatest_of_kinds model cells.cube cells.area.now found asked.place p asked.dim) (greatest_of_kinds model cells.cube cells.area.now wanted asked.place p asked.dim) are
    (answers-scaled model cells.cube cells.area.now found wanted asked.place p asked.dim own same)

pub returns-then-reads_alike-clause-leaf : goal.returns-then-reads_alike-clause-leaf
returns-then-reads_alike-clause-leaf c =
    serve c.args.cells c.args.asked (record { own = c.kind_alike-own.result; its = true }) true c.greatest_marked-leaf.result c.kind_alike-own.ensures refl c.greatest_marked-leaf.ensures.numbers

pub returns-then-reads_alike-clause-total : goal.returns-then-reads_alike-clause-total
returns-then-reads_alike-clause-total c =
    serve c.args.cells c.args.asked (record { own = c.kind_alike-own.result; its = true }) false c.greatest_marked-leaf.result c.kind_alike-own.ensures (sym (c.reads_alike.ensures c.if-reads_alike.true)) c.greatest_marked-leaf.ensures.numbers

pub returns-clause-leaf : goal.returns-clause-leaf
returns-clause-leaf c =
    serve c.args.cells c.args.asked (record { own = c.kind_alike-own.result; its = true }) true c.greatest_marked-leaf.result c.kind_alike-own.ensures refl c.greatest_marked-leaf.ensures.numbers

pub returns-clause-total : goal.returns-clause-total
returns-clause-total c =
    serve c.args.cells c.args.asked (record { own = c.kind_alike-own.result; its = false }) false c.greatest_marked-total.result c.kind_alike-own.ensures refl c.greatest_marked-total.ensures.numbers
