use Rattle.std.proofs.Common.{◌≡◌, ◌∙◌, refl, sym, ap, arith, ◌<◌, length, None}
use Rattle.std.specs.Prelude.{slice_index_or}
use Rattle.cube_space.specs.Layout.{axes, sizes}
use Rattle.order_laws.specs.Scales.{greatest_in, is_leaf_element}
use Rattle.order_laws.specs.Earlier.{is_same}
use Rattle.ref_order.specs.Known.{whole_area, number_asked, answer_of}
use Rattle.ref_order.proofs.KindFacts.{kinds-same}
use Rattle.ref_order.proofs.Sums.{sets-long, set-found}
use Rattle.ref_order.proofs.greatest.greatest_marked.Goals as goal

pub offset_bounds-as_slice-dim : goal.offset_bounds-as_slice-dim
offset_bounds-as_slice-dim c =
    let low : c.args.asked.dim < length c.as_slice.result.now = omega (arith, sets-long c.args.cells.model.now.space c.args.cells.cube c.args.cells.area.now c.requires.cells.area, c.requires.dim, ap length c.as_slice.ensures) in
    omega (arith, low, c.as_slice.type_inv)

pub bounds-as_slice-dim : goal.bounds-as_slice-dim
bounds-as_slice-dim c = omega (arith, sets-long c.args.cells.model.now.space c.args.cells.cube c.args.cells.area.now c.requires.cells.area, c.requires.dim, ap length c.as_slice.ensures)

pub returns-in-None-clause-numbers : goal.returns-in-None-clause-numbers
returns-in-None-clause-numbers c =
    let model = c.args.cells.model.now in
    let cube = c.args.cells.cube in
    let asked = c.args.asked in
    let low : asked.dim < length c.args.cells.area.now.sets = omega (arith, sets-long model.space cube c.args.cells.area.now c.requires.cells.area, c.requires.dim) in
    let set = set-found c.as_slice.result.now c.args.cells.area.now.sets asked.dim c.index-as_slice-dim.result c.as_slice.ensures low c.index-as_slice-dim.is in
    let same : slice_index_or whole_area.sets asked.dim None ≡ slice_index_or c.args.cells.area.now.sets asked.dim None = sym c.in-None.is ∙ set in
    kinds-same c.answer.result (answer_of model cube whole_area asked) (answer_of model cube c.args.cells.area.now asked) (c.answer.ensures.numbers whole_area same c.requires.known.of_cube.whole).0
    (λ here. ap (greatest_in (λ element. number_asked model cube asked element here.its) (λ element. is_same here.own (is_leaf_element (axes model.space cube) asked.dim element)) (slice_index_or (sizes model.space cube) asked.dim 0)) same)

pub returns-in-None-clause-size : goal.returns-in-None-clause-size
returns-in-None-clause-size c =
    let low : c.args.asked.dim < length c.args.cells.area.now.sets = omega (arith, sets-long c.args.cells.model.now.space c.args.cells.cube c.args.cells.area.now c.requires.cells.area, c.requires.dim) in
    let set = set-found c.as_slice.result.now c.args.cells.area.now.sets c.args.asked.dim c.index-as_slice-dim.result c.as_slice.ensures low c.index-as_slice-dim.is in
    let same : slice_index_or whole_area.sets c.args.asked.dim None ≡ slice_index_or c.args.cells.area.now.sets c.args.asked.dim None = sym c.in-None.is ∙ set in
    (c.answer.ensures.numbers whole_area same c.requires.known.of_cube.whole).1

pub returns-in-None-clause-known : goal.returns-in-None-clause-known
returns-in-None-clause-known c =
    let low : c.args.asked.dim < length c.args.cells.area.now.sets = omega (arith, sets-long c.args.cells.model.now.space c.args.cells.cube c.args.cells.area.now c.requires.cells.area, c.requires.dim) in
    let set = set-found c.as_slice.result.now c.args.cells.area.now.sets c.args.asked.dim c.index-as_slice-dim.result c.as_slice.ensures low c.index-as_slice-dim.is in
    let same : slice_index_or whole_area.sets c.args.asked.dim None ≡ slice_index_or c.args.cells.area.now.sets c.args.asked.dim None = sym c.in-None.is ∙ set in
    let whole = (c.answer.ensures.numbers whole_area same c.requires.known.of_cube.whole).2 in
    record {
      of_cube = record { reads = c.answer.ensures.reads; whole = whole };
      reads = c.requires.known.reads;
      listed = c.requires.known.listed;
    }

pub returns-in-Some-clause-numbers : goal.returns-in-Some-clause-numbers
returns-in-Some-clause-numbers c = (c.answer-in-Some.ensures.numbers c.args.cells.area.now refl c.requires.known.listed).0

pub returns-in-Some-clause-size : goal.returns-in-Some-clause-size
returns-in-Some-clause-size c = (c.answer-in-Some.ensures.numbers c.args.cells.area.now refl c.requires.known.listed).1

pub returns-in-Some-clause-known : goal.returns-in-Some-clause-known
returns-in-Some-clause-known c =
    let listed = (c.answer-in-Some.ensures.numbers c.args.cells.area.now refl c.requires.known.listed).2 in
    record {
      of_cube = record { reads = c.requires.known.of_cube.reads; whole = c.requires.known.of_cube.whole };
      reads = c.answer-in-Some.ensures.reads;
      listed = listed;
    }
