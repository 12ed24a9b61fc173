use Rattle.std.proofs.Common.{◌≡◌, ◌∙◌, sym, ap, subst, arith, ◌<◌, ◌≤◌, length, ℕ, List, Option}
use Rattle.std.specs.Prelude.{slice_index_or}
use Rattle.cube_space.specs.Layout.{sizes, axes}
use Rattle.order_laws.specs.Greatest.{greatest, only}
use Rattle.order_laws.specs.Scales.{set_count, set_element, greatest_in, is_leaf_element}
use Rattle.order_laws.specs.Earlier.{Kinds, is_same}
use Rattle.ref_order.specs.Known.{number_asked, answer_of}
use Rattle.ref_order.proofs.Sums.{sets-long, set-found, element-below}
use Rattle.ref_order.proofs.KindFacts.{kinds-same, kinds-more}
use Rattle.ref_order.proofs.greatest.greatest_of.Goals as goal

reached : (k n : ℕ) → k ≤ n → n ≤ k → k ≡ n
reached k n a b = omega (arith, a, b)

pub bounds-as_slice-dim : goal.bounds-as_slice-dim
bounds-as_slice-dim c = omega (arith, sets-long c.args.cells.model.now.space c.args.cells.cube c.args.cells.area.now c.requires.cells.area, c.requires.dim, ap length c.as_slice.ensures)

pub offset_bounds-as_slice-dim : goal.offset_bounds-as_slice-dim
offset_bounds-as_slice-dim c =
    let low : c.args.asked.dim < length c.as_slice.result.now = omega (arith, sets-long c.args.cells.model.now.space c.args.cells.cube c.args.cells.area.now c.requires.cells.area, c.requires.dim, ap length c.as_slice.ensures) in
    omega (arith, low, c.as_slice.type_inv)

pub with_one-best-requires-clause-element : goal.with_one-best-requires-clause-element
with_one-best-requires-clause-element c =
    let space = c.args.cells.model.now.space in
    let low : c.args.asked.dim < length c.args.cells.area.now.sets = omega (arith, sets-long space c.args.cells.cube c.args.cells.area.now c.requires.cells.area, c.requires.dim) in
    let set = set-found c.as_slice.result.now c.args.cells.area.now.sets c.args.asked.dim c.index-as_slice-dim.result c.as_slice.ensures low c.index-as_slice-dim.is in
    let size = c.len-size.ensures.len ∙ sym c.axis.ensures.size in
    let short = subst (λ n. c.each.k < n) (c.count-k-end.ensures ∙ ap (λ n. set_count n c.index-as_slice-dim.result) size) c.each-test.true in
    subst (λ n. n < slice_index_or (sizes space c.args.cells.cube) c.args.asked.dim 0) (sym c.element_at.ensures)
    (element-below space c.args.cells.cube c.args.asked.dim c.each.k c.args.cells.area.now c.index-as_slice-dim.result c.requires.cells.area set short)

pub each-preserved : goal.each-preserved
each-preserved c =
    let model = c.args.cells.model.now in
    let cube = c.args.cells.cube in
    let asked = c.args.asked in
    let number = λ (here : Kinds) (element : ℕ). only (is_same here.own (is_leaf_element (axes model.space cube) asked.dim element)) (number_asked model cube asked element here.its) in record {
      numbers = kinds-more c.each.best c.with_one-best.result (λ here k. number here (set_element c.index-as_slice-dim.result k)) (λ here. number here c.element_at.result) c.each.k
          (λ here. ap (number here) c.element_at.ensures) c.each.invariant.numbers c.with_one-best.ensures.numbers;
      size = c.with_one-best.ensures.size;
    }

pub returns-clause-numbers : goal.returns-clause-numbers
returns-clause-numbers c =
    let model = c.args.cells.model.now in
    let cube = c.args.cells.cube in
    let asked = c.args.asked in
    let low : asked.dim < length c.args.cells.area.now.sets = omega (arith, sets-long model.space cube c.args.cells.area.now c.requires.cells.area, c.requires.dim) in
    let set = set-found c.as_slice.result.now c.args.cells.area.now.sets asked.dim c.index-as_slice-dim.result c.as_slice.ensures low c.index-as_slice-dim.is in
    let size = c.len-size.ensures.len ∙ sym c.axis.ensures.size in
    let done = reached c.each.k c.count-k-end.result c.each.auto.k-end c.each-test.false in
    let number = λ (here : Kinds) (element : ℕ). number_asked model cube asked element here.its in
    let test = λ (here : Kinds) (element : ℕ). is_same here.own (is_leaf_element (axes model.space cube) asked.dim element) in
    let own : Option (List ℕ) = c.index-as_slice-dim.result in
    kinds-same c.each.best (λ here. greatest (λ k. only (test here (set_element own k)) (number here (set_element own k))) c.each.k) (answer_of model cube c.args.cells.area.now asked) c.each.invariant.numbers
    (λ here. ap (greatest (λ k. only (test here (set_element own k)) (number here (set_element own k)))) (done ∙ c.count-k-end.ensures ∙ ap (λ n. set_count n own) size)
    ∙ ap (greatest_in (number here) (test here) (slice_index_or (sizes model.space cube) asked.dim 0)) set)
