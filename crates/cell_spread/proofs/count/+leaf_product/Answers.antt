use Rattle.std.proofs.Common.{rules, ◌<◌, ◌≤◌, ◌+◌, ◌*◌, ◌∙◌, ℕ, length, sym, ap, subst, arith, drop, slice_index_or, mul-le-mul}
use Rattle.cube_space.specs.Layout.{axes_of, sizes_of, most_model_cells}
use Rattle.cube_space.specs.Radix.{product}
use Rattle.dim_weights.specs.Table.{leaves_of}
use Rattle.rule_model.proofs.Coefs.{IsAt, is_at, rest_small}
use Rattle.cell_spread.proofs.Counts.{product-at, sizes-at, leaves-few}
use Rattle.cell_spread.proofs.count.+leaf_product.Goals.{After-weights, After-leaf_product}
use Rattle.cell_spread.proofs.count.+leaf_product.Goals as goal

-- what is known at the place
here : (t : _) (c : After-weights t) → c.args.from < length c.args.dims.now → IsAt c.args.model.now.space.dimensions c.weights.result.now c.args.dims.now c.args.at.now c.args.at.now c.args.from
here t c low = is_at c.args.model.now.space.dimensions c.weights.result.now c.args.dims.now c.args.at.now c.args.at.now c.args.from c.weights.ensures c.requires.dims c.requires.at c.requires.at low

pub bounds-weights-dims : goal.bounds-weights-dims
bounds-weights-dims t c =
    let low : c.args.from < length c.args.dims.now = search rules in
    (here t (goal.at.bounds-weights-dims t c).After-weights low).row

pub bounds-at-from : goal.bounds-at-from
bounds-at-from t c =
    let low : c.args.from < length c.args.dims.now = search rules in
    (here t (goal.at.bounds-at-from t c).After-weights low).at_low

pub leaves-requires : goal.leaves-requires
leaves-requires t c =
    let low : c.args.from < length c.args.dims.now = search rules in
    let here = here t (goal.at.leaves-requires t c).After-weights low in
    let table = here.table c.index-weights-dims.result c.index-weights-dims.is in
    omega (arith, here.element, table.whole)

pub leaf_product-requires : goal.leaf_product-requires
leaf_product-requires t c =
    let low : c.args.from < length c.args.dims.now = search rules in
    let h = here t (goal.at.leaf_product-requires t c).After-weights low in
    let rest : ℕ = product (sizes_of (axes_of c.args.model.now.space.dimensions (drop (c.args.from + 1) c.args.dims.now))) in
    let split = sizes-at c.args.model.now.space.dimensions c.args.dims.now c.args.from h.d low h.own in
    let one : 1 ≤ length h.d.elements = (let e = h.element in omega (arith, e)) in
    let room : rest ≤ most_model_cells = rest_small (length h.d.elements) rest most_model_cells (subst (λ (n : ℕ). n ≤ most_model_cells) split c.requires.room) one in
    search rules

-- as few as the sizes allow
fits : (t : _) (c : After-leaf_product t) → IsAt c.args.model.now.space.dimensions c.weights.result.now c.args.dims.now c.args.at.now c.args.at.now c.args.from → c.args.from < length c.args.dims.now → length c.leaves.result.now * c.leaf_product.result ≤ product (sizes_of (axes_of c.args.model.now.space.dimensions (drop c.args.from c.args.dims.now)))
fits t c h low =
    let table = h.table c.index-weights-dims.result c.index-weights-dims.is in
    let own = ap length (c.leaves.ensures.leaves h.d table) in
    let few = leaves-few h.d (slice_index_or c.args.at.now c.args.from 0) in
    let less : length c.leaves.result.now * c.leaf_product.result ≤ length h.d.elements * product (sizes_of (axes_of c.args.model.now.space.dimensions (drop (c.args.from + 1) c.args.dims.now))) =
    mul-le-mul (omega (arith, own, few)) c.leaf_product.ensures.size in
    let split = sizes-at c.args.model.now.space.dimensions c.args.dims.now c.args.from h.d low h.own in
    omega (arith, less, split)

pub overflow_mul-result : goal.overflow_mul-result
overflow_mul-result t c =
    let low : c.args.from < length c.args.dims.now = search rules in
    let less = fits t (goal.at.overflow_mul-result t c).After-leaf_product (here t (goal.at.overflow_mul-result t c).After-weights low) low in
    omega (arith, less, c.requires.room)

pub returns-clause-value : goal.returns-clause-value
returns-clause-value t c =
    let low : c.args.from < length c.args.dims.now = search rules in
    let h = here t (goal.at.returns-clause-value t c).After-weights low in
    let table = h.table c.index-weights-dims.result c.index-weights-dims.is in
    ap (λ (n : ℕ). n * c.leaf_product.result) (ap length (c.leaves.ensures.leaves h.d table))
    ∙ ap (λ (n : ℕ). length (leaves_of h.d (slice_index_or c.args.at.now c.args.from 0)) * n) c.leaf_product.ensures.value
    ∙ sym (product-at c.args.model.now.space.dimensions c.args.dims.now c.args.at.now c.args.from h.d low h.at_low h.own)

pub returns-clause-size : goal.returns-clause-size
returns-clause-size t c =
    let low : c.args.from < length c.args.dims.now = search rules in
    fits t (goal.at.returns-clause-size t c).After-leaf_product (here t (goal.at.returns-clause-size t c).After-weights low) low
