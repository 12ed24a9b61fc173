-- The leaves of the element are those with a coefficient other than 0.
use Rattle.std.proofs.Common.{◌≡◌, ◌∙◌, sym, ap, subst, arith, leb, find}
use Rattle.dim_weights.specs.Table.{IsWeightsOf}
use Rattle.sparse_sum.proofs.Heads.{row-of, row-at, row-fits}
use Rattle.sparse_sum.proofs.candidates.row_from.Goals as goal

pub bounds-weights-dim : goal.bounds-weights-dim
bounds-weights-dim c = (row-of c.args.space.now.dimensions c.args.weights.now c.args.dim c.requires.weights c.requires.dim).2

pub leaves-requires : goal.leaves-requires
leaves-requires c =
    let r = row-of c.args.space.now.dimensions c.args.weights.now c.args.dim c.requires.weights c.requires.dim in
    let table : IsWeightsOf r.0 c.index-weights-dim.result = subst (IsWeightsOf r.0) (sym c.index-weights-dim.is) (r.3 c.index-weights-dim.result) in
    let low = c.requires.element r.0 r.1 in
    omega (arith, table.whole, low)

pub returns-clause-first : goal.returns-clause-first
returns-clause-first c = λ d own.
    (let r = row-of c.args.space.now.dimensions c.args.weights.now c.args.dim c.requires.weights c.requires.dim in
    let same : r.0 ≡ d = (let e = sym r.1 ∙ own in cc) in
    let table : IsWeightsOf d c.index-weights-dim.result = subst (λ o. IsWeightsOf o c.index-weights-dim.result) same (subst (IsWeightsOf r.0) (sym c.index-weights-dim.is) (r.3 c.index-weights-dim.result)) in
    row-at d c.args.element c.args.from c.first_row.result (c.first_row.ensures ∙ ap (λ ps. find (λ pair. leb c.args.from pair.0) ps) (c.leaves.ensures.leaves d table)))

pub returns-clause-size : goal.returns-clause-size
returns-clause-size c = λ d own.
    (let r = row-of c.args.space.now.dimensions c.args.weights.now c.args.dim c.requires.weights c.requires.dim in
    let same : r.0 ≡ d = (let e = sym r.1 ∙ own in cc) in
    let table : IsWeightsOf d c.index-weights-dim.result = subst (λ o. IsWeightsOf o c.index-weights-dim.result) same (subst (IsWeightsOf r.0) (sym c.index-weights-dim.is) (r.3 c.index-weights-dim.result)) in
    row-fits d c.args.element c.args.from c.first_row.result (c.requires.element d own) (c.first_row.ensures ∙ ap (λ ps. find (λ pair. leb c.args.from pair.0) ps) (c.leaves.ensures.leaves d table)))
