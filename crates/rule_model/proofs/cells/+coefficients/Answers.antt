use Rattle.std.proofs.Common.{rules, ◌≡◌, ◌<◌, ◌≤◌, ◌+◌, ◌∙◌, length, sym, ap, subst, arith, pos, ℤ, ◌*ℤ◌, unsigned_abs, drop, map, slice_get, slice_index_or, Some, w64, to_z, of_z}
use Rattle.std.proofs.lemmas.Int.{to_z-of_z}
use mir.Val.{SFits}
use Rattle.dim_core.specs.Outline.{Outline}
use Rattle.cube_space.specs.Layout.{axes_of}
use Rattle.cube_space.specs.Radix.{product}
use Rattle.dim_weights.specs.Coefficients.{coef}
use Rattle.dim_weights.specs.Table.{IsWeightsOf}
use Rattle.rule_model.specs.Weights.{coef_product, greatest_coef}
use Rattle.rule_model.proofs.Coefs.{IsAt, is_at, coefs_at, greatest_at, greatest_is, rest_small, none_of, size_positive, size_of_product, small_fits, word_of}
use Rattle.rule_model.proofs.cells.+coefficients.Goals.{After-weights, After-coefficients}
use Rattle.rule_model.proofs.cells.+coefficients.Goals as goal

-- what is known at the place
here : (t : _) (c : After-weights t) → c.args.from < length c.args.dims.now → IsAt c.args.model.now.space.dimensions c.weights.result.now c.args.dims.now c.args.at.now c.args.below.now c.args.from
here t c low = is_at c.args.model.now.space.dimensions c.weights.result.now c.args.dims.now c.args.at.now c.args.below.now c.args.from c.weights.ensures c.requires.dims c.requires.at c.requires.below low

-- the product of this coefficient and of the later ones, which is as small as the greatest coefficients allow
times : (t : _) (c : After-coefficients t) (d : Outline) → slice_get c.args.model.now.space.dimensions (slice_index_or c.args.dims.now c.args.from 0) ≡ Some d → IsWeightsOf d c.index-weights-dims.result
    → c.args.from < length c.args.dims.now
    → (to_z w64 (of_z w64 c.coef-coefficient.result) ≡ c.coef-coefficient.result) × (to_z w64 (of_z w64 c.coefficients.result) ≡ c.coefficients.result)
    × (unsigned_abs (c.coef-coefficient.result *ℤ c.coefficients.result) ≤ product (map greatest_coef (axes_of c.args.model.now.space.dimensions (drop c.args.from c.args.dims.now))))
times t c d own table low =
    let most = greatest_is d c.index-weights-dims.result table in
    let split = greatest_at c.args.model.now.space.dimensions c.args.dims.now c.args.from d low own in
    let fa : SFits w64 c.coef-coefficient.result = search rules in
    let fb : SFits w64 c.coefficients.result = search rules in
    let size = size_of_product c.coef-coefficient.result c.coefficients.result (greatest_coef d) (product (map greatest_coef (axes_of c.args.model.now.space.dimensions (drop (c.args.from + 1) c.args.dims.now)))) (omega (arith, c.coef-coefficient.ensures.size, most)) c.coefficients.ensures.size in
    (to_z-of_z w64 c.coef-coefficient.result fa, to_z-of_z w64 c.coefficients.result fb, subst (λ n. unsigned_abs (c.coef-coefficient.result *ℤ c.coefficients.result) ≤ n) (sym split) size)

pub bounds-weights-dims : goal.bounds-weights-dims
bounds-weights-dims t c =
    let low : c.args.from < length c.args.dims.now = search rules in
    (here t (goal.at.bounds-weights-dims t c).After-weights low).row

pub bounds-at-from : goal.bounds-at-from
bounds-at-from t c =
    let low : c.args.from < length c.args.dims.now = search rules in
    (here t (goal.at.bounds-at-from t c).After-weights low).at_low

pub bounds-below-from : goal.bounds-below-from
bounds-below-from t c =
    let low : c.args.from < length c.args.dims.now = search rules in
    (here t (goal.at.bounds-below-from t c).After-weights low).below_low

pub coef-coefficient-requires : goal.coef-coefficient-requires
coef-coefficient-requires t c =
    let low : c.args.from < length c.args.dims.now = search rules in
    let here = here t (goal.at.coef-coefficient-requires t c).After-weights low in
    let table = here.table c.index-weights-dims.result c.index-weights-dims.is in
    omega (arith, here.element, table.whole)

pub returns-then-coefficient-eq0-clause-value : goal.returns-then-coefficient-eq0-clause-value
returns-then-coefficient-eq0-clause-value t c =
    let low : c.args.from < length c.args.dims.now = search rules in
    let here = here t (goal.at.returns-then-coefficient-eq0-clause-value t c).After-weights low in
    let table = here.table c.index-weights-dims.result c.index-weights-dims.is in
    let is = c.coef-coefficient.ensures.coefficient here.d table here.leaf in
    let fa : SFits w64 c.coef-coefficient.result = search rules in
    let zero : c.coef-coefficient.result ≡ pos 0 = sym (to_z-of_z w64 c.coef-coefficient.result fa) ∙ ap (to_z w64) c.if-coefficient-eq0.true in
    let rest : ℤ = coef_product (axes_of c.args.model.now.space.dimensions (drop (c.args.from + 1) c.args.dims.now)) (drop (c.args.from + 1) c.args.at.now) (drop (c.args.from + 1) c.args.below.now) in
    sym (coefs_at c.args.model.now.space.dimensions c.args.dims.now c.args.at.now c.args.below.now c.args.from here.d low here.at_low here.below_low here.own
    ∙ ap (λ z. z *ℤ rest) (sym is ∙ zero) ∙ none_of rest)

pub coefficients-requires : goal.coefficients-requires
coefficients-requires t c =
    let low : c.args.from < length c.args.dims.now = search rules in
    let here = here t (goal.at.coefficients-requires t c).After-weights low in
    let table = here.table c.index-weights-dims.result c.index-weights-dims.is in
    let one = size_positive c.coef-coefficient.result (λ e. c.if-coefficient-eq0.false (ap (of_z w64) e)) in
    let most = greatest_is here.d c.index-weights-dims.result table in
    let split = greatest_at c.args.model.now.space.dimensions c.args.dims.now c.args.from here.d low here.own in
    let small = rest_small (greatest_coef here.d) (product (map greatest_coef (axes_of c.args.model.now.space.dimensions (drop (c.args.from + 1) c.args.dims.now)))) 1000000000 (subst (λ n. n ≤ 1000000000) split c.requires.small) (omega (arith, one, most, c.coef-coefficient.ensures.size)) in
    search rules

pub overflow_mul-result : goal.overflow_mul-result
overflow_mul-result t c =
    let low : c.args.from < length c.args.dims.now = search rules in
    let here = here t (goal.at.overflow_mul-result t c).After-weights low in
    let table = here.table c.index-weights-dims.result c.index-weights-dims.is in
    let times = times t (goal.at.overflow_mul-result t c).After-coefficients here.d here.own table low in
    rw (times.0, times.1) (small_fits (c.coef-coefficient.result *ℤ c.coefficients.result) (omega (arith, times.2, c.requires.small)))

pub returns-clause-value : goal.returns-clause-value
returns-clause-value t c =
    let low : c.args.from < length c.args.dims.now = search rules in
    let here = here t (goal.at.returns-clause-value t c).After-weights low in
    let table = here.table c.index-weights-dims.result c.index-weights-dims.is in
    let times = times t (goal.at.returns-clause-value t c).After-coefficients here.d here.own table low in
    let whole = word_of (c.coef-coefficient.result *ℤ c.coefficients.result) (omega (arith, times.2, c.requires.small)) in
    let is = c.coef-coefficient.ensures.coefficient here.d table here.leaf in
    rw (times.0, times.1, whole) (ap (λ a. a *ℤ c.coefficients.result) is
    ∙ ap (λ b. coef here.d (slice_index_or c.args.at.now c.args.from 0) (slice_index_or c.args.below.now c.args.from 0) *ℤ b) c.coefficients.ensures.value
    ∙ sym (coefs_at c.args.model.now.space.dimensions c.args.dims.now c.args.at.now c.args.below.now c.args.from here.d low here.at_low here.below_low here.own))

pub returns-clause-size : goal.returns-clause-size
returns-clause-size t c =
    let low : c.args.from < length c.args.dims.now = search rules in
    let here = here t (goal.at.returns-clause-size t c).After-weights low in
    let table = here.table c.index-weights-dims.result c.index-weights-dims.is in
    let times = times t (goal.at.returns-clause-size t c).After-coefficients here.d here.own table low in
    let whole = word_of (c.coef-coefficient.result *ℤ c.coefficients.result) (omega (arith, times.2, c.requires.small)) in
    rw (times.0, times.1, whole) times.2
