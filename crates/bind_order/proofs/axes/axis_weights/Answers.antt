use Rattle.std.proofs.Common.{◌≡◌, ◌<◌, ◌∙◌, ℕ, zero, suc, ℤ, List, [], ◌∷◌, Some, length, slice_get, slice_index_or, sym, subst, arith}
use Rattle.std.specs.List.{AllZip}
use Rattle.dim_core.specs.Outline.{Outline}
use Rattle.dim_weights.specs.Table.{IsWeightsOf}
use Rattle.bind_order.proofs.axes.axis_weights.Goals as goal

weights_there : (D : List Outline) (W : List (List (List (ℕ × ℤ)))) (k : ℕ) → AllZip IsWeightsOf D W → k < length D → k < length W
weights_there [] W k all low = absurd (omega (arith, low))
weights_there (x ∷ D) [] k all low = absurd all
weights_there (x ∷ D) (v ∷ W) zero all low = omega arith
weights_there (x ∷ D) (v ∷ W) (suc k) all low = let there = weights_there D W k all.1 (omega (arith, low)) in omega (arith, there)

weights_own : (D : List Outline) (W : List (List (List (ℕ × ℤ)))) (k : ℕ) (d : Outline) (w : List (List (ℕ × ℤ))) → AllZip IsWeightsOf D W → slice_get D k ≡ Some d → IsWeightsOf d (slice_index_or W k w)
weights_own [] W k d w all is = absurd (cc is)
weights_own (x ∷ D) [] k d w all is = absurd all
weights_own (x ∷ D) (v ∷ W) zero d w all is = let same : x ≡ d = cc in subst (λ o. IsWeightsOf o v) same all.0
weights_own (x ∷ D) (v ∷ W) (suc k) d w all is = weights_own D W k d w all.1 is

pub bounds-weights-number : goal.bounds-weights-number
bounds-weights-number c = weights_there c.args.space.now.dimensions c.args.weights.now c.axis_number-number.result c.requires.weights c.axis_number-number.ensures.within

pub returns : goal.returns
returns c d is =
    subst (IsWeightsOf d) (sym c.index-weights-number.is)
    (weights_own c.args.space.now.dimensions c.args.weights.now c.axis_number-number.result d c.index-weights-number.result c.requires.weights (c.axis_number-number.ensures.own ∙ is))
