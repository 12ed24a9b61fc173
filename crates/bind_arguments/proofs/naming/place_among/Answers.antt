use Rattle.std.proofs.Common.{◌≡◌, ◌<◌, ℕ, false, get_or, length, sym, ap, ◌∙◌, below_more, arith, List, Bool, All, subst, ◌≤◌}
use Rattle.std.proofs.lemmas.List.{get_or_default}
use Rattle.lists.proofs.Places.{position-none, position-first}
use Rattle.dim_name.specs.Name.{is_same_name}
use Rattle.bind_arguments.specs.Bound.{dimension_at}
use Rattle.bind_arguments.proofs.Around.{found_dimension}
use Rattle.bind_arguments.proofs.naming.place_among.Goals as goal

-- what fails at each index fails at all items
all_below : (xs : List ℕ) (p : ℕ → Bool) (n : ℕ) → length xs ≤ n → ((k : ℕ) → k < n → p (get_or xs k 0) ≡ false) → All (λ x. p x ≡ false) xs
all_below xs p n past none k d within = subst (λ x. p x ≡ false) (get_or_default xs k 0 d within) (none k (omega arith))

pub returns-then-eq-clause-place : goal.returns-then-eq-clause-place
returns-then-eq-clause-place c =
    let at = found_dimension c.args.space.now (get_or c.args.dims.now c.loop-place.place 0) c.dimension.result.now c.dimension.ensures in
    sym (position-first (λ dim. is_same_name c.args.name.now (dimension_at c.args.space.now dim).name) c.args.dims.now c.loop-place.place 0 (omega arith) c.loop-place.invariant
    (ap (λ d. is_same_name c.args.name.now d.name) at ∙ ap (is_same_name c.args.name.now) (sym c.name.ensures) ∙ sym c.eq.ensures ∙ c.if-eq.true))

pub loop-place-preserved : goal.loop-place-preserved
loop-place-preserved c =
    let at = found_dimension c.args.space.now (get_or c.args.dims.now c.loop-place.place 0) c.dimension.result.now c.dimension.ensures in
    below_more _ _ c.loop-place.invariant
    (ap (λ d. is_same_name c.args.name.now d.name) at ∙ ap (is_same_name c.args.name.now) (sym c.name.ensures) ∙ sym c.eq.ensures ∙ c.if-eq.false)

pub returns-clause-place : goal.returns-clause-place
returns-clause-place c =
    sym (position-none (λ dim. is_same_name c.args.name.now (dimension_at c.args.space.now dim).name) c.args.dims.now (all_below c.args.dims.now (λ dim. is_same_name c.args.name.now (dimension_at c.args.space.now dim).name) c.loop-place.place c.loop-place-test.false c.loop-place.invariant))
