use Rattle.std.proofs.Common.{rules, ◌≡◌, ◌∙◌, sym, ap, subst, ℕ, ◌+◌, ◌<◌, ◌∷◌, ◌++◌, [], List, Option, Some, length, take, drop, set, arith}
use Rattle.std.specs.Prelude.{slice_get}
use Rattle.std.proofs.lemmas.List.{take_more_set}
use Rattle.dim_core.specs.Outline.{Outline}
use Rattle.cube_space.specs.Layout.{axes_of, dims_of}
use Rattle.cube_space.specs.Cells.{cell_number}
use Rattle.feed_map.specs.Inside.Gains.{Gains, StopsBy}
use Rattle.feed_map.specs.Inside.Leaves.{candidates, leaf_at, GoesOn, GoesOnBy, GoesOnWithin}
use Rattle.feed_map.proofs.GainFacts.{gains-result, stops-result, handed-on}
use Rattle.feed_sources.proofs.Axes.{axes-past}
use Rattle.feed_map.proofs.LeafSteps.{front-kept, some-by, by-some, number-goes, goes-number, goes-more, goes-stops, goes-done}
use Rattle.feed_map.proofs.RowFacts.{row-of, row-by, by-row}
use Rattle.feed_map.proofs.leaves.+add_product.Goals.{add_choice-After-rank_of-rank, add_product-After-root_of-root}
use Rattle.feed_map.proofs.leaves.+add_product.Goals as goal

-- the elements up to the place, and the leaf
put : (t : _) (c : add_choice-After-rank_of-rank t) → take (c.args.place + 1) (set c.args.at.now c.args.place c.in-Some.leaf) ≡ take c.args.place c.args.at.now ++ c.in-Some.leaf ∷ []
put t c =
    let long : length c.args.at.now ≡ 16 = search rules in
    take_more_set c.args.at.now c.args.place c.in-Some.leaf (omega (arith, c.requires.place, c.rank_of-rank.ensures.few, long))

pub add_choice-returns-in-Some-row-clause-gains : goal.add_choice-returns-in-Some-row-clause-gains
add_choice-returns-in-Some-row-clause-gains t c =
    let space = c.args.below.model.now.space in
    let ds = axes_of space.dimensions (drop (c.args.place + 1) (dims_of space c.args.below.cube)) in
    let front = take c.args.place c.args.at.now in
    let row = row-of space c.args.below.cube c.args.place front c.args.row c.args.leaf c.in-Some-row.first c.in-Some.leaf c.in-Some-row.is c.in-Some.is c.requires.row in
    let same : c.from.result ≡ c.in-Some.leaf = omega arith in
    gains-result c.add.result (λ cell. c.in-Some-row.first + c.from.result ≡ cell) (GoesOnBy space c.args.below.cube c.args.below.roots.now c.args.place ds front c.args.leaf)
    (λ x told. row-by space c.args.below.cube c.args.below.roots.now c.args.place front c.in-Some-row.first c.in-Some.leaf c.args.leaf c.in-Some.is row x (omega (arith, same, told)))
    (λ x goes. (let told = by-row space c.args.below.cube c.args.below.roots.now c.args.place front c.in-Some-row.first c.in-Some.leaf c.args.leaf c.in-Some.is row x goes in omega (arith, same, told)))
    c.args.growth.now c.add.new.self c.add.ensures.gains

pub add_choice-returns-in-Some-row-clause-stops : goal.add_choice-returns-in-Some-row-clause-stops
add_choice-returns-in-Some-row-clause-stops t c =
    let space = c.args.below.model.now.space in
    let ds = axes_of space.dimensions (drop (c.args.place + 1) (dims_of space c.args.below.cube)) in
    let front = take c.args.place c.args.at.now in
    let row = row-of space c.args.below.cube c.args.place front c.args.row c.args.leaf c.in-Some-row.first c.in-Some.leaf c.in-Some-row.is c.in-Some.is c.requires.row in
    let same : c.from.result ≡ c.in-Some.leaf = omega arith in
    stops-result c.add.result (λ cell. c.in-Some-row.first + c.from.result ≡ cell) (GoesOnBy space c.args.below.cube c.args.below.roots.now c.args.place ds front c.args.leaf)
    (λ x told. row-by space c.args.below.cube c.args.below.roots.now c.args.place front c.in-Some-row.first c.in-Some.leaf c.args.leaf c.in-Some.is row x (omega (arith, same, told)))
    c.args.growth.now c.add.new.self c.add.ensures.stops

pub add_choice-returns-clause-gains : goal.add_choice-returns-clause-gains
add_choice-returns-clause-gains t c =
    let space = c.args.below.model.now.space in
    let ds = axes_of space.dimensions (drop (c.args.place + 1) (dims_of space c.args.below.cube)) in
    let front = take c.args.place c.args.at.now in
    let at = take (c.args.place + 1) (set c.args.at.now c.args.place c.in-Some.leaf) in
    let own = put t (goal.at.add_choice-returns-clause-gains t c).After-rank_of-rank in
    gains-result c.add_product.result (GoesOn space c.args.below.cube c.args.below.roots.now (c.args.place + 1) ds at) (GoesOnBy space c.args.below.cube c.args.below.roots.now c.args.place ds front c.args.leaf)
    (some-by space c.args.below.cube c.args.below.roots.now c.args.place ds front at c.in-Some.leaf c.args.leaf c.in-Some.is own)
    (by-some space c.args.below.cube c.args.below.roots.now c.args.place ds front at c.in-Some.leaf c.args.leaf c.in-Some.is own)
    c.args.growth.now c.add_product.new.growth c.add_product.ensures.gains

pub add_choice-returns-clause-stops : goal.add_choice-returns-clause-stops
add_choice-returns-clause-stops t c =
    let space = c.args.below.model.now.space in
    let ds = axes_of space.dimensions (drop (c.args.place + 1) (dims_of space c.args.below.cube)) in
    let front = take c.args.place c.args.at.now in
    let at = take (c.args.place + 1) (set c.args.at.now c.args.place c.in-Some.leaf) in
    let own = put t (goal.at.add_choice-returns-clause-stops t c).After-rank_of-rank in
    stops-result c.add_product.result (GoesOn space c.args.below.cube c.args.below.roots.now (c.args.place + 1) ds at) (GoesOnBy space c.args.below.cube c.args.below.roots.now c.args.place ds front c.args.leaf)
    (some-by space c.args.below.cube c.args.below.roots.now c.args.place ds front at c.in-Some.leaf c.args.leaf c.in-Some.is own)
    c.args.growth.now c.add_product.new.growth c.add_product.ensures.stops

pub add_choice-returns-clause-front : goal.add_choice-returns-clause-front
add_choice-returns-clause-front t c = front-kept c.args.at.now c.add_product.new.at c.args.place c.in-Some.leaf c.add_product.ensures.front

pub add_product-returns-then-place-rank_of-clause-gains : goal.add_product-returns-then-place-rank_of-clause-gains
add_product-returns-then-place-rank_of-clause-gains t c =
    let space = c.args.below.model.now.space in
    let ds = axes_of space.dimensions (drop c.args.place (dims_of space c.args.below.cube)) in
    let front = take c.args.place c.args.at.now in
    let none = axes-past space.dimensions (dims_of space c.args.below.cube) c.args.place (omega (arith, c.if-place-rank_of.true, c.rank_of.ensures.rank)) in
    gains-result c.add_number.result (λ cell. cell_number c.space.result.now c.args.below.cube front ≡ Some cell) (GoesOn space c.args.below.cube c.args.below.roots.now c.args.place ds front)
    (number-goes space c.space.result.now c.args.below.cube c.args.below.roots.now c.args.place ds front c.space.ensures.space none)
    (goes-number space c.space.result.now c.args.below.cube c.args.below.roots.now c.args.place ds front c.space.ensures.space none)
    c.args.growth.now c.add_number.new.growth c.add_number.ensures.gains

pub add_product-returns-then-place-rank_of-clause-stops : goal.add_product-returns-then-place-rank_of-clause-stops
add_product-returns-then-place-rank_of-clause-stops t c =
    let space = c.args.below.model.now.space in
    let ds = axes_of space.dimensions (drop c.args.place (dims_of space c.args.below.cube)) in
    let front = take c.args.place c.args.at.now in
    let none = axes-past space.dimensions (dims_of space c.args.below.cube) c.args.place (omega (arith, c.if-place-rank_of.true, c.rank_of.ensures.rank)) in
    stops-result c.add_number.result (λ cell. cell_number c.space.result.now c.args.below.cube front ≡ Some cell) (GoesOn space c.args.below.cube c.args.below.roots.now c.args.place ds front)
    (number-goes space c.space.result.now c.args.below.cube c.args.below.roots.now c.args.place ds front c.space.ensures.space none)
    c.args.growth.now c.add_number.new.growth c.add_number.ensures.stops

pub add_product-returns-in_err-add_choice-clause-stops : goal.add_product-returns-in_err-add_choice-clause-stops
add_product-returns-in_err-add_choice-clause-stops t c =
    let space = c.args.below.model.now.space in
    let d = c.axis_of.result.0.now in
    let ds = axes_of space.dimensions (drop (c.args.place + 1) (dims_of space c.args.below.cube)) in
    let front = take c.args.place c.args.at.now in
    let n = c.each.choice in
    let root = slice_get c.args.below.roots.now c.args.place in
    let is : c.leaf_at-leaf.result ≡ leaf_at d root n = c.leaf_at-leaf.ensures.leaf ∙ ap (λ (o : Option ℕ). leaf_at d o n) c.root_of-root.ensures in
    let many : c.candidates-choice-end.result ≡ candidates d root = c.candidates-choice-end.ensures ∙ ap (candidates d) c.root_of-root.ensures in
    let low : n < candidates d root = omega (arith, c.each-test.true, many) in
    let stops = rw c.each.invariant.front at c.in_err-add_choice.ensures.stops in
    handed-on c.from_residual.result c.in_err-add_choice.field-0.0
    (StopsBy (GoesOn space c.args.below.cube c.args.below.roots.now c.args.place (axes_of space.dimensions (drop c.args.place (dims_of space c.args.below.cube))) front) c.args.growth.now c.add_choice.new.growth) c.from_residual.ensures.1
    (subst (λ (os : List Outline). StopsBy (GoesOn space c.args.below.cube c.args.below.roots.now c.args.place os front) c.args.growth.now c.add_choice.new.growth c.in_err-add_choice.field-0.0) (sym c.axis_of.ensures.axis)
    (goes-stops space c.args.below.cube c.args.below.roots.now c.args.place d ds front n c.leaf_at-leaf.result is low c.args.growth.now c.each.growth c.add_choice.new.growth c.in_err-add_choice.field-0.0 c.each.invariant.gains stops))

pub add_product-each-preserved : goal.add_product-each-preserved
add_product-each-preserved t c =
    let space = c.args.below.model.now.space in
    let d = c.axis_of.result.0.now in
    let ds = axes_of space.dimensions (drop (c.args.place + 1) (dims_of space c.args.below.cube)) in
    let front = take c.args.place c.args.at.now in
    let n = c.each.choice in
    let root = slice_get c.args.below.roots.now c.args.place in
    let is : c.leaf_at-leaf.result ≡ leaf_at d root n = c.leaf_at-leaf.ensures.leaf ∙ ap (λ (o : Option ℕ). leaf_at d o n) c.root_of-root.ensures in
    let gains = rw c.each.invariant.front at c.in_ok-add_choice.ensures.gains in
    record {
      gains = goes-more space c.args.below.cube c.args.below.roots.now c.args.place d ds front n c.leaf_at-leaf.result is c.args.growth.now c.each.growth c.add_choice.new.growth c.each.invariant.gains gains;
      front = c.add_choice.ensures.front ∙ c.each.invariant.front;
    }

pub add_product-returns-clause-gains : goal.add_product-returns-clause-gains
add_product-returns-clause-gains t c =
    let space = c.args.below.model.now.space in
    let d = c.axis_of.result.0.now in
    let ds = axes_of space.dimensions (drop (c.args.place + 1) (dims_of space c.args.below.cube)) in
    let front = take c.args.place c.args.at.now in
    let root = slice_get c.args.below.roots.now c.args.place in
    let many : c.candidates-choice-end.result ≡ candidates d root = c.candidates-choice-end.ensures ∙ ap (candidates d) c.root_of-root.ensures in
    let end : c.each.choice ≡ candidates d root = omega (arith, c.each-test.false, c.each.auto.choice-end, many) in
    let gains = subst (λ (k : ℕ). Gains (GoesOnWithin space c.args.below.cube c.args.below.roots.now c.args.place d ds front k) c.args.growth.now c.each.growth) end c.each.invariant.gains in
    subst (λ (os : List Outline). Gains (GoesOn space c.args.below.cube c.args.below.roots.now c.args.place os front) c.args.growth.now c.each.growth) (sym c.axis_of.ensures.axis)
    (goes-done space c.args.below.cube c.args.below.roots.now c.args.place d ds front c.args.growth.now c.each.growth gains)
