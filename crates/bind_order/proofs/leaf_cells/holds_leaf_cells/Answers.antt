use Rattle.std.proofs.Common.{◌≡◌, ◌∙◌, ◌<◌, true, false, length, take, sym, ap, arith, below_more}
use Rattle.std.proofs.lemmas.List.{get_or_read}
use Rattle.cube_space.specs.Layout.{axes, dims_of}
use Rattle.bind_order.specs.Inside.Breaks.{is_broken_at}
use Rattle.bind_order.proofs.BreakFacts.{no_position, is_broken, axes-are, unbroken, broken}
use Rattle.bind_order.proofs.leaf_cells.holds_leaf_cells.Goals as goal

pub returns-then-is_broken_at : goal.returns-then-is_broken_at
returns-then-is_broken_at c =
    let ds = axes c.args.space.now c.args.cube in
    let list = c.args.positions.now in
    let place = c.loop-place.place in
    let low : place < length list = omega (arith, c.loop-place-test.true, c.loop-place.auto.place-end) in
    let breaks : is_broken ds list place ≡ true =
    ap (is_broken_at ds (take place list)) (sym (get_or_read list place c.index-positions-place.result low c.index-positions-place.is no_position))
    ∙ ap (λ front. is_broken_at ds front c.index-positions-place.result) (sym c.split_at.ensures.front) ∙ sym c.is_broken_at.ensures ∙ c.if-is_broken_at.true in
    sym (broken ds list c.requires.few c.requires.each (axes-are c.args.space.now.dimensions c.size-cells.ensures.valid.dimensions (dims_of c.args.space.now c.args.cube)) place low breaks)

pub loop-place-preserved : goal.loop-place-preserved
loop-place-preserved c =
    let ds = axes c.args.space.now c.args.cube in
    let list = c.args.positions.now in
    let place = c.loop-place.place in
    let low : place < length list = omega (arith, c.loop-place-test.true, c.loop-place.auto.place-end) in
    let holds : is_broken ds list place ≡ false =
    ap (is_broken_at ds (take place list)) (sym (get_or_read list place c.index-positions-place.result low c.index-positions-place.is no_position))
    ∙ ap (λ front. is_broken_at ds front c.index-positions-place.result) (sym c.split_at.ensures.front) ∙ sym c.is_broken_at.ensures ∙ c.if-is_broken_at.false in
    below_more (λ k. is_broken ds list k ≡ false) place c.loop-place.invariant holds

pub returns : goal.returns
returns c =
    let list = c.args.positions.now in
    sym (unbroken (axes c.args.space.now c.args.cube) list c.requires.few (λ k low. c.loop-place.invariant k (omega (arith, low, c.loop-place-test.false, c.loop-place.auto.place-end))))
