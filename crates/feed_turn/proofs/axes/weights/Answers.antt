use Rattle.std.proofs.Common.{◌≡◌, ◌∙◌, [], Some, ap, sym}
use Rattle.std.specs.Prelude.{slice_get}
use Rattle.cube_space.specs.Layout.{Layout, axes}
use Rattle.feed_turn.proofs.Places.{axis-there, table-at}
use Rattle.feed_turn.proofs.axes.weights.Goals as goal

pub bounds-weights-number : goal.bounds-weights-number
bounds-weights-number c =
    let space = c.args.model.now.space in
    let number = c.axis_number-number.result in
    let (d, at) = axis-there (axes space c.args.cube) c.args.place c.requires.place in
    let own : slice_get space.dimensions number ≡ Some d =
    ap (λ (l : Layout). slice_get l.dimensions number) (sym c.space.ensures.space) ∙ c.axis_number-number.ensures.own ∙ ap (λ (l : Layout). slice_get (axes l c.args.cube) c.args.place) c.space.ensures.space ∙ at in
    (table-at space.dimensions c.weights.result.now number [] d c.weights.ensures own).0

pub returns : goal.returns
returns c = λ d at.
    let space = c.args.model.now.space in
    let number = c.axis_number-number.result in
    let own : slice_get space.dimensions number ≡ Some d =
    ap (λ (l : Layout). slice_get l.dimensions number) (sym c.space.ensures.space) ∙ c.axis_number-number.ensures.own ∙ ap (λ (l : Layout). slice_get (axes l c.args.cube) c.args.place) c.space.ensures.space ∙ at in
    (table-at space.dimensions c.weights.result.now number c.index-weights-number.result d c.weights.ensures own).1 c.index-weights-number.is
