use Rattle.std.proofs.Common.{◌≡◌, ◌+◌, ◌∙◌, ◌++◌, false, ℕ, List, length, get_or, slice_index_or, sym, ap, subst, arith}
use Rattle.std.proofs.lemmas.Option.{get_or_from_slice_get}
use Rattle.cube_space.specs.Layout.{axes}
use Rattle.view_query.specs.Table.{shown_name}
use Rattle.view_query.specs.Inside.Lines.{IsElementOf, IsLine}
use Rattle.view_query.specs.Inside.Text.{tabbed_if}
use Rattle.view_query.proofs.LoopFacts.{line_at, one_piece, no_piece}
use Rattle.view_query.proofs.WritingFacts.{picked, picked_next, picked_end}
use Rattle.view_query.proofs.fields.write_names_across.Goals.{After-as_slice}
use Rattle.view_query.proofs.fields.write_names_across.Goals as goal

-- the line at the place has one element of each axis
own : (c : After-as_slice) → IsLine (axes c.args.space.now c.args.cube) c.args.along.now c.index-lines-place.result
own c =
    subst (IsLine (axes c.args.space.now c.args.cube) c.args.along.now) (sym c.index-lines-place.is) (c.requires.lines c.loop-place.place c.index-lines-place.result c.loop-place-test.true)

pub bounds-as_slice-index : goal.bounds-as_slice-index
bounds-as_slice-index c =
    let is = own (goal.at.bounds-as_slice-index c).After-as_slice in
    let low = (line_at (axes c.args.space.now c.args.cube) c.args.along.now c.index-lines-place.result c.args.index (record { place = 0; elements = c.index-lines-place.result }) 0 is c.requires.index).0 in
    omega (arith, low, ap length c.as_slice.ensures)

pub write_name_if-requires-clause-element : goal.write_name_if-requires-clause-element
write_name_if-requires-clause-element c =
    let D = axes c.args.space.now c.args.cube in
    let is = own (goal.at.write_name_if-requires-clause-element c).After-as_slice in
    let at = (line_at D c.args.along.now c.index-lines-place.result c.args.index c.index-along-index.result 0 is c.requires.index).1 in
    subst (λ l. IsElementOf D c.index-along-index.result (slice_index_or l c.args.index 0)) (sym c.as_slice.ensures)
    (subst (λ a. IsElementOf D a (slice_index_or c.index-lines-place.result c.args.index 0)) (sym c.index-along-index.is) at)

pub loop-place-preserved : goal.loop-place-preserved
loop-place-preserved c = λ across found.
    let space = c.args.space.now in
    let i = c.loop-place.place in
    let L = c.index-lines-place.result in
    let f = λ (line : List ℕ). shown_name space c.args.cube across (slice_index_or line c.args.index 0) in
    let axis = c.index-along-index.is ∙ get_or_from_slice_get c.args.along.now c.args.index across c.index-along-index.result found in
    let name : shown_name space c.args.cube c.index-along-index.result (slice_index_or c.as_slice.result.now c.args.index 0) ≡ f (get_or c.args.lines.now i L) =
    ap (λ a. shown_name space c.args.cube a (slice_index_or c.as_slice.result.now c.args.index 0)) axis ∙ ap f (c.as_slice.ensures ∙ c.index-lines-place.is) in
    one_piece c.loop-place.out.items c.write_name_if.new.out.items (tabbed_if (get_or c.args.shown.now i false) (f (get_or c.args.lines.now i L)))
    (picked f c.args.shown.now c.args.lines.now (i + 1)) (c.args.out.now.items ++ picked f c.args.shown.now c.args.lines.now 0)
    (c.in_ok-write_name_if.ensures ∙ ap (λ t. c.loop-place.out.items ++ tabbed_if (get_or c.args.shown.now i false) t) name)
    (ap (λ l. c.loop-place.out.items ++ l) (picked_next f c.args.shown.now c.args.lines.now i false L (omega (arith, c.requires.shown, c.loop-place-test.true)) c.loop-place-test.true)
    ∙ c.loop-place.invariant across found)

pub returns : goal.returns
returns c = λ across found.
    let f = λ (line : List ℕ). shown_name c.args.space.now c.args.cube across (slice_index_or line c.args.index 0) in
    let i = c.loop-place.place in
    no_piece c.loop-place.out.items (picked f c.args.shown.now c.args.lines.now i) (c.args.out.now.items ++ picked f c.args.shown.now c.args.lines.now 0)
    (picked_end f c.args.shown.now c.args.lines.now i (omega (arith, c.requires.shown, c.loop-place-test.false))) (c.loop-place.invariant across found)
