use Rattle.std.proofs.Common.{◌+◌, ◌∙◌, ◌++◌, ◌∷◌, [], ℕ, drop, get_or, sym, ap, subst}
use Rattle.cube_space.specs.Layout.{axes}
use Rattle.view_query.specs.Table.{shown_name}
use Rattle.view_query.specs.Inside.Lines.{IsElementOf}
use Rattle.view_query.specs.Inside.Text.{tabbed, names_along}
use Rattle.view_query.proofs.LoopFacts.{line_at, one_piece}
use Rattle.view_query.proofs.WritingFacts.{names_next}
use Rattle.view_query.proofs.fields.write_names.Goals as goal

pub bounds-line-index : goal.bounds-line-index
bounds-line-index c =
    (line_at (axes c.args.space.now c.args.cube) c.args.along.now c.args.line.now c.loop-index.index c.index-along-index.result 0 c.requires.line c.loop-index-test.true).0

pub shown_name-requires-clause-element : goal.shown_name-requires-clause-element
shown_name-requires-clause-element c =
    let D = axes c.args.space.now c.args.cube in
    let own = (line_at D c.args.along.now c.args.line.now c.loop-index.index c.index-along-index.result 0 c.requires.line c.loop-index-test.true).1 in
    subst (λ a. IsElementOf D a (get_or c.args.line.now c.loop-index.index 0)) (sym c.index-along-index.is) own

pub loop-index-preserved : goal.loop-index-preserved
loop-index-preserved c =
    let space = c.args.space.now in
    let i = c.loop-index.index in
    let a = c.index-along-index.result in
    let e : ℕ = get_or c.args.line.now i 0 in
    let there = (line_at (axes space c.args.cube) c.args.along.now c.args.line.now i a 0 c.requires.line c.loop-index-test.true).0 in
    let name = c.shown_name.ensures ∙ ap (λ x. shown_name space c.args.cube x e) c.index-along-index.is in
    one_piece c.loop-index.out.items c.write_field.new.out.items (shown_name space c.args.cube (get_or c.args.along.now i a) e ++ 9 ∷ [])
    (tabbed (names_along space c.args.cube (drop (i + 1) c.args.along.now) (drop (i + 1) c.args.line.now)))
    (c.args.out.now.items ++ tabbed (names_along space c.args.cube c.args.along.now c.args.line.now))
    (c.in_ok-write_field.ensures ∙ ap (λ t. c.loop-index.out.items ++ (t ++ 9 ∷ [])) name)
    (ap (λ l. c.loop-index.out.items ++ l) (names_next space c.args.cube c.args.along.now c.args.line.now i a 0 c.loop-index-test.true there) ∙ c.loop-index.invariant)
