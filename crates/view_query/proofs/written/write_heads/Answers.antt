use Rattle.std.proofs.Common.{◌<◌, ◌+◌, ◌∙◌, ◌++◌, ◌∷◌, [], ℕ, length, map, drop, get_or, ap, arith}
use Rattle.std.specs.List.{enumerate_from, items_where_true}
use Rattle.std.proofs.lemmas.Option.{slice_get-get_or}
use Rattle.view_query.specs.declared.shape.Axis.{Axis}
use Rattle.view_query.specs.Table.{head_line}
use Rattle.view_query.specs.Inside.Text.{led}
use Rattle.view_query.proofs.LoopFacts.{one_piece}
use Rattle.view_query.proofs.WritingFacts.{heads_next}
use Rattle.view_query.proofs.written.write_heads.Goals as goal

pub loop-index-preserved : goal.loop-index-preserved
loop-index-preserved c =
    let columns = c.args.view.now.columns in
    let i = c.loop-index.index in
    let none : Axis = record { place = 0; elements = [] } in
    let low : i < length columns = omega (arith, c.loop-index-test.true, ap length c.as_slice-index-end.ensures) in
    let line = λ (at : ℕ × Axis). head_line c.args.space.now c.args.view.now (items_where_true c.args.grid.now.columns_shown.items c.args.grid.now.columns.items) at in
    one_piece c.loop-index.out.items c.write_head.new.out.items (10 ∷ line (i, get_or columns i none))
    (led (map line (enumerate_from (i + 1) (drop (i + 1) columns)))) (c.args.out.now.items ++ led (map line (enumerate_from 0 columns)))
    (c.in_ok-write_head.ensures (get_or columns i none) (slice_get-get_or columns i none low))
    (ap (λ l. c.loop-index.out.items ++ l) (heads_next line columns i none low) ∙ c.loop-index.invariant)
