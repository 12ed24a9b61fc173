use Rattle.std.proofs.Common.{◌∙◌, ◌++◌, ap, count_by, fold, sym}
use Rattle.view_query.specs.Views.{cell_at}
use Rattle.view_query.proofs.EmptyFacts.{nothing_asked, on_ok}
use Rattle.view_query.proofs.GridFacts.{table_valid, text_is}
use Rattle.view_query.proofs.ShownFacts.{title_of}
use Rattle.view_query.proofs.table.view.Goals as goal

pub write_heads-requires-clause-grid : goal.write_heads-requires-clause-grid
write_heads-requires-clause-grid g c =
    table_valid c.args.space.now c.args.view.now (λ row column. g.C.Cells.values c.args.cells.now (cell_at c.args.space.now c.args.view.now row column)) c.in_ok-grid.grid
    c.requires.view c.in_ok-grid.ensures.grid

pub write_rows-requires-clause-grid : goal.write_rows-requires-clause-grid
write_rows-requires-clause-grid g c =
    table_valid c.args.space.now c.args.view.now (λ row column. g.C.Cells.values c.args.cells.now (cell_at c.args.space.now c.args.view.now row column)) c.in_ok-grid.grid
    c.requires.view c.in_ok-grid.ensures.grid

pub returns-clause-text : goal.returns-clause-text
returns-clause-text g c =
    text_is c.args.space.now c.args.view.now (g.C.Cells.values c.args.cells.now) c.in_ok-grid.grid
    c.write_title.new.out.items c.write_heads.new.out.items c.write_rows.new.out.items c.shown_count.result c.shown_count-2.result
    c.in_ok-grid.ensures.grid
    (c.shown_count.ensures ∙ ap (count_by (λ shown. shown)) c.deref.ensures.value)
    (c.shown_count-2.ensures ∙ ap (count_by (λ shown. shown)) c.deref-2.ensures.value)
    (c.in_ok-write_title.ensures ∙ ap (λ l. l ++ title_of c.shown_count.result c.shown_count-2.result) c.new-text.ensures.items)
    c.in_ok-write_heads.ensures c.in_ok-write_rows.ensures

pub returns-then-shows_nothing-clause-asked : goal.returns-then-shows_nothing-clause-asked
returns-then-shows_nothing-clause-asked g c =
    on_ok c.empty_text.result
    (sym (ap (fold g.C.Cells.after_asking (g.C.Cells.asked c.args.cells.now)) (nothing_asked c.args.space.now c.args.view.now (sym c.shows_nothing.ensures ∙ c.if-shows_nothing.true))))
