use Rattle.std.proofs.Common.{◌∙◌, sym, ap, subst, All}
use Rattle.cube_space.specs.Layout.{axes}
use Rattle.view_query.specs.Views.{lines}
use Rattle.view_query.specs.Inside.Lines.{IsLine}
use Rattle.view_query.proofs.LineFacts.{lines_are}
use Rattle.view_query.proofs.table.grid_of.Goals as goal

pub all_values-requires-clause-rows : goal.all_values-requires-clause-rows
all_values-requires-clause-rows g c =
    let D = axes c.args.space.now c.args.view.now.cube in
    subst (All (IsLine D c.args.view.now.rows)) (sym (c.deref.ensures.value ∙ c.in_ok-rows.ensures ∙ ap lines c.as_slice.ensures)) (lines_are D c.args.view.now.rows c.requires.view.rows)

pub all_values-requires-clause-columns : goal.all_values-requires-clause-columns
all_values-requires-clause-columns g c =
    let D = axes c.args.space.now c.args.view.now.cube in
    subst (All (IsLine D c.args.view.now.columns)) (sym (c.deref-2.ensures.value ∙ c.in_ok-columns.ensures ∙ ap lines c.as_slice-2.ensures)) (lines_are D c.args.view.now.columns c.requires.view.columns)
