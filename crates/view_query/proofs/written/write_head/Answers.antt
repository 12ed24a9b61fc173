use Rattle.std.proofs.Common.{◌≡◌, ◌∙◌, ◌++◌, ◌∷◌, [], List, ℕ, length, replicate, ap, arith, slice_get}
use Rattle.std.specs.List.{items_where_true}
use Rattle.std.proofs.lemmas.List.{append_assoc}
use Rattle.view_query.specs.Table.{joined}
use Rattle.view_query.specs.Inside.Text.{tabbed, names_across}
use Rattle.view_query.proofs.WritingFacts.{tabbed_both}
use Rattle.view_query.proofs.written.write_head.Goals as goal

pub returns : goal.returns
returns c = λ across found.
    let space = c.args.space.now in
    let view = c.args.view.now in
    let grid = c.args.grid.now in
    let before = c.push.new.self.items in
    let empty : List (List ℕ) = replicate (length view.rows) [] in
    let names : List (List ℕ) = names_across space view.cube across c.args.index (items_where_true grid.columns_shown.items grid.columns.items) in
    let long : length before ≡ c.len-start.result = omega (arith, c.len-start.ensures, c.push.new.self.ok) in
    let first = c.in_ok-write_empty.ensures ∙ ap (λ l. before ++ tabbed (replicate (length l) [])) c.as_slice.ensures in
    let there = ap (λ l. slice_get l c.args.index) c.as_slice-along.ensures ∙ found in
    let second = c.in_ok-write_names_across.ensures across there
    ∙ ap (λ l. c.write_empty.new.out.items ++ tabbed (names_across space view.cube across c.args.index (items_where_true l c.deref.result.now))) c.deref-2.ensures.value
    ∙ ap (λ l. c.write_empty.new.out.items ++ tabbed (names_across space view.cube across c.args.index (items_where_true grid.columns_shown.items l))) c.deref.ensures.value in
    c.end_line.ensures before (empty ++ names) long (second ∙ ap (λ l. l ++ tabbed names) first ∙ tabbed_both before empty names)
    ∙ ap (λ l. l ++ joined (empty ++ names)) c.in_ok-push.ensures.items ∙ append_assoc c.args.out.now.items (10 ∷ []) (joined (empty ++ names))
