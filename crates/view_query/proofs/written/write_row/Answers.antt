use Rattle.std.proofs.Common.{◌≡◌, ◌∙◌, ◌++◌, ◌∷◌, [], List, ℕ, length, map, ap, arith}
use Rattle.std.specs.List.{items_where_true}
use Rattle.std.proofs.lemmas.List.{append_assoc}
use Rattle.cube_fixed.specs.Text.{printed}
use Rattle.view_query.specs.Table.{joined}
use Rattle.view_query.specs.Inside.Text.{tabbed, names_along}
use Rattle.view_query.proofs.WritingFacts.{tabbed_both}
use Rattle.view_query.proofs.written.write_row.Goals as goal

pub returns : goal.returns
returns c =
    let before = c.push.new.self.items in
    let names : List (List ℕ) = names_along c.args.space.now c.args.view.now.cube c.args.view.now.rows c.args.row.now in
    let values : List (List ℕ) = map printed (items_where_true c.args.shown.now c.args.values.now) in
    let long : length before ≡ c.len-start.result = omega (arith, c.len-start.ensures, c.push.new.self.ok) in
    let named = c.in_ok-write_names.ensures ∙ ap (λ l. before ++ tabbed (names_along c.args.space.now c.args.view.now.cube l c.args.row.now)) c.as_slice.ensures in
    c.end_line.ensures before (names ++ values) long (c.in_ok-write_values.ensures ∙ ap (λ l. l ++ tabbed values) named ∙ tabbed_both before names values)
    ∙ ap (λ l. l ++ joined (names ++ values)) c.in_ok-push.ensures.items ∙ append_assoc c.args.out.now.items (10 ∷ []) (joined (names ++ values))
