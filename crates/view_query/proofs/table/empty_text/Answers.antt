use Rattle.std.proofs.Common.{[], ◌++◌, ap, ◌∙◌}
use Rattle.view_query.specs.Inside.Text.{heads}
use Rattle.view_query.proofs.EmptyFacts.{nothing_left}
use Rattle.view_query.proofs.ShownFacts.{title_of}
use Rattle.view_query.proofs.table.empty_text.Goals as goal

pub returns : goal.returns
returns c values =
    let space = c.args.space.now in
    let view = c.args.view.now in
    c.in_ok-write_heads.ensures
    ∙ ap (λ l. l ++ heads space view c.new-2.result.items c.new-5.result.items) (c.in_ok-write_title.ensures ∙ ap (λ l. l ++ title_of 0 0) c.new-text.ensures.items)
    ∙ ap (λ columns. title_of 0 0 ++ heads space view columns c.new-5.result.items) c.new-2.ensures.items
    ∙ ap (λ shown. title_of 0 0 ++ heads space view [] shown) c.new-5.ensures.items
    ∙ nothing_left space view values c.requires.nothing
