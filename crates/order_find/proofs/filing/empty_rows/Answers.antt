use Rattle.std.proofs.Common.{◌∙◌, ap, [], ◌++◌, ◌∷◌, replicate}
use Rattle.std.proofs.lemmas.List.{replicate_more}
use Rattle.order_find.proofs.filing.empty_rows.Goals as goal

pub each-preserved : goal.each-preserved
each-preserved c =
    c.in_ok-push.ensures.items ∙ ap (λ rows. rows ++ c.new-in-each.result ∷ []) c.each.invariant
    ∙ ap (λ row. replicate c.each._row [] ++ row ∷ []) (c.new-in-each.ensures ∙ c.new.ensures.items) ∙ replicate_more c.each._row []
