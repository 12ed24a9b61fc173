use Rattle.std.proofs.Common.{List, [], ◌∷◌, ◌++◌, ◌∙◌, ap, subst}
use Rattle.grammar.specs.Cursor.{Reads}
use Rattle.grammar.specs.Reading.{all_of}
use Rattle.grammar.specs.Lists.{read_behind}
use Rattle.grammar.proofs.list.repeated_behind.Goals as goal

pub returns : goal.returns
returns g c =
    subst (λ before. Reads {X = List g.row.T.Denot} {C = g.row.C.Denot} {A = List g.row.T.Denot} (λ items. items) (read_behind before (all_of (g.I.RepeatedItem.begins c.args.item.now) (g.I.RepeatedItem.reads_next c.args.item.now))) c.args.cursor.now c.all_behind.result c.all_behind.new.cursor)
    (c.in_ok-push.ensures.items ∙ ap (λ before. before ++ c.args.first ∷ []) c.in_ok-items.ensures.items) c.all_behind.ensures
