use Rattle.grammar.specs.Reading.{all_of}
use Rattle.grammar.specs.Lists.{read_behind}
use Rattle.grammar.proofs.After.{Turning}
use Rattle.grammar.proofs.list.all_behind.Given as goal

abbrev pub invariant-item : goal.invariant-item
invariant-item g l =
    Turning (g.I.RepeatedItem.begins l.item) (λ _. g.I.RepeatedItem.reads_next l.item) l.items.items l.cursor.state l.cursor.tokens l.counter l.end
    (read_behind l.fn.items.items (all_of (g.I.RepeatedItem.begins l.fn.item) (g.I.RepeatedItem.reads_next l.fn.item)) l.fn.cursor.state l.fn.cursor.tokens)
