use Rattle.std.proofs.Common.{sym, ◌∙◌}
use Rattle.word_table.proofs.Noted.{noted_before, noted_anew}
use Rattle.word_table.proofs.table.note.Goals as goal

pub returns-then-contains_key-clause-noted : goal.returns-then-contains_key-clause-noted
returns-then-contains_key-clause-noted c words are long =
    noted_before c.args.places.now c.args.word.now (sym c.contains_key.ensures ∙ c.if-contains_key.true) words are

pub returns-clause-noted : goal.returns-clause-noted
returns-clause-noted c words are long =
    noted_anew c.args.places.now c.insert.new.self c.in_ok-word.word c.args.place c.in_ok-insert.ensures.updates c.args.word.now
    c.in_ok-word.ensures.items (sym c.contains_key.ensures ∙ c.if-contains_key.false) words are long
