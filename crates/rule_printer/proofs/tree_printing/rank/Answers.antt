use Rattle.std.proofs.Common.{sym, ap, ◌∙◌}
use Rattle.rule_printer.specs.Spelled.{written}
use Rattle.rule_printer.proofs.PrintedTrees.{written_number, written_text, written_current, written_bracket, written_stet, written_continue, written_call, written_minus, written_not, written_binary}
use Rattle.rule_printer.proofs.tree_printing.rank.Goals as goal

pub returns-in-Number : goal.returns-in-Number
returns-in-Number c = sym (ap (λ t. (written t).rank) c.in-Number.is ∙ ap (λ w. w.rank) (written_number c.in-Number.field-0))

pub returns-in-Text : goal.returns-in-Text
returns-in-Text c = sym (ap (λ t. (written t).rank) c.in-Text.is ∙ ap (λ w. w.rank) (written_text c.in-Text.field-0))

pub returns-in-Current : goal.returns-in-Current
returns-in-Current c = sym (ap (λ t. (written t).rank) c.in-Current.is ∙ ap (λ w. w.rank) (written_current c.in-Current.field-0))

pub returns-in-Bracket : goal.returns-in-Bracket
returns-in-Bracket c = sym (ap (λ t. (written t).rank) c.in-Bracket.is ∙ ap (λ w. w.rank) (written_bracket c.in-Bracket.field-0))

pub returns-in-Stet : goal.returns-in-Stet
returns-in-Stet c = sym (ap (λ t. (written t).rank) c.in-Stet.is ∙ ap (λ w. w.rank) written_stet)

pub returns-in-Continue : goal.returns-in-Continue
returns-in-Continue c = sym (ap (λ t. (written t).rank) c.in-Continue.is ∙ ap (λ w. w.rank) written_continue)

pub returns-in-Call : goal.returns-in-Call
returns-in-Call c = sym (ap (λ t. (written t).rank) c.in-Call.is ∙ ap (λ w. w.rank) (written_call c.in-Call.field-0 c.in-Call.field-1))

pub returns-in-Minus : goal.returns-in-Minus
returns-in-Minus c = sym (ap (λ t. (written t).rank) c.in-Minus.is ∙ ap (λ w. w.rank) (written_minus c.in-Minus.field-0))

pub returns-in-Not : goal.returns-in-Not
returns-in-Not c = sym (ap (λ t. (written t).rank) c.in-Not.is ∙ ap (λ w. w.rank) (written_not c.in-Not.field-0))

pub returns-in-Binary : goal.returns-in-Binary
returns-in-Binary c = c.rank_of.ensures ∙ sym (ap (λ t. (written t).rank) c.in-Binary.is ∙ ap (λ w. w.rank) (written_binary c.in-Binary.op c.in-Binary.field-1 c.in-Binary.field-2))
