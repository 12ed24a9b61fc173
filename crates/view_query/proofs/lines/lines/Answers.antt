use Rattle.std.proofs.Common.{◌∙◌, sym}
use Rattle.view_query.proofs.LineFacts.{none_with_empty}
use Rattle.view_query.proofs.lines.lines.Goals as goal

pub returns-then-has_empty : goal.returns-then-has_empty
returns-then-has_empty c = c.new.ensures.items ∙ none_with_empty c.args.axes.now (sym c.has_empty.ensures ∙ c.if-has_empty.true)
