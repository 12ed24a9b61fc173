use Rattle.std.proofs.Common.{◌∙◌, ap, drop}
use Rattle.std.proofs.lemmas.List.{drop-drop}
use Rattle.grammar.proofs.cursor.position_left.Goals as goal

pub token-preserved : goal.token-preserved
token-preserved c = c.advance.ensures ∙ ap (drop 1) c.token.invariant ∙ drop-drop 1 c.token.counter c.args.tokens
