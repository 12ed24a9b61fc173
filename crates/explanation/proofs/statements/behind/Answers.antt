use Rattle.std.proofs.Common.{◌∙◌, ap, sym}
use Rattle.explanation.specs.Statements.{behind}
use Rattle.explanation.proofs.Tokens.{none_left}
use Rattle.explanation.proofs.statements.behind.Goals as goal

pub returns : goal.returns
returns c =
    let none = none_left c.token.left (sym c.in_default.ensures) in
    none ∙ ap (behind c.args.sign.now) (sym none) ∙ c.token.invariant
