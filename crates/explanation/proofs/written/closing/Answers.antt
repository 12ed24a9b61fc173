use Rattle.std.proofs.Common.{◌∙◌, ap, sym}
use Rattle.explanation.specs.Written.{closing}
use Rattle.explanation.proofs.Tokens.{none_left}
use Rattle.explanation.proofs.written.closing.Goals as goal

pub returns : goal.returns
returns c =
    let none = none_left c.token.left (sym c.in_default.ensures) in
    ap (closing c.token.depth) (sym none) ∙ c.token.invariant.0
