use Rattle.std.proofs.Common.{sym, ◌∙◌, inr}
use Rattle.cube_lex.proofs.reading.tokens.Goals as goal

pub returns-in-None-clause-only : goal.returns-in-None-clause-only
returns-in-None-clause-only c lexed fault is =
    let same = c.in_ok-tokens.ensures.only lexed fault is in
    (same.0, sym same.1 ∙ c.in-None.is)

pub returns-clause-only : goal.returns-clause-only
returns-clause-only c lexed fault is =
    let same = c.in_ok-tokens.ensures.only lexed fault is in
    inr (sym same.1 ∙ c.in-Some.is)
