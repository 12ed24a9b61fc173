use Rattle.std.proofs.Common.{◌≡◌, ◌∙◌, ap, sym, true}
use Rattle.cube_lex.specs.Lexeme.{lexeme_of}
use Rattle.explanation.specs.Statements.{is_counted, counted_tokens}
use Rattle.explanation.proofs.Begins.{past, found}
use Rattle.explanation.proofs.Tokens.{none_left}
use Rattle.explanation.proofs.statements.tokens_from.Goals as goal

pub returns-in_default-counted_with : goal.returns-in_default-counted_with
returns-in_default-counted_with c =
    c.passed_all.ensures
    ∙ sym (past c.args.place c.token.counted c.token.left (lexeme_of c.in-Some.token) (sym c.in-Some.ensures) c.in_default-counted_with.ensures)
    ∙ c.token.invariant

pub returns-then-is_counted : goal.returns-then-is_counted
returns-then-is_counted c =
    let last : is_counted c.args.place c.in-Some-counted_with.more ≡ true = sym c.is_counted.ensures ∙ c.if-is_counted.true in
    sym (found c.args.place c.token.counted c.token.left (lexeme_of c.in-Some.token) (sym c.in-Some.ensures) c.in-Some-counted_with.more c.in-Some-counted_with.ensures last)
    ∙ c.token.invariant

pub returns : goal.returns
returns c =
    let none = none_left c.token.left (sym c.in_default.ensures) in
    none ∙ ap (counted_tokens c.args.place c.token.counted) (sym none) ∙ c.token.invariant
