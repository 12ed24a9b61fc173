use Rattle.std.proofs.Common.{sym, subst}
use Rattle.cube_lex.specs.Lexeme.{lexeme_of}
use Rattle.explanation.proofs.StatementTable.{IsTableUpTo, all-read, one-token, stopped}
use Rattle.explanation.proofs.Tokens.{none_left}
use Rattle.explanation.proofs.tables.statement_tokens.Goals as goal

pub returns-in_default-counted_with : goal.returns-in_default-counted_with
returns-in_default-counted_with c =
    stopped c.args.tokens c.token.table.items c.token.counted c.token.left c.token.invariant (lexeme_of c.in-Some.token) (sym c.in-Some.ensures) c.in_default-counted_with.ensures

pub token-preserved : goal.token-preserved
token-preserved c =
    let more = c.in-Some-counted_with.more in
    subst (λ table. IsTableUpTo c.args.tokens table more c.advance.new.self) (sym c.in_ok-push_begun.ensures)
    (subst (IsTableUpTo c.args.tokens _ more) (sym c.advance.ensures)
    (one-token c.args.tokens c.token.table.items c.token.counted c.token.left c.token.invariant (lexeme_of c.in-Some.token) (sym c.in-Some.ensures) more c.in-Some-counted_with.ensures))

pub returns : goal.returns
returns c = all-read c.args.tokens c.token.table.items c.token.counted c.token.left c.token.invariant (none_left c.token.left (sym c.in_default.ensures))
