use Rattle.std.proofs.Common.{◌≡◌, ap, sym, ◌∙◌, rules}
use Rattle.cube_lex.specs.Quoted.{quoted, unquoted}
use Rattle.cube_lex.proofs.Quotes.{unquoted-quoted}
use Rattle.cube_lex.proofs.quoted.unquoted.Goals as goal

pub returns-clause-same : goal.returns-clause-same
returns-clause-same c is =
    let read : c.bytes.bytes.items ≡ unquoted c.args.piece.now = search rules in
    ap quoted read ∙ ap (λ piece. quoted (unquoted piece)) is.2 ∙ ap quoted (unquoted-quoted is.0) ∙ sym is.2
