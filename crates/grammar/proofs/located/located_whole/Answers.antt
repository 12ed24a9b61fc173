use Rattle.std.proofs.Common.{ℕ}
use Rattle.std.proofs.lemmas.Result.{err_from_is_err_and}
use Rattle.cube_lex.specs.declared.position.Position.{Position}
use Rattle.grammar.specs.Tokens.{whole}
use Rattle.grammar.proofs.WithPlaces.{located_taken, located_stops}
use Rattle.grammar.proofs.located.located_whole.Goals as goal

pub returns-in_err-number-clause-read : goal.returns-in_err-number-clause-read
returns-in_err-number-clause-read g c =
    let p = err_from_is_err_and c.from_residual.result c.from_residual.ensures.1 in
    rw (p.1, p.2) (located_stops {X = ℕ} {Y = Position × ℕ} (λ n. n) (λ x. x) g.S.Scan.scanned whole c.args.cursor.now.state _ _ c.args.cursor.now.tokens _ _ c.in_err-number.field-0.0 c.in_err-number.ensures.read)

pub returns-clause-read : goal.returns-clause-read
returns-clause-read g c = located_taken g.S.Scan.scanned whole c.args.cursor.now.state c.args.cursor.now.tokens _ c.position-position.result c.in_ok-number.number _ c.in_ok-number.ensures.read c.position-position.ensures
