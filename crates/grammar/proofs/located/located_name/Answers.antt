use Rattle.std.proofs.Common.{ℕ, List}
use Rattle.std.proofs.lemmas.Result.{err_from_is_err_and}
use Rattle.cube_lex.specs.declared.position.Position.{Position}
use Rattle.grammar.specs.Tokens.{name}
use Rattle.grammar.proofs.WithPlaces.{located_taken, located_stops}
use Rattle.grammar.proofs.located.located_name.Goals as goal

pub returns-in_err-name-clause-read : goal.returns-in_err-name-clause-read
returns-in_err-name-clause-read g c =
    let p = err_from_is_err_and c.from_residual.result c.from_residual.ensures.1 in
    rw (p.1, p.2) (located_stops {X = List ℕ} {Y = Position × List ℕ} (λ n. n) (λ x. x) g.S.Scan.scanned name c.args.cursor.now.state _ _ c.args.cursor.now.tokens _ _ c.in_err-name.field-0.0 c.in_err-name.ensures.read)

pub returns-clause-read : goal.returns-clause-read
returns-clause-read g c = located_taken g.S.Scan.scanned name c.args.cursor.now.state c.args.cursor.now.tokens _ c.position-position.result c.in_ok-name.name _ c.in_ok-name.ensures.read c.position-position.ensures
