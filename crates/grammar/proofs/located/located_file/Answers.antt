use Rattle.std.proofs.Common.{ℕ, List}
use Rattle.std.proofs.lemmas.Result.{err_from_is_err_and}
use Rattle.cube_lex.specs.declared.position.Position.{Position}
use Rattle.grammar.specs.Tokens.{file}
use Rattle.grammar.proofs.WithPlaces.{located_taken, located_stops}
use Rattle.grammar.proofs.located.located_file.Goals as goal

pub returns-in_err-bytes-clause-read : goal.returns-in_err-bytes-clause-read
returns-in_err-bytes-clause-read g c =
    let p = err_from_is_err_and c.from_residual.result c.from_residual.ensures.1 in
    rw (p.1, p.2) (located_stops {X = List ℕ} {Y = Position × List ℕ} (λ n. n) (λ x. x) g.S.Scan.scanned file c.args.cursor.now.state _ _ c.args.cursor.now.tokens _ _ c.in_err-bytes.field-0.0 c.in_err-bytes.ensures.read)

pub returns-clause-read : goal.returns-clause-read
returns-clause-read g c = located_taken g.S.Scan.scanned file c.args.cursor.now.state c.args.cursor.now.tokens _ c.position-position.result c.in_ok-bytes.bytes _ c.in_ok-bytes.ensures.read c.position-position.ensures
