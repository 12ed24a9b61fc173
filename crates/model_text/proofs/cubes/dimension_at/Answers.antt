use Rattle.std.proofs.Common.{ℕ, List}
use Rattle.std.proofs.lemmas.Result.{err_from_is_err_and}
use Rattle.cube_lex.specs.declared.position.Position.{Position}
use Rattle.model_text.specs.Statement.{CubeDimension}
use Rattle.model_text.specs.Readers.Reading.{read_dimension_behind}
use Rattle.model_text.proofs.Stopping.{piece_gathers, piece_stops}
use Rattle.model_text.proofs.cubes.dimension_at.Goals as goal

pub returns-in_err-position-clause-read : goal.returns-in_err-position-clause-read
returns-in_err-position-clause-read c =
    let p = err_from_is_err_and c.from_residual.result c.from_residual.ensures.1 in
    λ word_place cube. rw (p.1, p.2) (piece_stops {X = Position × List ℕ} (λ x. CubeDimension x.0 x.1) (read_dimension_behind c.args.before.now) _ c.args.cursor.now.tokens _ _ c.in_err-position.field-0.0 c.in_err-position.ensures.read)

pub returns-clause-read : goal.returns-clause-read
returns-clause-read c = λ word_place cube. piece_gathers _ (read_dimension_behind c.args.before.now) _ c.args.cursor.now.tokens _ _ _ c.number_of.result c.in_ok-position.ensures.read (c.number_of.ensures word_place cube)
