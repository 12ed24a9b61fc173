use Rattle.std.proofs.Common.{sym, ◌∙◌, ap, subst}
use Rattle.std.proofs.lemmas.Result.{err_from_is_err_and}
use Rattle.model_text.specs.Gathering.{CubeOpen, at}
use Rattle.model_text.specs.Readers.Reading.{gather_further_dimensions}
use Rattle.model_text.specs.Readers.Views.{GivesState}
use Rattle.model_text.proofs.Stopping.{dimensions_behind_first, first_stops}
use Rattle.model_text.proofs.cubes.dimensions_at.Goals as goal

pub returns-in_err-first-clause-read : goal.returns-in_err-first-clause-read
returns-in_err-first-clause-read c =
    let p = err_from_is_err_and c.from_residual.result c.from_residual.ensures.1 in
    λ word_place cube. rw (p.1, p.2) (first_stops _ c.args.cursor.now.tokens c.in_err-first.field-0.0 (c.in_err-first.ensures.read word_place cube))

pub returns-clause-read : goal.returns-clause-read
returns-clause-read c = λ word_place cube. (
    let (piece, read) = c.in_ok-first.ensures.read word_place cube in
    subst (GivesState (λ all. at c.args.partial.now (CubeOpen word_place cube all.items)) c.further_dimensions.result c.further_dimensions.new.cursor.tokens)
    (sym (dimensions_behind_first _ _ c.args.cursor.now.tokens c.dimension_at.new.cursor.tokens piece read ∙ ap (λ ds. gather_further_dimensions (at c.args.partial.now (CubeOpen word_place cube ds)) c.dimension_at.new.cursor.tokens) (sym c.in_ok-dims.ensures)))
    (c.further_dimensions.ensures.read word_place cube))
