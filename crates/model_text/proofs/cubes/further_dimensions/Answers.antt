use Rattle.std.proofs.Common.{◌≡◌, Ok, [], ◌∷◌, ◌++◌, codes, refl, sym, ap, subst, arith, length, length-append}
use Rattle.std.proofs.lemmas.Result.{err_from_is_err_and}
use Rattle.grammar.specs.Reading.{gives, bound}
use Rattle.grammar.specs.Tokens.{is_sign}
use Rattle.grammar.proofs.Loops.{begun_all, goes_further, is_done}
use Rattle.model_text.specs.Gathering.{CubeOpen, at}
use Rattle.model_text.specs.Readers.Reading.{gather, read_dimension_behind, gather_further_dimensions}
use Rattle.model_text.proofs.ModelExact.{next_dimension_shortens}
use Rattle.model_text.proofs.Stopping.{loop_stops}
use Rattle.model_text.proofs.cubes.further_dimensions.Goals as goal

pub dimension-init : goal.dimension-init
dimension-init c = (λ word_place cube. ([], begun_all (is_sign (codes ",")) (gather (read_dimension_behind (codes ","))) _ _), omega arith)

pub dimension-preserved : goal.dimension-preserved
dimension-preserved c = (
  λ word_place cube. (
      let (front, going) = c.dimension.invariant.0 word_place cube in
      let (piece, read) = rw c.deref.ensures.value at (c.in_ok-number.ensures.read word_place cube) in
      let pushed = c.in_ok-push.ensures.items in (
        front ++ piece ∷ [],
        goes_further going c.dimension-test.ensures
            (subst (λ ds. gather (read_dimension_behind (codes ",")) (at c.args.partial.now (CubeOpen word_place cube c.dimension.dims.items)) c.dimension.cursor.tokens ≡ Ok (piece, at c.args.partial.now (CubeOpen word_place cube ds), c.dimension_at.new.cursor.tokens)) (sym pushed) read)
            (next_dimension_shortens _ _ _ _ _ read) refl,
      )),
  omega (arith, c.dimension.invariant.1, ap length c.in_ok-push.ensures.items, length-append c.dimension.dims.items (c.in_ok-number.number ∷ [])),
)

pub returns-in_err-number-clause-read : goal.returns-in_err-number-clause-read
unfolding gather_further_dimensions
returns-in_err-number-clause-read c = λ word_place cube. (
    let (front, going) = c.dimension.invariant.0 word_place cube in
    let p = err_from_is_err_and c.from_residual.result c.from_residual.ensures.1 in
    rw (p.1, p.2) (loop_stops (is_sign (codes ",")) (gather (read_dimension_behind (codes ","))) front _ (at c.args.partial.now (CubeOpen word_place cube c.args.dims.items)) _ c.args.cursor.now.tokens c.in_err-number.field-0.0 going c.dimension-test.ensures (rw c.deref.ensures.value at (c.in_err-number.ensures.read word_place cube))))

pub returns-clause-read : goal.returns-clause-read
unfolding gather_further_dimensions
returns-clause-read c = λ word_place cube. (
    let (front, going) = c.dimension.invariant.0 word_place cube in
    ap (λ r. bound r (λ _. gives tt)) (is_done going (sym c.dimension-test.ensures)))

pub returns-clause-more : goal.returns-clause-more
returns-clause-more c = c.dimension.invariant.1
