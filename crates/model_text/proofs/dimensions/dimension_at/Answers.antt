use Rattle.std.proofs.Common.{[], ◌∷◌, ◌++◌, sym, ◌∙◌, ap, arith}
use Rattle.std.proofs.lemmas.Result.{err_from_is_err_and}
use Rattle.model_text.proofs.BlockName.{name_kept}
use Rattle.model_text.proofs.ModelExact.{dimension_head_exact, dimension_head_shortens}
use Rattle.model_text.proofs.Stopping.{rests, head_stops, body_stops, block_read}
use Rattle.model_text.proofs.dimensions.dimension_at.Goals as goal

pub returns-in_err-position-clause-read : goal.returns-in_err-position-clause-read
returns-in_err-position-clause-read c =
    let p = err_from_is_err_and c.from_residual.result c.from_residual.ensures.1 in
    λ blocks. rw (p.1, p.2) (head_stops blocks c.args.partial.now c.args.cursor.now.tokens c.in_err-position.field-0.0 c.in_err-position.ensures.read)

pub body_at-requires-clause-tokens : goal.body_at-requires-clause-tokens
body_at-requires-clause-tokens c = rests dimension_head_exact _ _ _ _ _ c.in_ok-position.ensures.read c.requires

pub returns-in_ok-add_dimension-in-Ok-clause-read : goal.returns-in_ok-add_dimension-in-Ok-clause-read
returns-in_ok-add_dimension-in-Ok-clause-read c = λ blocks. (
    let (block, read, built) = c.in-Ok.ensures.read in (
      block,
      block_read blocks c.args.partial.now c.add_dimension.new.self c.args.cursor.now.tokens _ _ c.in_ok-position.position c.in_ok-position.name block c.in_ok-position.ensures.read read
          (c.in_ok-add_dimension-in-Ok.ensures.ok ∙ ap (λ n. record c.args.partial.now { names = c.args.partial.now.names ++ n ∷ [] }) c.in_ok-copy.ensures),
      built,
    ))

pub returns-in_ok-add_dimension-in-Ok-clause-added : goal.returns-in_ok-add_dimension-in-Ok-clause-added
returns-in_ok-add_dimension-in-Ok-clause-added c =
    let (block, read, built) = c.in-Ok.ensures.read in
    c.in_ok-add_dimension-in-Ok.ensures.ok ∙ ap (λ n. record c.args.partial.now { names = c.args.partial.now.names ++ n ∷ [] }) (c.in_ok-copy.ensures ∙ sym (built.dimension.name ∙ name_kept _ _ _ _ block read))

pub returns-in_ok-add_dimension-in-Ok-clause-shorter : goal.returns-in_ok-add_dimension-in-Ok-clause-shorter
returns-in_ok-add_dimension-in-Ok-clause-shorter c =
    let fewer = dimension_head_shortens _ _ _ _ _ c.in_ok-position.ensures.read in
    omega (arith, fewer, c.in-Ok.ensures.shorter)

pub returns-in-Err-clause-read : goal.returns-in-Err-clause-read
returns-in-Err-clause-read c = λ blocks. rw c.of_block.ensures (body_stops blocks c.args.partial.now c.args.cursor.now.tokens _ _ c.in_ok-position.position c.in_ok-position.name c.in-Err.stop c.in_ok-position.ensures.read c.in-Err.ensures.read)
