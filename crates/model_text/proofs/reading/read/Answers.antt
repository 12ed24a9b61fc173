use Rattle.std.proofs.Common.{◌∙◌, subst}
use Rattle.model_text.specs.Readers.Reading.{read_model}
use Rattle.model_text.specs.Readers.Views.{GivesBlocks}
use Rattle.model_text.specs.Watching.{nothing_seen}
use Rattle.model_text.proofs.Whole.{answer_ok, answer_err}
use Rattle.model_text.proofs.reading.read.Goals as goal

pub new-requires : goal.new-requires
new-requires c =
    rw (c.into_parts-version.ensures.version, c.into_parts-version.ensures.cubes, c.into_parts-version.ensures.scripts)
    ((answer_ok (λ x. x.0.items) (λ x. x.1) c.args.text.now _ c.text_tokens-tokens.result.fault c.model_at-model.result c.model_at-model.new.cursor.tokens (c.in-Ok.dims, c.in-Ok.partial) c.text_tokens-tokens.ensures.found
    (subst (λ ts. GivesBlocks (λ x. x.0.items) (λ x. x.1) c.model_at-model.result c.model_at-model.new.cursor.tokens (read_model nothing_seen ts)) (c.new-cursor.ensures.tokens ∙ c.again.ensures) c.model_at-model.ensures.read)
    c.model_at-model.ensures.version c.model_at-model.ensures.names (c.into_parts-version.ensures.cube_orders, c.into_parts-version.ensures.writable_cubes, c.into_parts-version.ensures.writable_scripts) c.in-Ok.ensures).1)

pub returns-in-Ok : goal.returns-in-Ok
returns-in-Ok c =
    rw (c.new.ensures, c.into_parts-version.ensures.version, c.into_parts-version.ensures.cubes, c.into_parts-version.ensures.scripts)
    ((answer_ok (λ x. x.0.items) (λ x. x.1) c.args.text.now _ c.text_tokens-tokens.result.fault c.model_at-model.result c.model_at-model.new.cursor.tokens (c.in-Ok.dims, c.in-Ok.partial) c.text_tokens-tokens.ensures.found
    (subst (λ ts. GivesBlocks (λ x. x.0.items) (λ x. x.1) c.model_at-model.result c.model_at-model.new.cursor.tokens (read_model nothing_seen ts)) (c.new-cursor.ensures.tokens ∙ c.again.ensures) c.model_at-model.ensures.read)
    c.model_at-model.ensures.version c.model_at-model.ensures.names (c.into_parts-version.ensures.cube_orders, c.into_parts-version.ensures.writable_cubes, c.into_parts-version.ensures.writable_scripts) c.in-Ok.ensures).0)

pub returns-in-Err : goal.returns-in-Err
returns-in-Err c =
    rw c.fault_of.ensures
    (answer_err (λ x. x.0.items) (λ x. x.1) c.args.text.now _ c.text_tokens-tokens.result.fault c.model_at-model.result c.model_at-model.new.cursor.tokens c.in-Err.fault c.text_tokens-tokens.ensures.found
    (subst (λ ts. GivesBlocks (λ x. x.0.items) (λ x. x.1) c.model_at-model.result c.model_at-model.new.cursor.tokens (read_model nothing_seen ts)) (c.new-cursor.ensures.tokens ∙ c.again.ensures) c.model_at-model.ensures.read)
    c.in-Err.ensures)
