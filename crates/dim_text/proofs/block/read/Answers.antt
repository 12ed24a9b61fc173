use Rattle.std.proofs.Common.{◌≡◌, ◌≤◌, length, drop, sym, ◌∙◌, subst, arith}
use Rattle.std.proofs.lemmas.List.Elements.{All-drop}
use Rattle.std.specs.List.{All}
use Rattle.cube_lex.specs.Lexed.{IsWellFormed}
use Rattle.dim_text.specs.Readers.Views.{Explains}
use Rattle.dim_text.proofs.Answering.{block_at_told, fault_told}
use Rattle.dim_text.proofs.block.read.Goals as goal

pub overflow_sub-result : goal.overflow_sub-result
overflow_sub-result c =
    let same : c.new-cursor.result.tokens ≡ drop c.args.from c.args.tokens.now.lexemes = c.new-cursor.ensures.tokens ∙ c.left_from.ensures.tokens in
    let told = block_at_told c.args.tokens.now.lexemes c.args.from c.new-cursor.result.tokens c.block_at.new.cursor.tokens c.in-Ok.text same c.in-Ok.ensures in
    let fewer : length c.block_at.new.cursor.tokens ≤ length c.args.tokens.now.lexemes = told.0 in
    omega (arith, fewer, c.len.ensures, c.len-in-Ok.ensures)

pub returns-in-Ok : goal.returns-in-Ok
returns-in-Ok c =
    let same : c.new-cursor.result.tokens ≡ drop c.args.from c.args.tokens.now.lexemes = c.new-cursor.ensures.tokens ∙ c.left_from.ensures.tokens in
    let told = block_at_told c.args.tokens.now.lexemes c.args.from c.new-cursor.result.tokens c.block_at.new.cursor.tokens c.in-Ok.text same c.in-Ok.ensures in
    rw (c.len.ensures, c.len-in-Ok.ensures) told.1

pub returns-in-Err : goal.returns-in-Err
returns-in-Err c =
    let same : c.new-cursor.result.tokens ≡ drop c.args.from c.args.tokens.now.lexemes = c.new-cursor.ensures.tokens ∙ c.left_from.ensures.tokens in
    let placed = subst (λ x. Explains x c.end.result c.in-Err.stop c.fault_of.result) (c.left_from-in-Err.ensures.tokens ∙ sym same) c.fault_of.ensures in
    let told = subst (λ n. Explains c.new-cursor.result.tokens n c.in-Err.stop c.fault_of.result) c.end.ensures placed in
    fault_told (drop c.args.from c.args.tokens.now.lexemes) c.new-cursor.result.tokens c.block_at.new.cursor.tokens c.args.tokens.now.end c.in-Err.stop c.fault_of.result same c.in-Err.ensures told

pub block_at-requires : goal.block_at-requires
block_at-requires c =
    let same : c.new-cursor.result.tokens ≡ drop c.args.from c.args.tokens.now.lexemes = c.new-cursor.ensures.tokens ∙ c.left_from.ensures.tokens in
    subst (All IsWellFormed) (sym same) (All-drop IsWellFormed c.args.from c.args.tokens.now.lexemes c.left_from.ensures.well_formed)
