use Rattle.std.proofs.lemmas.Result.{err_from_is_err_and}
use Rattle.std.specs.List.{All}
use Rattle.cube_lex.specs.Lexed.{IsWellFormed}
use Rattle.model_text.proofs.Kept.{script_file_told}
use Rattle.model_text.proofs.ModelExact.{gathers_script_word, gathers_naming}
use Rattle.model_text.proofs.Heads.{script_stops}
use Rattle.model_text.proofs.Stopping.{rests}
use Rattle.model_text.proofs.scripts.script_at.Goals as goal

pub add_script-requires : goal.add_script-requires
add_script-requires c =
    let behind_word : All IsWellFormed c.position_at.new.cursor.tokens = rests gathers_script_word _ _ _ _ _ c.in_ok-position.ensures.read c.requires in
    let behind_name : All IsWellFormed c.new_name_at.new.cursor.tokens = rests gathers_naming _ _ _ _ _ c.in_ok-name.ensures.read behind_word in
    record { name = c.in_ok-name.ensures.writable behind_word; file = script_file_told c.new_name_at.new.cursor.tokens _ _ _ _ _ c.in_ok-file.ensures behind_name }

pub returns-in_err-closing_at-clause-read : goal.returns-in_err-closing_at-clause-read
returns-in_err-closing_at-clause-read c =
    let p = err_from_is_err_and c.from_residual-in_err-closing_at.result c.from_residual-in_err-closing_at.ensures.1 in
    rw (p.1, p.2) (script_stops c.args.partial.now c.in_ok-position.position c.in_ok-file.field-0-0 c.in_ok-name.name c.in_ok-file.file c.args.cursor.now.tokens _ _ _ _ _ _ c.in_err-closing_at.field-0.0 c.in_ok-position.ensures.read c.in_ok-name.ensures.read c.in_ok-file.ensures c.in_err-closing_at.ensures)
