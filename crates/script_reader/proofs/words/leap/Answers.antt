use Rattle.std.proofs.Common.{sym, ◌∙◌}
use Rattle.std.proofs.lemmas.Result.{err_from_is_err_and}
use Rattle.cube_lex.specs.Lexeme.{lexeme_of}
use Rattle.grammar.proofs.Picks.{picked_stops}
use Rattle.script_tree.specs.Counting.{count}
use Rattle.script_tree.specs.Statement.{leap}
use Rattle.script_reader.proofs.words.leap.Goals as goal

pub returns-in_err-advance-in-Some-leap_of : goal.returns-in_err-advance-in-Some-leap_of
returns-in_err-advance-in-Some-leap_of c =
    let p = err_from_is_err_and c.from_residual.result c.from_residual.ensures.1 in
    rw (p.1, p.2)
    (picked_stops {Y = Unit {0}} count (leap c.args.section) (λ x. x) (λ _. tt) c.args.cursor.now.state c.args.cursor.now.tokens (lexeme_of c.in-Some.token) c.in-Some-leap_of.line _ _ c.in_err-advance-in-Some-leap_of.field-0.0 c.in-Some.ensures (sym c.leap_of.ensures ∙ c.in-Some-leap_of.is) c.in_err-advance-in-Some-leap_of.ensures.read)
