use Rattle.std.proofs.Common.{sym, ◌∙◌}
use Rattle.std.proofs.lemmas.Result.{err_from_is_err_and}
use Rattle.cube_lex.specs.Lexeme.{lexeme_of}
use Rattle.grammar.proofs.Picks.{picked, picked_stops, not_picked}
use Rattle.script_tree.specs.Counting.{count}
use Rattle.script_tree.specs.Statement.{variable}
use Rattle.script_reader.proofs.words.variable.Goals as goal

pub returns-in_err-advance-in-Some-2 : goal.returns-in_err-advance-in-Some-2
returns-in_err-advance-in-Some-2 c =
    let p = err_from_is_err_and c.from_residual-in_err-advance-in-Some-2.result c.from_residual-in_err-advance-in-Some-2.ensures.1 in
    rw (p.1, p.2)
    (picked_stops {Y = Unit {0}} count variable (λ x. x) (λ _. tt) c.args.cursor.now.state c.args.cursor.now.tokens (lexeme_of c.in-Some.token) c.in-Some-2.variable _ _ c.in_err-advance-in-Some-2.field-0.0 c.in-Some.ensures (sym c.in_ok-variable.ensures ∙ c.in-Some-2.is) c.in_err-advance-in-Some-2.ensures.read)

pub returns-in_ok-advance-in-Some-2 : goal.returns-in_ok-advance-in-Some-2
returns-in_ok-advance-in-Some-2 c =
    picked count variable c.args.cursor.now.state c.args.cursor.now.tokens (lexeme_of c.in-Some.token) c.in-Some-2.variable _ _ c.in-Some.ensures (sym c.in_ok-variable.ensures ∙ c.in-Some-2.is) c.in_ok-advance-in-Some-2.ensures.read

pub returns-in-None : goal.returns-in-None
returns-in-None c =
    rw c.unexpected-in-None.ensures
    (not_picked count variable c.args.cursor.now.state c.args.cursor.now.tokens (lexeme_of c.in-Some.token) c.in-Some.ensures (sym c.in_ok-variable.ensures ∙ c.in-None.is))
