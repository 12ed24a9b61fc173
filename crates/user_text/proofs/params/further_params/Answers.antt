use Rattle.std.proofs.Common.{List, [], ◌∷◌, ◌++◌, ℕ, codes, sym, ◌∙◌, ap, subst, arith}
use Rattle.std.proofs.lemmas.Result.{err_from_is_err_and}
use Rattle.grammar.specs.Tokens.{is_sign}
use Rattle.grammar.proofs.After.{Turning, turning_from, turning_on, turning_ends, turning_runs_out}
use Rattle.grammar.proofs.Loops.{turning_stops}
use Rattle.user_text.specs.Readers.Reading.{read_next_param, read_further_params}
use Rattle.user_text.specs.declared.command.ParamText.{ParamText}
use Rattle.user_text.proofs.params.further_params.Goals as goal

pub param-init : goal.param-init
unfolding read_further_params
param-init c =
    subst (λ params. Turning (is_sign (codes ",")) read_next_param params c.args.cursor.now.state c.args.cursor.now.tokens 0 c.len-end.result (read_further_params c.args.first c.args.cursor.now.state c.args.cursor.now.tokens))
    (sym (c.in_ok-push.ensures.params ∙ ap (λ params. params ++ c.args.first ∷ []) c.new-params.ensures))
    (turning_from (is_sign (codes ",")) read_next_param (c.args.first ∷ []) c.args.cursor.now.state c.args.cursor.now.tokens c.len-end.result c.len-end.ensures)

pub param-preserved : goal.param-preserved
param-preserved c = turning_on c.param.invariant c.param-test.true c.if-not-sign_comes.ensures c.in_ok-param.ensures c.in_ok-push-2.ensures.params

pub returns-then-not-sign_comes : goal.returns-then-not-sign_comes
returns-then-not-sign_comes c = turning_ends c.param.invariant c.if-not-sign_comes.ensures

pub returns : goal.returns
returns c = turning_runs_out c.param.invariant (omega (arith, c.param-test.false))

pub returns-in_err-param : goal.returns-in_err-param
returns-in_err-param c =
    let p = err_from_is_err_and c.from_residual-in_err-param.result c.from_residual-in_err-param.ensures.1 in
    rw (p.1, p.2)
    (turning_stops {Y = List ℕ × ParamText} (λ params. params) (λ param. param) c.next_param_at.new.cursor.state c.next_param_at.new.cursor.tokens c.in_err-param.field-0.0 c.param.invariant c.param-test.true c.if-not-sign_comes.ensures
    c.in_err-param.ensures)
