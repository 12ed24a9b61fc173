use Rattle.std.proofs.Common.{[], ◌∷◌, ◌++◌, refl, sym, ◌∙◌, ap, subst, arith}
use Rattle.std.proofs.lemmas.Result.{err_from_is_err_and}
use Rattle.model_text.specs.Gathering.{Nothing, at}
use Rattle.grammar.specs.Reading.{gives, bound}
use Rattle.grammar.specs.Tokens.{is_word}
use Rattle.grammar.proofs.Loops.{begun_all, goes_further, is_done}
use Rattle.model_text.specs.Readers.Later.{word_of, read_one}
use Rattle.model_text.specs.Readers.Views.{Stops}
use Rattle.model_text.proofs.Later.{all_is, one_shortens, one_rests}
use Rattle.model_text.proofs.Stopping.{loop_stops}
use Rattle.model_text.proofs.statements.statements_at.Goals as goal

pub statement-init : goal.statement-init
statement-init c = ([], begun_all (is_word (word_of c.args.section)) (read_one c.args.partial.now.version c.args.section) _ _, record { version = refl; names = refl }, c.requires)

pub statement-smaller : goal.statement-smaller
statement-smaller c =
    let fewer = one_shortens c.statement.partial.version c.args.section _ _ _ _ _ c.in_ok-statement_at.ensures.read in
    omega (arith, fewer)

pub statement-preserved : goal.statement-preserved
statement-preserved c =
    let (front, going, same, tokens) = c.statement.invariant in
    let read = sym (ap (λ version. read_one version c.args.section (at c.statement.partial Nothing) c.statement.cursor.tokens) same.version) ∙ c.in_ok-statement_at.ensures.read in (
      front ++ tt ∷ [],
      goes_further going (rw c.word.ensures at c.statement-test.ensures) read (one_shortens c.args.partial.now.version c.args.section _ _ _ _ _ read) refl,
      record { version = c.in_ok-statement_at.ensures.same.version ∙ same.version; names = c.in_ok-statement_at.ensures.same.names ∙ same.names },
      one_rests c.args.partial.now.version c.args.section _ _ _ _ read tokens,
    )

pub returns-in_err-statement_at-clause-read : goal.returns-in_err-statement_at-clause-read
returns-in_err-statement_at-clause-read c =
    let (front, going, same, tokens) = c.statement.invariant in
    let p = err_from_is_err_and c.from_residual.result c.from_residual.ensures.1 in
    rw (p.1, p.2, all_is c.args.partial.now.version c.args.section) (loop_stops (is_word (word_of c.args.section)) (read_one c.args.partial.now.version c.args.section) front _ (at c.args.partial.now Nothing) _ c.args.cursor.now.tokens c.in_err-statement_at.field-0.0 going (rw c.word.ensures at c.statement-test.ensures) (subst (λ version. Stops c.in_err-statement_at.field-0.0 (read_one version c.args.section (at c.statement.partial Nothing) c.statement.cursor.tokens)) same.version c.in_err-statement_at.ensures.read))

pub returns-clause-read : goal.returns-clause-read
returns-clause-read c =
    let (front, going, same, tokens) = c.statement.invariant in
    rw (all_is c.args.partial.now.version c.args.section) (ap (λ r. bound r (λ _. gives tt)) (is_done going (sym (rw c.word.ensures at c.statement-test.ensures))))

pub returns-clause-same : goal.returns-clause-same
returns-clause-same c =
    let (front, going, same, tokens) = c.statement.invariant in
    same

pub statement_at-requires : goal.statement_at-requires
statement_at-requires c =
    let (front, going, same, tokens) = c.statement.invariant in
    tokens
