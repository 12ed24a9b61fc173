use Rattle.std.proofs.Common.{◌∙◌, ap, arith, [], codes}
use Rattle.std.specs.Prelude.{slice_index_or}
use Rattle.explanation.specs.Statements.{behind, references}
use Rattle.explanation.proofs.Onward.{further, its-tokens}
use Rattle.explanation.proofs.tables.reference_tokens_on.Goals as goal

pub returns-clause-tokens : goal.returns-clause-tokens
returns-clause-tokens c =
    let tokens = c.args.tokens.now in
    let before = c.left_before-before.result in
    c.again.ensures
    ∙ its-tokens tokens before c.left_before-before.ensures.left c.saturating_sub-others.result c.left_before-before.ensures.before c.left_from.result c.left_from.ensures.left
    ∙ ap (λ n. slice_index_or (references (behind (codes "=") tokens)) n []) (omega (arith, c.saturating_sub-others.ensures))

pub returns-clause-left : goal.returns-clause-left
returns-clause-left c =
    further c.args.tokens.now c.left_before-before.result c.left_before-before.ensures.left c.saturating_sub-others.result c.left_before-before.ensures.before c.left_from.result c.left_from.ensures.passed c.left_from.ensures.left
