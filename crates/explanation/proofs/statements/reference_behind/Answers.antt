use Rattle.std.proofs.Common.{◌≡◌, ◌∙◌, ◌-◌, ap, sym, true, drop, []}
use Rattle.std.specs.Prelude.{slice_index_or}
use Rattle.cube_lex.specs.Lexeme.{lexeme_of}
use Rattle.explanation.specs.Statements.{begins_reference, references}
use Rattle.explanation.proofs.Suffixes.{behind-first, of-none, reference-begins}
use Rattle.explanation.proofs.Tokens.{none_left}
use Rattle.explanation.proofs.statements.reference_behind.Goals as goal

pub token-preserved-then-begins_reference : goal.token-preserved-then-begins_reference
token-preserved-then-begins_reference c =
    let left = c.token.left in
    let token = lexeme_of c.in-Some.token in
    let begins : begins_reference token (drop 1 left) ≡ true = ap (begins_reference token) (sym c.advance.ensures) ∙ sym c.begins_reference.ensures ∙ c.if-begins_reference.true in
    ap (λ l. slice_index_or (references l) (c.token.before - 1) []) c.advance.ensures
    ∙ sym (behind-first left (references (drop 1 left)) c.token.before [] c.if-before-eq0.false)
    ∙ sym (ap (λ l. slice_index_or l c.token.before []) (reference-begins left token (sym c.in-Some.ensures) begins))
    ∙ c.token.invariant

pub returns : goal.returns
returns c =
    let none = none_left c.token.left (sym c.in_default.ensures) in
    none ∙ sym (of-none c.token.before []) ∙ ap (λ l. slice_index_or (references l) c.token.before []) (sym none) ∙ c.token.invariant
