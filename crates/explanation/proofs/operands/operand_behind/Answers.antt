use Rattle.std.proofs.Common.{◌≡◌, ◌∙◌, ◌-◌, ap, sym, arith, true, false, drop, length, List, []}
use Rattle.std.specs.Prelude.{slice_index_or}
use Rattle.cube_lex.specs.Lexeme.{Lexeme, lexeme_of}
use Rattle.explanation.specs.Operands.{begins_operand, operands, passed}
use Rattle.explanation.proofs.Suffixes.{behind-first, of-none, operand-begins, no-operand}
use Rattle.explanation.proofs.Tokens.{next, none_left}
use Rattle.explanation.proofs.operands.operand_behind.Goals as goal

pub token-preserved-then-not-begins_operand : goal.token-preserved-then-not-begins_operand
token-preserved-then-not-begins_operand c =
    let left = c.token.left in
    let token = lexeme_of c.in-Some.token in
    let within = c.token.within in
    let none : begins_operand within token (drop 1 left) ≡ false = ap (begins_operand within token) (sym c.advance.ensures) ∙ sym c.begins_operand.ensures ∙ c.if-not-begins_operand.true in
    let same : operands c.passed-further.result c.advance.new.self ≡ operands (passed within token (drop 1 left)) (drop 1 left) =
    ap (λ w. operands w c.advance.new.self) c.passed-further.ensures.passed ∙ ap (λ l. operands (passed within token l) l) c.advance.ensures in (
      ap (λ l. slice_index_or l c.token.before []) (same ∙ sym (no-operand left token (sym c.in-Some.ensures) within none)) ∙ c.token.invariant.0,
      omega (arith, c.passed-further.ensures.few, ap length c.advance.ensures, ap length (next left token (sym c.in-Some.ensures)), c.token.invariant.1),
    )

pub token-preserved : goal.token-preserved
token-preserved c =
    let left = c.token.left in
    let token = lexeme_of c.in-Some.token in
    let within = c.token.within in
    let begins : begins_operand within token (drop 1 left) ≡ true = ap (begins_operand within token) (sym c.advance.ensures) ∙ sym c.begins_operand.ensures ∙ c.if-not-begins_operand.false in
    let behind : List (List Lexeme) = operands (passed within token (drop 1 left)) (drop 1 left) in
    let same : operands c.passed-further.result c.advance.new.self ≡ behind =
    ap (λ w. operands w c.advance.new.self) c.passed-further.ensures.passed ∙ ap (λ l. operands (passed within token l) l) c.advance.ensures in (
      ap (λ l. slice_index_or l (c.token.before - 1) []) same
          ∙ sym (behind-first left behind c.token.before [] c.if-before-eq0.false)
          ∙ sym (ap (λ l. slice_index_or l c.token.before []) (operand-begins left token (sym c.in-Some.ensures) within begins))
          ∙ c.token.invariant.0,
      omega (arith, c.passed-further.ensures.few, ap length c.advance.ensures, ap length (next left token (sym c.in-Some.ensures)), c.token.invariant.1),
    )

pub returns : goal.returns
returns c =
    let none = none_left c.token.left (sym c.in_default.ensures) in
    none ∙ sym (of-none c.token.before []) ∙ ap (λ l. slice_index_or (operands c.token.within l) c.token.before []) (sym none) ∙ c.token.invariant.0
