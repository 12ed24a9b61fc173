use Rattle.std.proofs.Common.{◌≡◌, ◌∙◌, ◌++◌, ap, sym, true, false, drop, append-nil, append_assoc}
use Rattle.cube_lex.specs.Lexeme.{lexeme_of}
use Rattle.explanation.proofs.Tokens.{none_left}
use Rattle.note_lines.specs.Bare.{is_bare, bare_line, bare_lines}
use Rattle.note_lines.proofs.BareLines.{noted, passed}
use Rattle.note_lines.proofs.bare.lines_among.Goals as goal

pub token-preserved-then-not-is_bare : goal.token-preserved-then-not-is_bare
token-preserved-then-not-is_bare c =
    let left = c.token.left in
    let token = lexeme_of c.in-Some.token in
    let lines = bare_lines c.args.file.now c.args.text.now in
    let none : is_bare token (drop 1 left) ≡ false = ap (is_bare token) (sym c.advance.ensures) ∙ sym c.is_bare.ensures ∙ c.if-not-is_bare.true in
    let same : c.token.lines.items ++ lines c.advance.new.self ≡ lines c.args.tokens =
    ap (λ l. c.token.lines.items ++ lines l) c.advance.ensures
    ∙ sym (ap (λ l. c.token.lines.items ++ l) (passed c.args.file.now c.args.text.now left token (sym c.in-Some.ensures) none))
    ∙ c.token.invariant.0 in
    (same, c.token.invariant.1)

pub token-preserved : goal.token-preserved
token-preserved c =
    let left = c.token.left in
    let token = lexeme_of c.in-Some.token in
    let lines = bare_lines c.args.file.now c.args.text.now in
    let line = bare_line c.args.file.now c.args.text.now token in
    let some : is_bare token (drop 1 left) ≡ true = ap (is_bare token) (sym c.advance.ensures) ∙ sym c.is_bare.ensures ∙ c.if-not-is_bare.false in
    let same : c.push_bare.new.lines.items ++ lines c.advance.new.self ≡ lines c.args.tokens =
    ap (λ l. l ++ lines c.advance.new.self) c.in_ok-push_bare.ensures.line
    ∙ ap (λ l. (c.token.lines.items ++ line l) ++ lines l) c.advance.ensures
    ∙ append_assoc c.token.lines.items (line (drop 1 left)) (lines (drop 1 left))
    ∙ sym (ap (λ l. c.token.lines.items ++ l) (noted c.args.file.now c.args.text.now left token (sym c.in-Some.ensures) some))
    ∙ c.token.invariant.0 in
    (same, c.push_bare.ensures.at)

pub returns : goal.returns
returns c =
    let none = none_left c.token.left (sym c.in_default.ensures) in
    sym (append-nil c.token.lines.items)
    ∙ ap (λ l. c.token.lines.items ++ bare_lines c.args.file.now c.args.text.now l) (sym none)
    ∙ c.token.invariant.0
