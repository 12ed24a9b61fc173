use Rattle.std.proofs.Common.{◌≡◌, ◌<◌, ◌-◌, arith, length, drop, sym, ◌∙◌, subst, Some, slice_get}
use Rattle.cube_lex.specs.Ahead.{Ahead}
use Rattle.cube_lex.specs.Lexed.{Lexed}
use Rattle.cube_lex.specs.Lexeme.{lexeme_of}
use Rattle.cube_lex.specs.Listed.{AreListed}
use Rattle.cube_lex.proofs.Aheads.{the_ahead}
use Rattle.cube_lex.proofs.Listing.{listed-ahead, some-within, none-behind}
use Rattle.cube_lex.proofs.lexed.Tokens.left_from.Goals as goal

ahead : (c : goal.After-new-arg-1) → Ahead c.self.inside.text.now c.in-Some.token.start c.in-Some.token.line (c.len.result - c.args.from) (drop c.args.from c.args.self.now.lexemes)
ahead c =
    let listed : AreListed c.self.inside.text.now c.args.self.now.lexemes = subst (λ (l : Lexed). AreListed c.self.inside.text.now l.lexemes) c.self.view_is c.self.invariant in
    let here : slice_get c.args.self.now.lexemes c.args.from ≡ Some (lexeme_of c.in-Some.token) = sym c.in-Some.ensures in
    let within : c.args.from < length c.args.self.now.lexemes = some-within c.args.self.now.lexemes c.args.from (lexeme_of c.in-Some.token) here in
    let all : c.len.result ≡ length c.args.self.now.lexemes = c.len.ensures in
    listed-ahead c.self.inside.text.now c.args.self.now.lexemes c.args.from (c.len.result - c.args.from) (lexeme_of c.in-Some.token) listed here (omega (arith, within, all))

pub new-requires : goal.new-requires
new-requires c = the_ahead _ _ _ _ (drop c.args.from c.args.self.now.lexemes) (∣ ahead c ∣₁)

pub returns-in-Some-clause-tokens : goal.returns-in-Some-clause-tokens
returns-in-Some-clause-tokens c =
    let listed : AreListed c.self.inside.text.now c.args.self.now.lexemes = subst (λ (l : Lexed). AreListed c.self.inside.text.now l.lexemes) c.self.view_is c.self.invariant in
    let here : slice_get c.args.self.now.lexemes c.args.from ≡ Some (lexeme_of c.in-Some.token) = sym c.in-Some.ensures in
    let within : c.args.from < length c.args.self.now.lexemes = some-within c.args.self.now.lexemes c.args.from (lexeme_of c.in-Some.token) here in
    let all : c.len.result ≡ length c.args.self.now.lexemes = c.len.ensures in
    c.new-in-Some.ensures ∙ c.new.ensures (drop c.args.from c.args.self.now.lexemes)
    (∣ listed-ahead c.self.inside.text.now c.args.self.now.lexemes c.args.from (c.len.result - c.args.from) (lexeme_of c.in-Some.token) listed here (omega (arith, within, all)) ∣₁)

pub returns-in-None-clause-tokens : goal.returns-in-None-clause-tokens
returns-in-None-clause-tokens c = c.new-in-None.ensures ∙ c.end.ensures ∙ sym (none-behind c.args.self.now.lexemes c.args.from (sym c.in-None.ensures))
