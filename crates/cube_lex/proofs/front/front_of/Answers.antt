use Rattle.std.proofs.Common.{inl, inr, arith, sym, ◌∙◌, refl, eq-eqb, eqb}
use Rattle.cube_lex.specs.Bytes.{is_white, starts_word}
use Rattle.cube_lex.proofs.Fronts.{begins, space-stands, comment-stands, word-stands}
use Rattle.cube_lex.proofs.Sorts.{nothing-begins}
use Rattle.cube_lex.proofs.front.front_of.Goals as goal

pub blank-requires-clause-part : goal.blank-requires-clause-part
blank-requires-clause-part c =
    inl (rw c.white_len.ensures (space-stands c.args.rest.now (begins is_white c.args.rest.now (omega arith) (sym c.if-is_white.ensures))))

pub blank-requires-then-first-eq35-clause-part : goal.blank-requires-then-first-eq35-clause-part
blank-requires-then-first-eq35-clause-part c =
    inr (rw c.line_len.ensures (comment-stands c.args.rest.now (begins (λ b. eqb b 35) c.args.rest.now (omega arith) (eq-eqb _ _ c.if-first-eq35.true))))

pub token-requires-clause-stands : goal.token-requires-clause-stands
token-requires-clause-stands c =
    rw c.word_len.ensures (word-stands c.args.rest.now (begins starts_word c.args.rest.now (omega arith) (sym c.if-starts_word.ensures)))

pub returns-in_default : goal.returns-in_default
returns-in_default c = inl (
  nothing-begins c.args.rest.now c.requires.nonempty (sym c.if-is_white.ensures) c.if-first-eq35.false (sym c.if-starts_word.ensures)
      (sym c.is_ascii_digit.ensures.value ∙ c.if-is_ascii_digit.false) c.if-first-eq-QUOTE.false c.in_default.ensures,
  refl,
)
