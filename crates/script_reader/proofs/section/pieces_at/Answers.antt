use Rattle.std.proofs.Common.{◌≡◌, [], None, refl, sym, ◌∙◌, ap, subst, arith}
use Rattle.std.proofs.lemmas.Result.{err_from_is_err_and}
use Rattle.grammar.specs.Tokens.{is_any_word}
use Rattle.grammar.proofs.After.{Turning, with_nothing, turning_from, turning_on, turning_ends, turning_runs_out}
use Rattle.grammar.proofs.Loops.{turning_stops}
use Rattle.script_reader.specs.Readers.TextReading.{behind, section_after, read_piece, read_piece_behind, read_pieces}
use Rattle.script_reader.specs.declared.section.Piece.{Piece}
use Rattle.script_reader.proofs.Sections.{section_append}
use Rattle.script_reader.proofs.section.pieces_at.Goals as goal

pub piece-init : goal.piece-init
unfolding read_pieces
piece-init c =
    subst (λ pieces. Turning is_any_word read_piece_behind pieces c.args.cursor.now.state c.args.cursor.now.tokens 0 c.len-turns.result (read_pieces c.args.cursor.now.state c.args.cursor.now.tokens) × (None ≡ section_after None pieces))
    (sym c.new-pieces.ensures.items) (
      subst (Turning is_any_word read_piece_behind [] c.args.cursor.now.state c.args.cursor.now.tokens 0 c.len-turns.result) (sym (with_nothing (read_pieces c.args.cursor.now.state c.args.cursor.now.tokens)))
          (turning_from is_any_word read_piece_behind [] c.args.cursor.now.state c.args.cursor.now.tokens c.len-turns.result c.len-turns.ensures),
      refl,
    )

pub piece-preserved : goal.piece-preserved
piece-preserved c = (
  turning_on c.piece.invariant.0 c.piece-test.true c.if-not-any_word_comes.ensures
      (ap (λ section. read_piece section c.piece.cursor.state c.piece.cursor.tokens) (sym c.piece.invariant.1) ∙ c.in_ok-piece.ensures) c.in_ok-push.ensures.items,
  c.behind-section.ensures ∙ ap (λ section. behind section c.in_ok-piece.piece) c.piece.invariant.1 ∙ sym (section_append None c.piece.pieces.items c.in_ok-piece.piece) ∙ ap (section_after None) (sym c.in_ok-push.ensures.items),
)

pub returns-then-not-any_word_comes : goal.returns-then-not-any_word_comes
returns-then-not-any_word_comes c = turning_ends c.piece.invariant.0 c.if-not-any_word_comes.ensures

pub returns : goal.returns
returns c = turning_runs_out c.piece.invariant.0 (omega (arith, c.piece-test.false))

pub returns-in_err-piece : goal.returns-in_err-piece
returns-in_err-piece c =
    let p = err_from_is_err_and c.from_residual.result c.from_residual.ensures.1 in
    rw (p.1, p.2)
    (turning_stops {Y = Piece} (λ pieces. pieces) (λ piece. piece) c.piece_at.new.cursor.state c.piece_at.new.cursor.tokens c.in_err-piece.field-0.0 c.piece.invariant.0 c.piece-test.true c.if-not-any_word_comes.ensures
    (rw c.piece.invariant.1 at c.in_err-piece.ensures))
