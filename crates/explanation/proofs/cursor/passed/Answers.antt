use Rattle.std.proofs.Common.{◌≡◌, ◌∙◌, ap, sym, true, false, get_or, eq-eqb, ne_eqb}
use Rattle.cube_lex.specs.Bytes.{is_line_end}
use Rattle.explanation.proofs.LineParts.{line-ended, line-goes-on}
use Rattle.explanation.proofs.cursor.passed.Goals as goal

pub returns-then-byte-eq10-clause-at : goal.returns-then-byte-eq10-clause-at
returns-then-byte-eq10-clause-at c =
    let end : is_line_end (get_or c.args.text.now c.args.cursor.at 0) ≡ true = ap is_line_end (sym c.requires.byte) ∙ eq-eqb c.args.byte 10 c.if-byte-eq10.true in
    line-ended c.args.text.now c.args.cursor c.requires.at c.requires.inside end

pub returns-else-byte-eq10-clause-at : goal.returns-else-byte-eq10-clause-at
returns-else-byte-eq10-clause-at c =
    let within : is_line_end (get_or c.args.text.now c.args.cursor.at 0) ≡ false = ap is_line_end (sym c.requires.byte) ∙ ne_eqb c.args.byte 10 c.if-byte-eq10.false in
    line-goes-on c.args.text.now c.args.cursor c.requires.at c.requires.inside within
