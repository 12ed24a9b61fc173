use Rattle.std.proofs.Common.{arith, eqb-true, get_or, sym}
use Rattle.cube_lex.specs.Bytes.{is_quote}
use Rattle.cube_lex.proofs.Insides.{inside-other, inside-quotes}
use Rattle.cube_lex.proofs.Runs.{false-of}
use Rattle.cube_lex.proofs.quoted.quote_end.Goals as goal

pub bytes-preserved-then-byte-eq-QUOTE : goal.bytes-preserved-then-byte-eq-QUOTE
bytes-preserved-then-byte-eq-QUOTE c = inside-quotes c.args.bytes.now c.bytes.at (omega arith) c.if-byte-eq-QUOTE.true c.if-bytes-at-ne-QUOTE.false c.bytes.invariant

pub bytes-preserved : goal.bytes-preserved
bytes-preserved c = inside-other c.args.bytes.now c.bytes.at c.bytes-test.true
    (false-of (is_quote (get_or c.args.bytes.now c.bytes.at 0)) (λ quote. c.if-byte-eq-QUOTE.false (eqb-true _ _ quote)))
    (sym c.if-is_plain.ensures) c.bytes.invariant
