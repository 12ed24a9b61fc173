use Rattle.std.proofs.Common.{eq-eqb}
use Rattle.cube_lex.proofs.Fronts.{fraction-len}
use Rattle.cube_lex.proofs.front.fraction_len.Goals as goal

pub returns-else-digits-eq0 : goal.returns-else-digits-eq0
returns-else-digits-eq0 c = fraction-len c.args.bytes.now c.digits_len-digits.result (λ empty. cc (c.if-is_empty.ensures, eq-eqb _ _ empty)) c.if-bytes-ne46.false (rw c.split_at.ensures.back at c.digits_len-digits.ensures) c.if-digits-eq0.false
