use Rattle.cube_lex.proofs.Fronts.{number-stands}
use Rattle.cube_lex.proofs.front.number_len.Goals as goal

pub returns-clause-stands : goal.returns-clause-stands
returns-clause-stands c =
    let behind = rw (c.split_at.ensures.back, c.digits_len-whole.ensures) at c.fraction_len.ensures in
    rw c.digits_len-whole.ensures ((number-stands c.args.bytes.now c.fraction_len.result c.requires behind).1)
