use Rattle.cell_spread.proofs.Values.{is-spread, value-is}
use Rattle.cell_spread.proofs.laws.the_cell_has_the_amount.Goals as goal

pub returns : goal.returns
returns c m entries cell amount how table here small accepted solves =
    value-is m entries cell amount how here small (is-spread m entries cell amount how accepted) table solves
