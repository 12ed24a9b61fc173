use Rattle.std.proofs.Common.{rules, ◌≡◌, unsigned_abs}
use Rattle.std.specs.Int.{int_div_euclid, int_rem_euclid}
use Rattle.std.proofs.lemmas.Int.{to_z-of_z}
use mir.Syntax.{w128}
use mir.Val.{SFits}
use Rattle.cell_spread.proofs.Ratios.{euclid-left}
use Rattle.cell_spread.proofs.shares.floor_and_left.Goals as goal

pub returns-clause-left : goal.returns-clause-left
returns-clause-left c =
    let fits : SFits w128 c.div_euclid.result = search rules in
    let own : c.div_euclid.result ≡ int_div_euclid c.args.number c.args.divisor = search rules in
    let rest : c.unsigned_abs.result ≡ unsigned_abs (int_rem_euclid c.args.number c.args.divisor) = search rules in
    rw (to_z-of_z w128 c.div_euclid.result fits, own, rest) (euclid-left c.args.number c.args.divisor c.requires.divisor)
