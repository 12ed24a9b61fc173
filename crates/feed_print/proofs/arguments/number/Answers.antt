use Rattle.std.proofs.Common.{rules, ◌≡◌, ◌*◌, pos}
use Rattle.cube_fixed.specs.Range.{unit, IsInRange}
use Rattle.feed_print.proofs.Writing.{number_writable}
use Rattle.feed_print.proofs.arguments.number.Goals as goal

pub returns-clause-writable : goal.returns-clause-writable
returns-clause-writable c =
    let is : c.of_units.result ≡ pos (c.args.n * unit) = c.of_units.ensures in
    let low : IsInRange c.of_units.result = search rules in
    number_writable (c.args.n * unit) c.of_units.result is low
