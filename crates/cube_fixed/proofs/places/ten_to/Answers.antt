use Rattle.std.proofs.Common.{lit≤}
use Rattle.std.proofs.Math.Nat.{one-le-pow}
use Rattle.cube_fixed.proofs.places.ten_to.Goals as goal

pub returns-clause-some : goal.returns-clause-some
returns-clause-some c = one-le-pow c.args.power 10 (lit≤ tt)
