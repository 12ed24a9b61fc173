use Rattle.std.proofs.Common.{subst, sym, arith}
use Rattle.dim_order.specs.Members.{Joined}
use Rattle.dim_order.specs.Inside.Growth.{IsGrown}
use Rattle.dim_order.proofs.GrowthLemmas.{grown-empty, length-grown}
use Rattle.dim_order.proofs.growth.grow.Goals as goal

pub visit_each-requires-clause-grown : goal.visit_each-requires-clause-grown
visit_each-requires-clause-grown c =
    let P : Joined → Type 0 = λ m. IsGrown c.args.joining c.args.lists.now m.list in
    subst P (sym c.in_ok-members.ensures) (grown-empty c.args.joining c.args.lists.now)

pub unreachable-requires : goal.unreachable-requires
unreachable-requires c =
    let short = length-grown c.args.joining c.args.lists.now c.loop-round.members.list c.loop-round.invariant.grown in
    omega (arith, short, c.loop-round.invariant.longer)
