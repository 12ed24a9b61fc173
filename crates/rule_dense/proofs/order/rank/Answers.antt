use Rattle.std.proofs.Common.{arith, refl, rules, ◌<◌, length}
use Rattle.rule_model.specs.Order.{number_at}
use Rattle.rule_dense.proofs.Ranks.{digits-are, rank-so_far}
use Rattle.rule_dense.proofs.order.rank.Goals as goal

pub loop-place-init : goal.loop-place-init
loop-place-init c = record { digits = digits-are c.args.model.now c.args.cell c.requires.cell c.requires.low c.args.sizes.now c.requires.sizes; rank = omega arith }

pub overflow_mul-rank : goal.overflow_mul-rank
overflow_mul-rank c =
    let within : c.loop-place.place < length c.args.sizes.now = search rules in
    let low = rank-so_far c.args.model.now c.args.cell c.requires.cell c.requires.low c.args.sizes.now c.requires.sizes c.loop-place.place c.loop-place.rank (number_at c.args.model.now c.loop-place.place c.args.cell) within refl c.loop-place.invariant.digits c.loop-place.invariant.rank in
    omega (arith, low)

pub overflow_add-rank : goal.overflow_add-rank
overflow_add-rank c =
    let within : c.loop-place.place < length c.args.sizes.now = search rules in
    let low = rank-so_far c.args.model.now c.args.cell c.requires.cell c.requires.low c.args.sizes.now c.requires.sizes c.loop-place.place c.loop-place.rank c.number_at.result within c.number_at.ensures c.loop-place.invariant.digits c.loop-place.invariant.rank in
    omega (arith, low, c.from.ensures)
