use Rattle.std.proofs.Common.{rules, ◌≡◌, ap, arith, true, ◌<◌, length}
use Rattle.ref_order.proofs.Args.{arg-low}
use Rattle.ref_order.proofs.Likeness.{as-long, alike-end, alike-more}
use Rattle.ref_order.proofs.alike.+name_alike.Goals as goal

pub bounds-its-from : goal.bounds-its-from
bounds-its-from t c =
    let long = as-long c.args.model.now.space c.args.cube c.args.one.now c.args.other.now c.requires.one c.requires.other c.requires.cube in
    let low : c.args.from < length c.args.one.now.args = arg-low c.args.from c.as_slice-own.result.now c.args.one.now.args c.as_slice-own.ensures c.if-from-own.false c.requires.from in
    omega (arith, long, low, ap length c.as_slice-its.ensures)

pub returns-then-from-own : goal.returns-then-from-own
returns-then-from-own t c =
    λ _.
    let long = as-long c.args.model.now.space c.args.cube c.args.one.now c.args.other.now c.requires.one c.requires.other c.requires.cube in
    alike-end c.args.dim c.args.one.now.args c.args.other.now.args c.args.from (omega (arith, ap length c.as_slice-own.ensures, c.if-from-own.true)) (omega (arith, ap length c.as_slice-own.ensures, c.if-from-own.true, long))

pub returns-then-follow_alike : goal.returns-then-follow_alike
returns-then-follow_alike t c =
    λ on.
    let alike : c.follow_alike.result ≡ true = search rules in
    let long = as-long c.args.model.now.space c.args.cube c.args.one.now c.args.other.now c.requires.one c.requires.other c.requires.cube in
    let low : c.args.from < length c.args.one.now.args = arg-low c.args.from c.as_slice-own.result.now c.args.one.now.args c.as_slice-own.ensures c.if-from-own.false c.requires.from in
    let less : c.args.from < length c.args.other.now.args = omega (arith, long, low) in
    alike-more c.args.dim c.args.one.now.args c.args.other.now.args c.as_slice-own.result.now c.as_slice-its.result.now c.args.from c.index-own-from.result c.index-its-from.result
    c.as_slice-own.ensures c.as_slice-its.ensures low less c.index-own-from.is c.index-its-from.is (c.follow_alike.ensures alike) (c.name_alike.ensures on)
