use Rattle.std.proofs.Common.{◌<◌, arith, nat_eq, length}
use Rattle.std.specs.Option.{option_eq}
use Rattle.feed_find.proofs.Pointwise.{map-differs, map-agrees}
use Rattle.feed_find.proofs.Sameness.{equal-maps}
use Rattle.feed_find.proofs.same.same_map.Goals as goal

pub returns-then-is_same : goal.returns-then-is_same
returns-then-is_same c = equal-maps c.args.one.now c.args.other.now (c.is_same.ensures c.if-is_same.true)

pub returns-then-ne : goal.returns-then-ne
returns-then-ne c =
    let low : c.each.element < length c.args.one.now = omega (arith, c.each-test.true, c.requires.one) in
    let its : c.each.element < length c.args.other.now = omega (arith, c.each-test.true, c.requires.other) in
    map-differs (option_eq nat_eq) c.args.one.now c.args.other.now c.each.element c.get.result c.get-in-each.result c.ne.result low its c.get.ensures c.get-in-each.ensures c.each.invariant c.ne.ensures c.if-ne.true

pub each-preserved : goal.each-preserved
each-preserved c =
    let low : c.each.element < length c.args.one.now = omega (arith, c.each-test.true, c.requires.one) in
    let its : c.each.element < length c.args.other.now = omega (arith, c.each-test.true, c.requires.other) in
    map-agrees (option_eq nat_eq) c.args.one.now c.args.other.now c.each.element c.get.result c.get-in-each.result c.ne.result low its c.get.ensures c.get-in-each.ensures c.each.invariant c.ne.ensures c.if-ne.false
