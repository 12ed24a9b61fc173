use Rattle.std.proofs.Common.{arith, sym}
use Rattle.feed_map.specs.Inside.Gains.{NoCell}
use Rattle.feed_map.proofs.RiskFacts.{outside-still, looked-room, looked-grows, looked-within, looked-more, looked-end}
use Rattle.feed_map.proofs.OpenFacts.{opened-gains}
use Rattle.feed_map.proofs.risk.find_risk.Goals as goal

pub look_at-requires-clause-outside : goal.look_at-requires-clause-outside
look_at-requires-clause-outside c =
    outside-still c.args.model.now c.args.base.now c.args.store.now c.each.reached.growth c.open_at.new.self c.each.risk.items c.in_ok-cell.ensures.gains.grows c.each.invariant.outside

pub look_at-requires-clause-totals : goal.look_at-requires-clause-totals
look_at-requires-clause-totals c =
    opened-gains c.args.model.now c.each.reached.totals NoCell c.each.reached.growth c.open_at.new.self c.in_ok-cell.ensures.gains c.each.invariant.totals

pub each-smaller : goal.each-smaller
each-smaller c =
    let found = sym (rw c.in-Some.is at c.in_ok-cell.ensures.open) in
    let i = c.each.invariant in
    let room = looked-room c.args.model.now c.args.base.now c.args.store.now c.args.reached.now.growth c.each.reached.growth c.open_at.new.self c.each.place c.each.risk.items i.grows i.looked i.within
    c.in_ok-cell.ensures.gains c.in-Some.cell found c.requires.few in
    omega (arith, room)

pub each-preserved : goal.each-preserved
each-preserved c =
    let found = sym (rw c.in-Some.is at c.in_ok-cell.ensures.open) in
    let m = c.args.model.now in
    let b = c.args.base.now in
    let s = c.args.store.now in
    let f = c.args.reached.now.growth in
    let g = c.each.reached.growth in
    let h = c.open_at.new.self in
    let k = c.look_at.new.reached.growth in
    let r = c.each.risk.items in
    let t = c.look_at.new.risk.items in
    let i = c.each.invariant in
    let e = c.in_ok-look_at.ensures in
    record {
      grows = looked-grows m b s f g h c.each.place r i.grows i.looked i.within c.in_ok-cell.ensures.gains c.in-Some.cell found k t e.grows e.kept e.looked;
      looked = looked-more m b s f g h c.each.place r i.grows i.looked i.within c.in_ok-cell.ensures.gains c.in-Some.cell found k t e.grows e.kept e.looked;
      outside = e.outside;
      totals = e.totals;
      within = looked-within m b s f g h c.each.place r i.grows i.looked i.within c.in_ok-cell.ensures.gains c.in-Some.cell found k t e.grows e.kept e.looked;
    }

pub returns : goal.returns
returns c =
    let none = sym (rw c.in_default.is at c.in_ok-cell.ensures.open) in
    let i = c.each.invariant in
    looked-end c.args.model.now c.args.base.now c.args.store.now c.args.reached.now.growth c.each.reached.growth c.open_at.new.self c.each.place c.each.risk.items i.grows i.looked i.within
    c.in_ok-cell.ensures.gains c.requires.open i.outside none (c.in_ok-cell.ensures.none c.in_default.is)
