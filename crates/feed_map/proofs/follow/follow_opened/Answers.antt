use Rattle.std.proofs.Common.{rules, ◌≡◌, false, arith, sym}
use Rattle.feed_map.specs.Inside.Gains.{NoCell, Gains, StopsBy}
use Rattle.feed_map.specs.Inside.Follows.{EndsChain}
use Rattle.feed_map.proofs.GainFacts.{handed-on, stops-then, stops-result, on-ok}
use Rattle.feed_map.proofs.FollowSteps.{alone, opened-stops, opened-room, opened-grows, opened-only, opened-within, opened-followed, settled-end}
use Rattle.feed_map.proofs.OpenFacts.{opened-gains, opened-result}
use Rattle.feed_map.proofs.follow.follow_opened.Goals as goal

pub returns-then-not-has_feeders-clause-gains : goal.returns-then-not-has_feeders-clause-gains
returns-then-not-has_feeders-clause-gains c =
    let none : c.has_feeders.result ≡ false = search rules in
    on-ok c.settle.result (Gains NoCell c.args.reached.now.growth c.settle.new.self) (Gains (EndsChain c.args.model.now c.args.reached.now.growth) c.args.reached.now.growth c.settle.new.self)
    (alone c.args.model.now (c.has_feeders.ensures none) c.args.reached.now.growth c.settle.new.self) c.settle.ensures.gains

pub returns-then-not-has_feeders-clause-stops : goal.returns-then-not-has_feeders-clause-stops
returns-then-not-has_feeders-clause-stops c =
    stops-result c.settle.result NoCell (EndsChain c.args.model.now c.args.reached.now.growth) (λ x none. absurd none) c.args.reached.now.growth c.settle.new.self c.settle.ensures.stops

pub returns-in_err-cell-clause-stops : goal.returns-in_err-cell-clause-stops
returns-in_err-cell-clause-stops c =
    handed-on c.from_residual.result c.in_err-cell.field-0.0 (StopsBy (EndsChain c.args.model.now c.args.reached.now.growth) c.args.reached.now.growth c.open_at.new.self) c.from_residual.ensures.1
    (stops-then (EndsChain c.args.model.now c.args.reached.now.growth) NoCell (EndsChain c.args.model.now c.args.reached.now.growth) (λ x ends. ends) (λ x none. absurd none)
    c.args.reached.now.growth c.each.reached.growth c.open_at.new.self c.in_err-cell.field-0.0 c.each.invariant.only c.in_err-cell.ensures.stops)

pub returns-in_err-follow-clause-stops : goal.returns-in_err-follow-clause-stops
returns-in_err-follow-clause-stops c =
    let found = sym (rw c.in-Some.is at c.in_ok-cell.ensures.open) in
    handed-on c.from_residual-in_err-follow.result c.in_err-follow.field-0.0 (StopsBy (EndsChain c.args.model.now c.args.reached.now.growth) c.args.reached.now.growth c.follow.new.reached.growth) c.from_residual-in_err-follow.ensures.1
    (opened-stops c.args.model.now c.args.reached.now.growth c.each.reached.growth c.open_at.new.self c.follow.new.reached.growth c.each.place c.in-Some.cell c.requires.open c.each.invariant.grows c.each.invariant.only c.each.invariant.followed c.each.invariant.within
    c.in_ok-cell.ensures.gains found c.in_err-follow.field-0.0 c.in_err-follow.ensures.stops)

pub each-smaller : goal.each-smaller
each-smaller c =
    let found = sym (rw c.in-Some.is at c.in_ok-cell.ensures.open) in
    let room = opened-room c.args.model.now c.args.reached.now.growth c.each.reached.growth c.open_at.new.self c.follow.new.reached.growth c.each.place c.in-Some.cell c.requires.open c.each.invariant.grows c.each.invariant.only c.each.invariant.followed c.each.invariant.within
    c.in_ok-cell.ensures.gains found c.requires.few in
    omega (arith, room)

pub each-preserved : goal.each-preserved
each-preserved c =
    let found = sym (rw c.in-Some.is at c.in_ok-cell.ensures.open) in
    let m = c.args.model.now in
    let f = c.args.reached.now.growth in
    let g = c.each.reached.growth in
    let h = c.open_at.new.self in
    let k = c.follow.new.reached.growth in
    let i = c.each.invariant in
    record {
      grows = opened-grows m f g h k c.each.place c.in-Some.cell c.requires.open i.grows i.only i.followed i.within c.in_ok-cell.ensures.gains found c.in_ok-follow.ensures.gains;
      only = opened-only m f g h k c.each.place c.in-Some.cell c.requires.open i.grows i.only i.followed i.within c.in_ok-cell.ensures.gains found c.in_ok-follow.ensures.gains;
      followed = opened-followed m f g h k c.each.place c.in-Some.cell c.requires.open i.grows i.only i.followed i.within c.in_ok-cell.ensures.gains found c.in_ok-follow.ensures.gains;
      totals = c.in_ok-follow.ensures.totals;
      within = opened-within m f g h k c.each.place c.in-Some.cell c.requires.open i.grows i.only i.followed i.within c.in_ok-cell.ensures.gains found c.in_ok-follow.ensures.gains;
    }

pub returns-clause-gains : goal.returns-clause-gains
returns-clause-gains c =
    let none = sym (rw c.in_default.is at c.in_ok-cell.ensures.open) in
    let empty = c.in_ok-cell.ensures.none c.in_default.is in
    settled-end c.args.model.now c.args.reached.now.growth c.each.reached.growth c.open_at.new.self c.each.place c.requires.open c.each.invariant.grows c.each.invariant.only c.each.invariant.followed c.each.invariant.within c.in_ok-cell.ensures.gains none empty

pub follow-requires : goal.follow-requires
follow-requires c = record { totals = opened-gains c.args.model.now c.each.reached.totals NoCell c.each.reached.growth c.open_at.new.self c.in_ok-cell.ensures.gains c.each.invariant.totals }

pub returns-clause-totals : goal.returns-clause-totals
returns-clause-totals c = opened-gains c.args.model.now c.each.reached.totals NoCell c.each.reached.growth c.open_at.new.self c.in_ok-cell.ensures.gains c.each.invariant.totals

pub returns-then-not-has_feeders-clause-totals : goal.returns-then-not-has_feeders-clause-totals
returns-then-not-has_feeders-clause-totals c = opened-result c.args.model.now c.args.reached.now.totals c.settle.result NoCell c.args.reached.now.growth c.settle.new.self c.requires.totals c.settle.ensures.gains
