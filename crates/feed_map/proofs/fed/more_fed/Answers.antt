use Rattle.feed_map.specs.Inside.Follows.{FeedsFrom, EndsChain}
use Rattle.feed_map.proofs.FedFacts.{stopped, before-known, added-fed, grown-known, grown-open, grown-few, ends-fed, all-from-before}
use Rattle.feed_map.proofs.OpenFacts.{opened-before, opened-known, reach-of}
use Rattle.feed_map.proofs.fed.more_fed.Goals as goal

pub returns-in_err-follow_cells : goal.returns-in_err-follow_cells
returns-in_err-follow_cells c =
    let m = c.args.model.now in
    let s = c.args.store.now in
    let z = c.in_ok-reached.reached.growth in
    let union = c.in_ok-reached.ensures.known in
    reach-of m s c.from_residual-in_err-follow_cells.result c.in_err-follow_cells.field-0.0 c.from_residual-in_err-follow_cells.ensures.1
    (stopped m s (FeedsFrom m c.args.added.now) (added-fed m s c.args.added.now c.args.fed.now z z c.requires.before.fed c.requires.few c.requires.stored union c.in_ok-reached.ensures.opened c.in_ok-reached.ensures.found) z c.follow_cells.new.reached.growth
    (before-known m s c.args.added.now c.args.fed.now z z c.requires.before.fed c.requires.few c.requires.stored union c.in_ok-reached.ensures.opened c.in_ok-reached.ensures.found) c.in_err-follow_cells.field-0.0 c.in_err-follow_cells.ensures.stops)

pub follow_opened-requires-clause-open : goal.follow_opened-requires-clause-open
follow_opened-requires-clause-open c =
    let z = c.in_ok-reached.reached.growth in
    let union = c.in_ok-reached.ensures.known in
    grown-open c.args.model.now c.args.store.now c.args.added.now c.args.fed.now z c.follow_cells.new.reached.growth c.requires.before.fed c.requires.few c.requires.stored union c.in_ok-reached.ensures.opened c.in_ok-reached.ensures.found c.in_ok-follow_cells.ensures.gains

pub follow_opened-requires-clause-few : goal.follow_opened-requires-clause-few
follow_opened-requires-clause-few c =
    let z = c.in_ok-reached.reached.growth in
    let union = c.in_ok-reached.ensures.known in
    grown-few c.args.model.now c.args.store.now c.args.added.now c.args.fed.now z c.follow_cells.new.reached.growth c.requires.before.fed c.requires.few c.requires.stored union c.in_ok-reached.ensures.opened c.in_ok-reached.ensures.found c.in_ok-follow_cells.ensures.gains

pub returns-in_err-follow_opened : goal.returns-in_err-follow_opened
returns-in_err-follow_opened c =
    let m = c.args.model.now in
    let s = c.args.store.now in
    let z = c.in_ok-reached.reached.growth in
    let a = c.follow_cells.new.reached.growth in
    let union = c.in_ok-reached.ensures.known in
    let known = grown-known m s c.args.added.now c.args.fed.now z a c.requires.before.fed c.requires.few c.requires.stored union c.in_ok-reached.ensures.opened c.in_ok-reached.ensures.found c.in_ok-follow_cells.ensures.gains in
    reach-of m s c.from_residual-in_err-follow_opened.result c.in_err-follow_opened.field-0.0 c.from_residual-in_err-follow_opened.ensures.1
    (stopped m s (EndsChain m a) (ends-fed m s a known) a c.follow_opened.new.reached.growth known c.in_err-follow_opened.field-0.0 c.in_err-follow_opened.ensures.stops)

pub returns : goal.returns
returns c =
    let z = c.in_ok-reached.reached.growth in
    let union = c.in_ok-reached.ensures.known in (
      all-from-before c.args.model.now c.args.store.now c.args.added.now c.args.fed.now z c.follow_cells.new.reached.growth c.requires.before.fed c.requires.few c.requires.stored union c.in_ok-reached.ensures.opened c.in_ok-reached.ensures.found
          c.in_ok-follow_cells.ensures.gains c.follow_opened.new.reached.growth c.in_ok-follow_opened.ensures.gains c.in_ok-follow_opened.ensures.none,
      opened-known c.args.model.now c.follow_opened.new.reached.totals c.follow_opened.new.reached.growth c.in_ok-follow_opened.ensures.totals c.in_ok-follow_opened.ensures.none,
    )

pub follow_cells-requires : goal.follow_cells-requires
follow_cells-requires c = record {
  totals = opened-before c.args.model.now c.args.fed.now c.args.totals.now c.in_ok-reached.reached.totals c.in_ok-reached.reached.growth c.requires.before.opened c.in_ok-reached.ensures.totals c.in_ok-reached.ensures.known;
}
