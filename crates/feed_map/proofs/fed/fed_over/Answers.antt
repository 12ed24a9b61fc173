use Rattle.cell_store.specs.Entries.{cells_of}
use Rattle.feed_map.specs.Inside.Follows.{FeedsFrom, EndsChain}
use Rattle.feed_map.proofs.FedFacts.{stopped, before-known, added-fed, grown-known, grown-open, grown-few, ends-fed, all-from-before, fed-of-none, all-stored}
use Rattle.feed_map.proofs.OpenFacts.{opened-before, opened-known, reach-of}
use Rattle.feed_map.proofs.fed.fed_over.Goals as goal

pub returns-in_err-follow_stored : goal.returns-in_err-follow_stored
returns-in_err-follow_stored c =
    let m = c.args.model.now in
    let s = c.args.store.now in
    let z = c.in_ok-reached.reached.growth in
    let union = c.in_ok-reached.ensures.known in
    reach-of m s c.from_residual-in_err-follow_stored.result c.in_err-follow_stored.field-0.0 c.from_residual-in_err-follow_stored.ensures.1
    (stopped m s (FeedsFrom m (cells_of c.args.store.now)) (added-fed m s (cells_of c.args.store.now) c.args.fed.now z z (fed-of-none c.args.model.now c.args.store.now c.args.fed.now c.requires.before.fed) c.requires.few (all-stored c.args.store.now) union c.in_ok-reached.ensures.opened c.in_ok-reached.ensures.found) z c.follow_stored.new.reached.growth
    (before-known m s (cells_of c.args.store.now) c.args.fed.now z z (fed-of-none c.args.model.now c.args.store.now c.args.fed.now c.requires.before.fed) c.requires.few (all-stored c.args.store.now) union c.in_ok-reached.ensures.opened c.in_ok-reached.ensures.found) c.in_err-follow_stored.field-0.0 c.in_err-follow_stored.ensures.stops)

pub follow_opened-requires-clause-open : goal.follow_opened-requires-clause-open
follow_opened-requires-clause-open c =
    let z = c.in_ok-reached.reached.growth in
    let union = c.in_ok-reached.ensures.known in
    grown-open c.args.model.now c.args.store.now (cells_of c.args.store.now) c.args.fed.now z c.follow_stored.new.reached.growth (fed-of-none c.args.model.now c.args.store.now c.args.fed.now c.requires.before.fed) c.requires.few (all-stored c.args.store.now) union c.in_ok-reached.ensures.opened c.in_ok-reached.ensures.found c.in_ok-follow_stored.ensures.gains

pub follow_opened-requires-clause-few : goal.follow_opened-requires-clause-few
follow_opened-requires-clause-few c =
    let z = c.in_ok-reached.reached.growth in
    let union = c.in_ok-reached.ensures.known in
    grown-few c.args.model.now c.args.store.now (cells_of c.args.store.now) c.args.fed.now z c.follow_stored.new.reached.growth (fed-of-none c.args.model.now c.args.store.now c.args.fed.now c.requires.before.fed) c.requires.few (all-stored c.args.store.now) union c.in_ok-reached.ensures.opened c.in_ok-reached.ensures.found c.in_ok-follow_stored.ensures.gains

pub returns-in_err-follow_opened : goal.returns-in_err-follow_opened
returns-in_err-follow_opened c =
    let m = c.args.model.now in
    let s = c.args.store.now in
    let z = c.in_ok-reached.reached.growth in
    let a = c.follow_stored.new.reached.growth in
    let union = c.in_ok-reached.ensures.known in
    let known = grown-known m s (cells_of c.args.store.now) c.args.fed.now z a (fed-of-none c.args.model.now c.args.store.now c.args.fed.now c.requires.before.fed) c.requires.few (all-stored c.args.store.now) union c.in_ok-reached.ensures.opened c.in_ok-reached.ensures.found c.in_ok-follow_stored.ensures.gains in
    reach-of m s c.from_residual-in_err-follow_opened.result c.in_err-follow_opened.field-0.0 c.from_residual-in_err-follow_opened.ensures.1
    (stopped m s (EndsChain m a) (ends-fed m s a known) a c.follow_opened.new.reached.growth known c.in_err-follow_opened.field-0.0 c.in_err-follow_opened.ensures.stops)

pub returns : goal.returns
returns c =
    let z = c.in_ok-reached.reached.growth in
    let union = c.in_ok-reached.ensures.known in (
      all-from-before c.args.model.now c.args.store.now (cells_of c.args.store.now) c.args.fed.now z c.follow_stored.new.reached.growth (fed-of-none c.args.model.now c.args.store.now c.args.fed.now c.requires.before.fed) c.requires.few (all-stored c.args.store.now) union c.in_ok-reached.ensures.opened c.in_ok-reached.ensures.found
          c.in_ok-follow_stored.ensures.gains c.follow_opened.new.reached.growth c.in_ok-follow_opened.ensures.gains c.in_ok-follow_opened.ensures.none,
      opened-known c.args.model.now c.follow_opened.new.reached.totals c.follow_opened.new.reached.growth c.in_ok-follow_opened.ensures.totals c.in_ok-follow_opened.ensures.none,
    )

pub follow_stored-requires : goal.follow_stored-requires
follow_stored-requires c = record {
  totals = opened-before c.args.model.now c.args.fed.now c.args.totals.now c.in_ok-reached.reached.totals c.in_ok-reached.reached.growth c.requires.before.opened c.in_ok-reached.ensures.totals c.in_ok-reached.ensures.known;
}
