use Rattle.std.proofs.Common.{◌∙◌}
use Rattle.cell_store.specs.Entries.{cells_of}
use Rattle.rule_laws.specs.Feeding.{IsDenseCell}
use Rattle.rule_model.specs.System.{system_of}
use Rattle.feed_map.specs.Inside.Follows.{FeedsFrom, EndsChain}
use Rattle.feed_map.proofs.FedFacts.{stopped, dense-fed, none-known, dense-known, starts-known, starts-open, start-few, from-stored, ends-fed, all-from-nothing}
use Rattle.feed_map.proofs.OpenFacts.{none-opened, opened-known, reach-of}
use Rattle.feed_map.proofs.fed.all_fed.Goals as goal

pub returns-in_err-add_dense : goal.returns-in_err-add_dense
returns-in_err-add_dense c =
    let m = c.args.model.now in
    let s = c.args.store.now in
    let z = c.from-found.result.growth in
    reach-of m s c.from_residual.result c.in_err-add_dense.field-0.0 c.from_residual.ensures.1
    (stopped m s (IsDenseCell (system_of m)) (dense-fed m s) z c.add_dense.new.growth
    (none-known m s z (c.from-found.ensures.known ∙ c.new.ensures) c.from-found.ensures.found) c.in_err-add_dense.field-0.0 (rw c.model.ensures at c.in_err-add_dense.ensures.stops))

pub returns-in_err-follow_stored : goal.returns-in_err-follow_stored
returns-in_err-follow_stored c =
    let m = c.args.model.now in
    let s = c.args.store.now in
    let z = c.from-found.result.growth in
    let a = c.add_dense.new.growth in
    reach-of m s c.from_residual-in_err-follow_stored.result c.in_err-follow_stored.field-0.0 c.from_residual-in_err-follow_stored.ensures.1
    (stopped m s (FeedsFrom m (cells_of s)) (from-stored m s) a c.follow_stored.new.reached.growth
    (dense-known m s z a (c.from-found.ensures.known ∙ c.new.ensures) c.from-found.ensures.found (rw c.model.ensures at c.in_ok-add_dense.ensures.gains)) c.in_err-follow_stored.field-0.0 c.in_err-follow_stored.ensures.stops)

pub follow_opened-requires-clause-open : goal.follow_opened-requires-clause-open
follow_opened-requires-clause-open c =
    starts-open c.args.model.now c.args.store.now c.from-found.result.growth c.add_dense.new.growth c.follow_stored.new.reached.growth (c.from-found.ensures.known ∙ c.new.ensures) c.from-found.ensures.opened c.from-found.ensures.found
    (rw c.model.ensures at c.in_ok-add_dense.ensures.gains) c.in_ok-follow_stored.ensures.gains

pub follow_opened-requires-clause-few : goal.follow_opened-requires-clause-few
follow_opened-requires-clause-few c =
    start-few c.args.model.now c.args.store.now c.from-found.result.growth c.add_dense.new.growth c.follow_stored.new.reached.growth (c.from-found.ensures.known ∙ c.new.ensures) c.from-found.ensures.opened c.from-found.ensures.found
    (rw c.model.ensures at c.in_ok-add_dense.ensures.gains) c.in_ok-follow_stored.ensures.gains

pub returns-in_err-follow_opened : goal.returns-in_err-follow_opened
returns-in_err-follow_opened c =
    let m = c.args.model.now in
    let s = c.args.store.now in
    let b = c.follow_stored.new.reached.growth in
    let known = starts-known m s c.from-found.result.growth c.add_dense.new.growth b (c.from-found.ensures.known ∙ c.new.ensures) c.from-found.ensures.opened c.from-found.ensures.found (rw c.model.ensures at c.in_ok-add_dense.ensures.gains) c.in_ok-follow_stored.ensures.gains in
    reach-of m s c.from_residual-in_err-follow_opened.result c.in_err-follow_opened.field-0.0 c.from_residual-in_err-follow_opened.ensures.1
    (stopped m s (EndsChain m b) (ends-fed m s b known) b c.follow_opened.new.reached.growth known c.in_err-follow_opened.field-0.0 c.in_err-follow_opened.ensures.stops)

pub returns : goal.returns
returns c = (
  all-from-nothing c.args.model.now c.args.store.now c.from-found.result.growth c.add_dense.new.growth c.follow_stored.new.reached.growth (c.from-found.ensures.known ∙ c.new.ensures) c.from-found.ensures.opened c.from-found.ensures.found
      (rw c.model.ensures at c.in_ok-add_dense.ensures.gains) c.in_ok-follow_stored.ensures.gains c.follow_opened.new.reached.growth c.in_ok-follow_opened.ensures.gains c.in_ok-follow_opened.ensures.none,
  opened-known c.args.model.now c.follow_opened.new.reached.totals c.follow_opened.new.reached.growth c.in_ok-follow_opened.ensures.totals c.in_ok-follow_opened.ensures.none,
)

pub follow_stored-requires : goal.follow_stored-requires
follow_stored-requires c = record { totals = none-opened c.args.model.now c.from-found.result.totals c.add_dense.new.growth (c.from-found.ensures.totals ∙ c.new-2.ensures) }
