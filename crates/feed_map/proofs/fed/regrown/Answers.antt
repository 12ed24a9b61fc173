-- What is kept, what comes again, and what grows from there, are the fed cells.
use Rattle.std.proofs.Common.{◌≡◌, ℕ, ◌≤◌, [], List, length, sym, ◌∙◌, subst}
use Rattle.std.specs.List.{Contains}
use Rattle.cell_store.specs.Cells.{IsDifference, IsUnion}
use Rattle.feed_map.specs.FedCells.{most_fed}
use Rattle.feed_map.specs.Inside.Gains.{Gains}
use Rattle.feed_map.specs.Inside.Risks.{AreAtRisk, IsAgain}
use Rattle.feed_map.proofs.FedFacts.{union-known}
use Rattle.feed_map.proofs.OpenFacts.{opened-gains, opened-known}
use Rattle.feed_map.proofs.ChangeFacts.{regrowth-open, regrowth-few, all-regrown, left-opened}
use Rattle.feed_map.proofs.fed.regrown.Goals as goal

pub follow_cells-requires : goal.follow_cells-requires
follow_cells-requires c =
    let m = c.args.model.now in
    let s = c.args.before.now in
    let t = c.args.after.now in
    let base = c.args.base.now in
    let fed = c.args.fed.now in
    let risk = c.in_ok-risk.risk.items in
    let kept = c.in_ok-kept.kept in
    let z = c.from-reached.result.growth in
    let a = c.add_again.new.growth in
    let danger : AreAtRisk m base t c.args.went.now risk = c.in_ok-risk.ensures in
    let left : IsDifference fed risk kept = rw c.deref.ensures.value at c.in_ok-kept.ensures in
    let union : IsUnion kept [] z.known = union-known kept c.in_ok-with.field-0 z c.in_ok-with.ensures c.from-reached.ensures.known in
    let again : Gains (IsAgain m kept risk) z a = rw c.deref-3.ensures.value at c.in_ok-add_again.ensures in
    let these = c.from-reached.result.totals in
    let same : (total : ℕ) → Contains these total → Contains c.args.totals.now total × (risk ≡ []) =
    λ total has. let one = c.in_ok-totals.ensures total (subst (λ (xs : List ℕ). Contains xs total) c.from-reached.ensures.totals has) in (one.0, sym c.deref-2.ensures.value ∙ one.1) in
    let opened = left-opened m s t c.args.went.now c.args.came.now base fed risk kept c.requires.change c.requires.before.fed c.requires.base danger left c.args.totals.now these z c.requires.before.opened same union in
    record { totals = opened-gains m these (IsAgain m kept risk) z a again opened }

pub follow_opened-requires-clause-open : goal.follow_opened-requires-clause-open
follow_opened-requires-clause-open c =
    let m = c.args.model.now in
    let s = c.args.before.now in
    let t = c.args.after.now in
    let base = c.args.base.now in
    let fed = c.args.fed.now in
    let risk = c.in_ok-risk.risk.items in
    let kept = c.in_ok-kept.kept in
    let z = c.from-reached.result.growth in
    let a = c.add_again.new.growth in
    let danger : AreAtRisk m base t c.args.went.now risk = c.in_ok-risk.ensures in
    let left : IsDifference fed risk kept = rw c.deref.ensures.value at c.in_ok-kept.ensures in
    let union : IsUnion kept [] z.known = union-known kept c.in_ok-with.field-0 z c.in_ok-with.ensures c.from-reached.ensures.known in
    let again : Gains (IsAgain m kept risk) z a = rw c.deref-3.ensures.value at c.in_ok-add_again.ensures in
    let few : length fed ≤ most_fed = c.requires.few in
    let b = c.follow_cells.new.reached.growth in
    let came = c.in_ok-follow_cells.ensures.gains in
    regrowth-open m s t c.args.went.now c.args.came.now base fed risk kept c.requires.change c.requires.before.fed c.requires.base danger left
    z a b few union c.from-reached.ensures.opened c.from-reached.ensures.found again came

pub follow_opened-requires-clause-few : goal.follow_opened-requires-clause-few
follow_opened-requires-clause-few c =
    let m = c.args.model.now in
    let s = c.args.before.now in
    let t = c.args.after.now in
    let base = c.args.base.now in
    let fed = c.args.fed.now in
    let risk = c.in_ok-risk.risk.items in
    let kept = c.in_ok-kept.kept in
    let z = c.from-reached.result.growth in
    let a = c.add_again.new.growth in
    let danger : AreAtRisk m base t c.args.went.now risk = c.in_ok-risk.ensures in
    let left : IsDifference fed risk kept = rw c.deref.ensures.value at c.in_ok-kept.ensures in
    let union : IsUnion kept [] z.known = union-known kept c.in_ok-with.field-0 z c.in_ok-with.ensures c.from-reached.ensures.known in
    let again : Gains (IsAgain m kept risk) z a = rw c.deref-3.ensures.value at c.in_ok-add_again.ensures in
    let few : length fed ≤ most_fed = c.requires.few in
    let b = c.follow_cells.new.reached.growth in
    let came = c.in_ok-follow_cells.ensures.gains in
    regrowth-few m s t c.args.went.now c.args.came.now base fed risk kept c.requires.change c.requires.before.fed c.requires.base danger left
    z a b few union c.from-reached.ensures.opened c.from-reached.ensures.found again came

pub returns : goal.returns
returns c =
    let m = c.args.model.now in
    let s = c.args.before.now in
    let t = c.args.after.now in
    let base = c.args.base.now in
    let fed = c.args.fed.now in
    let risk = c.in_ok-risk.risk.items in
    let kept = c.in_ok-kept.kept in
    let z = c.from-reached.result.growth in
    let a = c.add_again.new.growth in
    let danger : AreAtRisk m base t c.args.went.now risk = c.in_ok-risk.ensures in
    let left : IsDifference fed risk kept = rw c.deref.ensures.value at c.in_ok-kept.ensures in
    let union : IsUnion kept [] z.known = union-known kept c.in_ok-with.field-0 z c.in_ok-with.ensures c.from-reached.ensures.known in
    let again : Gains (IsAgain m kept risk) z a = rw c.deref-3.ensures.value at c.in_ok-add_again.ensures in
    let few : length fed ≤ most_fed = c.requires.few in
    let b = c.follow_cells.new.reached.growth in
    let came = c.in_ok-follow_cells.ensures.gains in (
      all-regrown m s t c.args.went.now c.args.came.now base fed risk kept c.requires.change c.requires.before.fed c.requires.base danger left
          z a b few union c.from-reached.ensures.opened c.from-reached.ensures.found again came c.follow_opened.new.reached.growth c.in_ok-follow_opened.ensures.gains c.in_ok-follow_opened.ensures.none,
      opened-known m c.follow_opened.new.reached.totals c.follow_opened.new.reached.growth c.in_ok-follow_opened.ensures.totals c.in_ok-follow_opened.ensures.none,
    )
