use Rattle.std.proofs.Common.{◌≡◌, ◌+◌, ◌<◌, ◌∙◌, sym, subst, arith, length, get_or}
use Rattle.std.specs.List.{IsFirstBest}
use Rattle.std.proofs.lemmas.List.{get_or_default}
use Rattle.std.proofs.lemmas.List.MinMax.{IsFirstBest-takes, IsFirstBest-keeps}
use Rattle.order_find.specs.declared.link.Link.{Link}
use Rattle.order_find.specs.declared.link.LinkBy.TheVariants.{Reference}
use Rattle.order_find.specs.Links.{is_before}
use Rattle.order_find.proofs.Firsts.{before-order}
use Rattle.order_find.proofs.circle.first_link.Goals as goal
use Rattle.order_find.proofs.circle.first_link.Goals.{then-is_before, else-is_before}

pub loop-i-preserved : goal.loop-i-preserved
loop-i-preserved c =
    let links = c.args.links.now in
    let none : Link = record { cube = 0; element = 0; by = Reference 0 0 } in
    let i = c.loop-i.i in
    let best = c.loop-i.best in
    let low : i < length links = c.loop-i-test.true in
    let below : best < length links = omega (arith, low, c.loop-i.invariant.0) in
    let at : get_or links i none ≡ get_or links i (get_or links i none) = get_or_default links i none (get_or links i none) low in
    let at_best : get_or links best none ≡ get_or links best (get_or links best none) = get_or_default links best none (get_or links best none) below in
    elim c.if-is_before.branch [
      | then-is_before w ↦ subst (λ k. IsFirstBest is_before links (i + 1) k) (sym w.best-is)
          (IsFirstBest-takes before-order links i best (get_or links i none) (get_or links best none) c.loop-i.invariant low at at_best (sym c.is_before.ensures ∙ w.if-is_before.true))
      | else-is_before w ↦ subst (λ k. IsFirstBest is_before links (i + 1) k) (sym w.best-is)
          (IsFirstBest-keeps before-order links i best (get_or links i none) (get_or links best none) c.loop-i.invariant low at at_best (sym c.is_before.ensures ∙ w.if-is_before.false))
    ]
