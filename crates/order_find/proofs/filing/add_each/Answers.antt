use Rattle.std.proofs.Common.{◌+◌, ◌==◌, subst}
use Rattle.std.proofs.lemmas.List.{take_all}
use Rattle.std.specs.List.{list_any}
use Rattle.order_find.specs.Filing.{Adds}
use Rattle.order_find.proofs.Filed.{adds-none, adds-more}
use Rattle.order_find.proofs.filing.add_each.Goals as goal

pub each-init : goal.each-init
each-init c = adds-none c.args.k c.args.rows.now

pub each-preserved : goal.each-preserved
each-preserved c =
    adds-more c.args.first c.args.k c.each.element-index c.args.listed.now c.args.rows.now c.each.rows c.add.new.rows c.each-test.true c.requires.rising c.each.invariant c.in_ok-add.ensures

pub returns : goal.returns
returns c =
    subst (λ listed. Adds (λ n. list_any (λ element. c.args.first + element == n) listed) c.args.k c.args.rows.now c.each.rows)
    (take_all c.each.element-index c.args.listed.now c.each-test.false) c.each.invariant
