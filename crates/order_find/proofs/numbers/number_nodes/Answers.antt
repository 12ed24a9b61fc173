use Rattle.std.proofs.Common.{refl, subst, true, length}
use Rattle.order_find.specs.Numbers.{AreNumbered}
use Rattle.order_find.proofs.Numbered.{numbering-is}
use Rattle.order_find.proofs.numbers.number_nodes.Goals as goal

pub returns-clause-numbering : goal.returns-clause-numbering
returns-clause-numbering c =
    let m = c.args.model.now in
    let count = length m.space.cubes in
    let firsts = subst (λ old. AreNumbered m true old count c.in_ok-firsts.firsts.items c.number_kind.new.places.items) c.new-places.ensures.items c.in_ok-firsts.ensures.numbered in
    numbering-is m (record { firsts = c.in_ok-firsts.firsts; totals = c.in_ok-totals.totals; places = c.number_kind-2.new.places }) count refl c.number_kind.new.places.items firsts
    c.in_ok-totals.ensures.numbered
