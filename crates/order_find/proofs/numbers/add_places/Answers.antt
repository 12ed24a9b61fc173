use Rattle.std.proofs.Common.{◌≡◌, ◌≤◌, ◌∙◌, ◌++◌, sym, ap, arith, length}
use Rattle.std.proofs.lemmas.List.{append-nil}
use Rattle.order_find.specs.Numbers.{places_of}
use Rattle.order_find.proofs.Numbered.{places-more, places-long}
use Rattle.order_find.proofs.numbers.add_places.Goals as goal

pub each-init : goal.each-init
each-init c = sym (append-nil c.args.places.now.items)

pub each-preserved : goal.each-preserved
each-preserved c = c.in_ok-push.ensures.items ∙ places-more c.args.cube c.args.kind c.each.element c.args.places.now.items c.each.places.items c.each.invariant

pub returns-clause-places : goal.returns-clause-places
returns-clause-places c =
    let all : c.each.element ≡ c.args.width = omega (arith, c.each-test.false, c.each.auto.element-end) in
    c.each.invariant ∙ ap (λ e. c.args.places.now.items ++ places_of c.args.cube c.args.kind e) all

pub returns-clause-few : goal.returns-clause-few
returns-clause-few c =
    let few : length c.each.places.items ≤ 268435456 =
    omega (arith, places-long c.args.cube c.args.kind c.each.element c.args.places.now.items c.each.places.items c.each.invariant, c.args.places.now.ok, c.len.ensures, c.if-len-width-gt-MOST_PLACES.false, c.each.auto.element-end) in
    few
