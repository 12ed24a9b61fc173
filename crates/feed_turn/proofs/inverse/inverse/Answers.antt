use Rattle.std.proofs.Common.{rules, ◌≡◌, ◌∙◌, ◌+◌, ℕ, true, false, List, ap, sym, subst, arith, length, take, drop, get_or}
use Rattle.std.proofs.lemmas.List.{take_more, take_all, with_items_is}
use Rattle.cover_laws.specs.Looking.{sent}
use Rattle.feed_turn.specs.Inverse.{is_one_to_one}
use Rattle.feed_turn.specs.Inside.Slots.{pairs_from, IsPut, IsTaken}
use Rattle.feed_turn.proofs.Led.{AreLed, led-more, led-taken, led-done, led-fails, has-leads, around}
use Rattle.feed_turn.proofs.inverse.inverse.Goals as goal

pub returns-then-not-put_leading : goal.returns-then-not-put_leading
returns-then-not-put_leading c =
    let d = c.args.dimension.now in
    let to = c.args.to.now in
    let leaves = c.args.leaves.now in
    let k = c.each.leaf-index in
    let leaf = get_or leaves k 0 in
    let off : c.put_leading.result ≡ false = search rules in
    let pairs = pairs_from c.args.weights.now (sent to leaf) in
    let taken = subst (IsTaken pairs) c.deref_mut.ensures.value (c.put_leading.ensures.taken off) in
    let fails = led-taken d to pairs leaf (λ x low. has-leads d c.args.weights.now to leaf x c.requires.weights (λ target goes. c.requires.within leaf target goes) low)
    (take k leaves) (drop (k + 1) leaves) c.each.slots.items c.each.invariant taken in
    led-fails d to leaves (ap (is_one_to_one d to) (sym (around leaves k 0 c.each-test.true)) ∙ fails)

pub each-preserved : goal.each-preserved
each-preserved c =
    let d = c.args.dimension.now in
    let to = c.args.to.now in
    let leaves = c.args.leaves.now in
    let k = c.each.leaf-index in
    let leaf = get_or leaves k 0 in
    let on : c.put_leading.result ≡ true = search rules in
    let pairs = pairs_from c.args.weights.now (sent to leaf) in
    let put = subst (λ old. IsPut pairs leaf old c.put_leading.new.slots) c.deref_mut.ensures.value (c.put_leading.ensures.put on) in
    let long : length c.put_leading.new.slots ≡ c.each.slots.len = omega (arith, put.long, c.each.slots.ok) in
    let led = led-more d to pairs leaf (λ x low. has-leads d c.args.weights.now to leaf x c.requires.weights (λ target goes. c.requires.within leaf target goes) low)
    (take k leaves) c.each.slots.items c.put_leading.new.slots c.each.invariant put in
    subst (AreLed d to (take (k + 1) leaves)) (sym (with_items_is c.each.slots c.put_leading.new.slots long))
    (subst (λ (xs : List ℕ). AreLed d to xs c.put_leading.new.slots) (sym (take_more leaves k 0 c.each-test.true)) led)

pub returns : goal.returns
returns c =
    let leaves = c.args.leaves.now in
    led-done c.args.dimension.now c.args.to.now leaves c.each.slots.items
    (subst (λ (xs : List ℕ). AreLed c.args.dimension.now c.args.to.now xs c.each.slots.items) (take_all c.each.leaf-index leaves c.each-test.false) c.each.invariant)
