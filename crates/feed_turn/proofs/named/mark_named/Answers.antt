use Rattle.std.proofs.Common.{◌≡◌, ◌∙◌, ◌++◌, ◌∷◌, [], ℕ, List, ap, sym, subst, length, take, get_or}
use Rattle.std.proofs.lemmas.List.{take_more, take_all}
use Rattle.std.proofs.lemmas.List.FromFn.{fill_by_all}
use Rattle.std.proofs.Common.{false}
use Rattle.cover_laws.specs.Looking.{sent}
use Rattle.feed_turn.specs.Named.{is_named}
use Rattle.feed_turn.specs.Inside.Slots.{marked_at}
use Rattle.feed_turn.proofs.Marked.{AreMarked, marked-more}
use Rattle.feed_turn.proofs.named.mark_named.Goals as goal

pub each-preserved : goal.each-preserved
each-preserved c =
    let n = length c.args.marks.now in
    let to = c.args.to.now in
    let leaves = c.args.leaves.now in
    let k = c.each.leaf-index in
    let leaf = get_or leaves k 0 in
    let made = marked-more n to (take k leaves) leaf c.each.marks c.each.invariant (λ element goes. c.requires.within leaf element goes) in
    let marks : marked_at c.each.marks (sent to leaf) ≡ c.mark.new.marks = sym (c.mark.ensures ∙ ap (marked_at c.each.marks) c.get.ensures) in
    subst (λ (xs : List ℕ). AreMarked n to xs c.mark.new.marks) (sym (take_more leaves k 0 c.each-test.true)) (subst (AreMarked n to (take k leaves ++ leaf ∷ [])) marks made)

pub returns : goal.returns
returns c =
    let n = length c.args.marks.now in
    let whole = take_all c.each.leaf-index c.args.leaves.now c.each-test.false in
    fill_by_all (is_named c.args.to.now c.args.leaves.now) c.each.marks n false c.each.invariant.long
    (λ x low. c.each.invariant.each x low ∙ ap (λ (xs : List ℕ). is_named c.args.to.now xs x) whole)
