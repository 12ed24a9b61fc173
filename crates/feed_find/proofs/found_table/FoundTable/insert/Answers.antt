use Rattle.std.proofs.Common.{rules, ◌≡◌, ◌∙◌, ◌++◌, ◌∷◌, ap, sym, subst, ℕ, List, [], length, set, Contains}
use Rattle.std.proofs.lemmas.List.Elements.{All-push, All-same}
use Rattle.feed_find.specs.declared.chosen.FoundFeeder.{FoundFeeder}
use Rattle.feed_find.specs.Added.{IsFound}
use Rattle.feed_find.specs.Filed.{places_of, AreFiled}
use Rattle.feed_find.proofs.Filing.{filed-with, filed-more}
use Rattle.feed_find.proofs.found_table.FoundTable.insert.Goals as goal

pub invariant_of-self-in_err-push : goal.invariant_of-self-in_err-push
invariant_of-self-in_err-push c =
    let slots = c.self.inside.slots.items in
    let before = subst (λ (fs : List FoundFeeder). AreFiled fs (places_of slots)) (sym c.in_ok-reserve.ensures.items) c.self.invariant in
    filed-with c.reserve.new.self.items slots c.slot_of.result c.index_mut.result.now c.push.new.self before c.slot_of.ensures.within (sym c.index_mut.ensures.value)
    (λ place there. subst (λ (ps : List ℕ). Contains ps place) (sym c.in_err-push.ensures.items) there)

pub invariant_of-self-2 : goal.invariant_of-self-2
invariant_of-self-2 c =
    let slots = c.self.inside.slots.items in
    let feeders = c.reserve.new.self.items in
    let same = c.in_ok-reserve.ensures.items in
    let before = subst (λ (fs : List FoundFeeder). AreFiled fs (places_of slots)) (sym same) c.self.invariant in
    let long : c.len-place.result ≡ length c.self.inside.feeders.items = search rules in
    let last = long ∙ ap length (sym same) in
    subst (λ (fs : List FoundFeeder). AreFiled fs (places_of (set slots c.slot_of.result c.push.new.self))) (sym c.push_reserved.ensures.items)
    (filed-more feeders slots c.slot_of.result c.index_mut.result.now c.push.new.self before c.slot_of.ensures.within (sym c.index_mut.ensures.value)
    c.args.one c.slot_of.ensures.slot (c.in_ok-push.ensures.items ∙ ap (λ (n : ℕ). c.index_mut.result.now.items ++ n ∷ []) last))

pub returns-clause-valid : goal.returns-clause-valid
returns-clause-valid c =
    let P = IsFound c.args.space.now in
    All-same P c.push_reserved.new.self.items (c.args.self.now ++ c.args.one ∷ [])
    (c.push_reserved.ensures.items ∙ ap (λ (fs : List FoundFeeder). fs ++ c.args.one ∷ []) (c.in_ok-reserve.ensures.items ∙ c.self.view_is))
    (All-push P c.args.self.now c.args.one c.requires.feeders c.requires.one)
