use Rattle.std.proofs.Common.{◌≡◌, ◌∙◌, ◌<◌, ◌≤◌, ap, sym, subst, arith, ℕ, List, [], Bool, false, length, take, get_or, slice_get, Vec}
use Rattle.std.specs.List.{list_any}
use Rattle.std.specs.Option.{option_map_or}
use Rattle.std.proofs.lemmas.List.{take_all, length-map}
use Rattle.std.specs.declared.alloc.Global.{Global}
use Rattle.feed_find.specs.declared.chosen.FoundFeeder.{FoundFeeder}
use Rattle.feed_find.specs.Found.{same_found}
use Rattle.feed_find.specs.Filed.{slot_of, places_of, AreFiled}
use Rattle.feed_find.proofs.Filing.{found-there, none-there, places-at}
use Rattle.feed_find.proofs.found_table.FoundTable.contains.Goals as goal

pub returns-then-is_at : goal.returns-then-is_at
returns-then-is_at c = sym (found-there (same_found c.args.one.now) c.args.self.now _ (sym c.is_at.ensures ∙ c.if-is_at.true))

pub returns : goal.returns
returns c =
    let one = c.args.one.now in
    let slots = c.self.inside.slots.items in
    let places = c.as_slice-places.result.now in
    let at = λ (place : ℕ). option_map_or (same_found one) (slice_get c.args.self.now place) false in
    let low : c.slot_of.result < length slots = omega (arith, c.slot_of.ensures.within, c.self.invariant.long, length-map slots (λ (v : Vec ℕ Global). v.items)) in
    let same : get_or (places_of slots) (slot_of one) [] ≡ places =
    ap (λ s. get_or (places_of slots) s []) (sym c.slot_of.ensures.slot) ∙ places-at slots c.slot_of.result c.index.result.now low (sym c.index.ensures) ∙ sym c.as_slice-places.ensures.value in
    let whole : take c.each.k places ≡ places = take_all c.each.k places (omega (arith, c.each-test.false)) in
    let none : list_any at (get_or (places_of slots) (slot_of one) []) ≡ false =
    ap (list_any at) (same ∙ sym whole) ∙ c.each.invariant in
    sym (none-there one c.args.self.now (places_of slots) (subst (λ (fs : List FoundFeeder). AreFiled fs (places_of slots)) c.self.view_is c.self.invariant) none)
