use Rattle.std.proofs.Common.{rules, ◌≡◌, ◌∙◌, sym, ap, length, slice_get, Some}
use Rattle.joined_lists.specs.Parts.{bounds_from}
use Rattle.joined_lists.proofs.Ends.{bounds_within, part_at, part_there}
use Rattle.joined_lists.proofs.joined.Joined.get.Goals as goal

pub returns : goal.returns
returns g c =
    let ends = c.self.inside.ends.items in
    let items = c.self.inside.items.items in
    let found : slice_get (bounds_from 0 ends) c.args.place ≡ Some (c.in_ok-start.start, c.in_ok-start.end) = search rules in
    let (up, within) = bounds_within 0 ends (length items) c.args.place c.in_ok-start.start c.in_ok-start.end c.self.invariant found in
    let there = c.get.ensures.lookup in
    part_there (λ part. part.now) items c.in_ok-start.start c.in_ok-start.end c.get.result (rw c.deref.ensures.value at there) up within
    ∙ sym (part_at ends items c.args.place c.in_ok-start.start c.in_ok-start.end found)
    ∙ ap (λ lists. slice_get lists c.args.place) c.self.view_is
