use Rattle.std.proofs.Common.{rules, ◌≡◌, ◌∙◌, sym, ap, length, Some}
use Rattle.std.specs.List.{slice_get}
use Rattle.joined_lists.specs.Parts.{bounds_from}
use Rattle.joined_lists.proofs.Ends.{bounds_within, part_at}
use Rattle.user_text.proofs.records.Records.get.Goals as goal

pub new-requires-clause-start : goal.new-requires-clause-start
new-requires-clause-start c =
    let ends = c.self.inside.ends.items in
    let found : slice_get (bounds_from 0 ends) c.args.place ≡ Some (c.in_ok-start.start, c.in_ok-start.end) = search rules in
    (bounds_within 0 ends (length c.self.inside.columns) c.args.place c.in_ok-start.start c.in_ok-start.end c.self.invariant found).0

pub new-requires-clause-end : goal.new-requires-clause-end
new-requires-clause-end c =
    let ends = c.self.inside.ends.items in
    let found : slice_get (bounds_from 0 ends) c.args.place ≡ Some (c.in_ok-start.start, c.in_ok-start.end) = search rules in
    (bounds_within 0 ends (length c.self.inside.columns) c.args.place c.in_ok-start.start c.in_ok-start.end c.self.invariant found).1

pub returns : goal.returns
returns c =
    let ends = c.self.inside.ends.items in
    let found : slice_get (bounds_from 0 ends) c.args.place ≡ Some (c.in_ok-start.start, c.in_ok-start.end) = search rules in
    ap Some c.new.ensures
    ∙ sym (part_at ends c.self.inside.columns c.args.place c.in_ok-start.start c.in_ok-start.end found)
    ∙ ap (λ lists. slice_get lists c.args.place) c.self.view_is
