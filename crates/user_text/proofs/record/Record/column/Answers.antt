use Rattle.std.proofs.Common.{rules, ◌≡◌, ◌∙◌, sym, ap}
use Rattle.std.specs.List.{slice_get, slice_range}
use Rattle.joined_lists.proofs.Ends.{in_part}
use Rattle.user_text.specs.Inside.Columns.{pointed}
use Rattle.user_text.proofs.record.Record.column.Goals as goal

pub returns : goal.returns
returns c =
    let columns = c.in_ok-columns.columns.now in
    let start = c.self.inside.start in
    let end = c.self.inside.end in
    let same : pointed c.self.inside.columns ≡ columns = search rules in
    let found = c.in_ok-at.ensures.found in
    let there = rw found.0 at c.get.ensures in
    there
    ∙ sym (in_part columns start end c.args.place found.1)
    ∙ ap (λ all. slice_get (slice_range all start end) c.args.place) (sym same)
    ∙ ap (λ part. slice_get part c.args.place) c.self.view_is
