use Rattle.std.proofs.Common.{rules, ◌≡◌, ◌∙◌, ◌++◌, ap}
use Rattle.cell_writes.specs.Writes.{last_writes}
use Rattle.user_session.proofs.LastWrites.{last_of_more}
use Rattle.user_session.proofs.sandboxes.PlanWorldLayered.keep.Goals as goal

pub returns-clause-joined : goal.returns-clause-joined
returns-clause-joined c =
    let before = c.make_room.new.layer.items in
    let items : c.extend_from_slice.new.self.items ≡ before ++ c.args.writes.now = search rules in
    ap last_writes items ∙ last_of_more before c.args.writes.now ∙ ap (λ kept. last_writes (kept ++ c.args.writes.now)) c.make_room.ensures
