use Rattle.std.proofs.Common.{rules, ◌≡◌, ◌∙◌, ap}
use Rattle.cell_writes.specs.Writes.{last_writes}
use Rattle.user_session.proofs.LastWrites.{last_twice}
use Rattle.user_session.proofs.sandboxes.make_room.Goals as goal

pub returns : goal.returns
returns c =
    let items : c.reserve.new.self.items ≡ last_writes c.args.layer.now.items = search rules in
    ap last_writes items ∙ last_twice c.args.layer.now.items
