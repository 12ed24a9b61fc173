use Rattle.std.proofs.Common.{rules, ◌≡◌, ◌∙◌, sym, ap, length}
use Rattle.joined_lists.proofs.Ends.{length-parts}
use Rattle.joined_lists.proofs.joined.Joined.len.Goals as goal

pub returns : goal.returns
returns g c =
    let count : c.len.result ≡ length c.self.inside.ends.items = search rules in
    count ∙ sym (length-parts c.self.inside.ends.items c.self.inside.items.items) ∙ ap length c.self.view_is
