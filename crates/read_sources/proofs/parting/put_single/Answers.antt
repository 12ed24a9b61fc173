use Rattle.std.proofs.Common.{rules, ◌≡◌, true}
use Rattle.read_sources.proofs.Groups.{put-single, put-made}
use Rattle.read_sources.proofs.parting.put_single.Goals as goal

pub returns-in-Some : goal.returns-in-Some
returns-in-Some c =
    let on : c.is_made_by_single.result ≡ true = search rules in
    put-made c.args.model.now c.args.source c.args.parted.now (c.is_made_by_single.ensures on)

pub returns-in_ok-add_single-in_default : goal.returns-in_ok-add_single-in_default
returns-in_ok-add_single-in_default c =
    put-single c.args.model.now c.args.source c.args.parted.now c.add_single.new.parted c.requires.read
    c.in_ok-add_single-in_default.ensures.singles c.in_ok-add_single-in_default.ensures.heads c.in_ok-add_single-in_default.ensures.groups
