use Rattle.std.proofs.Common.{rules, ◌≡◌, arith, true}
use Rattle.std.proofs.lemmas.Option.{slice_get_within}
use Rattle.read_sources.proofs.Groups.{put-join, put-begin}
use Rattle.read_sources.proofs.parting.put.Goals as goal

pub join-requires : goal.join-requires
join-requires c =
    let on : c.is_of_group.result ≡ true = search rules in
    let of_group = c.is_of_group.ensures on in
    omega (arith, slice_get_within c.args.parted.now.heads.items _ of_group.head of_group.at, c.requires.whole)

pub returns-in_ok-join-in-Some : goal.returns-in_ok-join-in-Some
returns-in_ok-join-in-Some c =
    let on : c.is_of_group.result ≡ true = search rules in
    let shared : c.is_shared.result ≡ true = search rules in
    put-join c.args.model.now c.args.source c.args.parted.now c.join.new.parted c.requires.read _
    c.in_ok-join-in-Some.ensures.singles c.in_ok-join-in-Some.ensures.heads c.in_ok-join-in-Some.ensures.groups c.requires.whole (c.is_of_group.ensures on) (c.is_shared.ensures shared)

pub returns-in_ok-begin-in_default : goal.returns-in_ok-begin-in_default
returns-in_ok-begin-in_default c =
    let shared : c.is_shared.result ≡ true = search rules in
    put-begin c.args.model.now c.args.source c.args.parted.now c.begin.new.parted c.requires.read
    c.in_ok-begin-in_default.ensures.singles c.in_ok-begin-in_default.ensures.heads c.in_ok-begin-in_default.ensures.groups c.requires.whole (c.is_shared.ensures shared)
