use Rattle.std.proofs.Common.{◌∙◌, sym}
use Rattle.lists.proofs.Found.{found_holds}
use Rattle.read_sources.specs.Ways.{IsSource}
use Rattle.read_sources.specs.Sources.{IsRead}
use Rattle.read_sources.proofs.parting.is_of_group.Goals as goal

pub serve_alike-requires-clause-one : goal.serve_alike-requires-clause-one
serve_alike-requires-clause-one c =
    found_holds (IsSource c.args.model.now) c.args.parted.now.heads.items c.args.group c.in-Some.head c.requires.heads (sym c.head_of.ensures ∙ c.in-Some.is)

pub serve_alike-requires-clause-read : goal.serve_alike-requires-clause-read
serve_alike-requires-clause-read c =
    found_holds (IsRead c.args.model.now) c.args.parted.now.heads.items c.args.group c.in-Some.head c.requires.each (sym c.head_of.ensures ∙ c.in-Some.is)

pub returns-in-Some : goal.returns-in-Some
returns-in-Some c = λ on. record { head = c.in-Some.head; at = sym c.head_of.ensures ∙ c.in-Some.is; alike = c.serve_alike.ensures on }
