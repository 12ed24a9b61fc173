use Rattle.std.proofs.Common.{rules, ◌≡◌, subst, true}
use Rattle.read_sources.specs.Parts.{AreSetsSame}
use Rattle.read_sources.proofs.Likeness.{alike-of}
use Rattle.read_sources.proofs.alike.serve_alike.Goals as goal

pub returns : goal.returns
returns c =
    λ on.
    let one = c.args.one in
    let other = c.args.other in
    let cube : one.cube ≡ other.cube = search rules in
    let asks : c.ask_alike.result ≡ true = search rules in
    let listed : c.list_alike.result ≡ true = search rules in
    let sets = subst (λ dim. AreSetsSame dim one other) c.last_of.ensures.last (c.list_alike.ensures listed) in
    alike-of c.args.model.now one other c.requires.read c.requires.its cube (c.ask_alike.ensures asks) sets (c.read_alike.ensures on)
