use Rattle.std.proofs.Common.{rules, ◌≡◌, ◌∙◌, sym, subst, true}
use Rattle.read_sources.specs.Ways.{cube_read, way_of}
use Rattle.read_sources.specs.Parts.{AreSetsSame}
use Rattle.read_sources.proofs.SameArrows.{makes-arrows-of}
use Rattle.read_sources.proofs.same_arrows.makes_arrows_of.Goals as goal

pub returns : goal.returns
returns c =
    λ on.
    let m = c.args.model.now in
    let one = c.args.one in
    let other = c.args.other in
    let alike_on : c.serve_alike.result ≡ true = search rules in
    let listed_on : c.list_alike.result ≡ true = search rules in
    let weak : one.weak ≡ other.weak = search rules in
    let cube : cube_read one ≡ cube_read other = search rules in
    let way : way_of m one ≡ way_of m other = sym c.way.ensures.follows ∙ c.same_way.ensures on ∙ c.way-2.ensures.follows in
    let sets = subst (λ d. AreSetsSame d one other) c.found_in.ensures.found (c.list_alike.ensures listed_on) in
    makes-arrows-of m c.space-space.ensures.valid one other c.requires.one c.requires.read c.requires.its (c.serve_alike.ensures alike_on) way sets weak cube
