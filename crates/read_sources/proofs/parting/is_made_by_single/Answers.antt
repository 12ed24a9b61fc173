use Rattle.std.proofs.Common.{◌∙◌, sym}
use Rattle.lists.proofs.Found.{found_holds}
use Rattle.read_sources.specs.Ways.{IsSource}
use Rattle.read_sources.specs.Sources.{IsRead}
use Rattle.read_sources.proofs.parting.is_made_by_single.Goals as goal

pub makes_arrows_of-requires-clause-one : goal.makes_arrows_of-requires-clause-one
makes_arrows_of-requires-clause-one c =
    found_holds (IsSource c.args.model.now) c.args.parted.now.singles.items c.args.k c.in-Some.one c.requires.singles (sym c.single_of.ensures ∙ c.in-Some.is)

pub makes_arrows_of-requires-clause-read : goal.makes_arrows_of-requires-clause-read
makes_arrows_of-requires-clause-read c =
    found_holds (IsRead c.args.model.now) c.args.parted.now.singles.items c.args.k c.in-Some.one c.requires.single (sym c.single_of.ensures ∙ c.in-Some.is)

pub returns-in-Some : goal.returns-in-Some
returns-in-Some c = λ on. record { k = c.args.k; one = c.in-Some.one; here = sym c.single_of.ensures ∙ c.in-Some.is; makes = c.makes_arrows_of.ensures on }
