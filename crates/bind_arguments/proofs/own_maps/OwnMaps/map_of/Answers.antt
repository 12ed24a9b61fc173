use Rattle.std.proofs.Common.{sym, subst}
use Rattle.bind_arguments.specs.Maps.{AreOwnMapsIn}
use Rattle.bind_arguments.proofs.MapsMade.{one_more}
use Rattle.bind_arguments.proofs.own_maps.OwnMaps.map_of.Goals as goal

pub returns-in_ok-add-in-None-clause-maps : goal.returns-in_ok-add-in-None-clause-maps
returns-in_ok-add-in-None-clause-maps c =
    let space = c.args.space.now in
    subst (AreOwnMapsIn space) (sym c.in_ok-add-in-None.ensures.added) (one_more space c.args.self.now _ c.requires.maps c.in_ok-targets-in-None.ensures.given)
