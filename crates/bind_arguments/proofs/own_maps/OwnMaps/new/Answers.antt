use Rattle.std.proofs.Common.{sym, subst}
use Rattle.bind_arguments.specs.Maps.{AreOwnMapsIn}
use Rattle.bind_arguments.proofs.MapsMade.{none_made}
use Rattle.bind_arguments.proofs.own_maps.OwnMaps.new.Goals as goal

pub returns : goal.returns
returns c space = subst (AreOwnMapsIn space) (sym c.new.ensures.items) (none_made space)
