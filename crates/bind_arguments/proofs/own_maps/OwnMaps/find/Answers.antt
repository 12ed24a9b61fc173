use Rattle.std.proofs.Common.{◌∙◌, sym, subst}
use Rattle.bind_arguments.specs.Maps.{AreOwnMapsIn}
use Rattle.bind_arguments.proofs.MapsMade.{one_of}
use Rattle.bind_arguments.proofs.own_maps.OwnMaps.find.Goals as goal

pub returns-in-Some-get : goal.returns-in-Some-get
returns-in-Some-get c space are =
    let found = c.in-Some-get.ensures.lookup in
    c.targets_for.ensures space (one_of space c.deref.result.now c.in-Some.place c.in-Some-get.made.now
    (subst (AreOwnMapsIn space) (sym (c.deref.ensures.value ∙ c.self.view_is)) are) found.3.0 found.1)
