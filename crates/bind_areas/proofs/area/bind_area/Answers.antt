use Rattle.std.proofs.Common.{sym, subst}
use Rattle.cube_space.specs.Layout.{axes}
use Rattle.rule_model.specs.Conditions.{IsSet}
use Rattle.cube_space.specs.Layout.{sizes}
use Rattle.std.specs.List.{AllZip}
use Rattle.bind_areas.proofs.ValidFacts.{sets_valid}
use Rattle.bind_areas.proofs.area.bind_area.Goals as goal

pub returns-clause-valid : goal.returns-clause-valid
returns-clause-valid c =
    subst (AllZip IsSet (sizes c.args.space.now c.args.cube)) (sym c.in_ok-sets.ensures) (sets_valid c.args.entries.now c.as_slice.result.now 0 (axes c.args.space.now c.args.cube))
