use Rattle.std.proofs.Common.{sym, subst}
use Rattle.cube_space.specs.Layout.{axes, sizes}
use Rattle.rule_model.specs.Conditions.{IsArg}
use Rattle.std.specs.List.{AllZip}
use Rattle.bind_areas.proofs.ValidFacts.{args_valid, own_sizes}
use Rattle.bind_areas.proofs.bracket.bind_bracket.Goals as goal

pub returns-clause-valid : goal.returns-clause-valid
returns-clause-valid c = (
  c.requires,
  subst (AllZip (IsArg (sizes c.args.space.now c.args.cube)) (sizes c.args.space.now c.args.cube)) (sym c.in_ok-args.ensures)
      (args_valid (sizes c.args.space.now c.args.cube) c.args.simples.now c.as_slice.result.now 0 (axes c.args.space.now c.args.cube) (own_sizes (axes c.args.space.now c.args.cube))),
)
