use Rattle.std.proofs.Common.{◌≡◌, ap, arith, subst, ◌+◌, ◌<◌, inl, inr, length}
use Rattle.std.proofs.lemmas.Bool.{cases_lt}
use Rattle.cube_space.specs.Layout.{Layout}
use Rattle.read_sources.specs.Gathering.{IsCubeTaken, IsUnlaggedFault}
use Rattle.read_sources.proofs.Gathered.{cube-stays, gathered-up}
use Rattle.read_sources.proofs.Greater.{handed-on, model-fault, model-level, model-sources}
use Rattle.read_sources.proofs.sources.sources_of.Goals as goal

pub returns-in_err-take_cube-clause-refused : goal.returns-in_err-take_cube-clause-refused
returns-in_err-take_cube-clause-refused c =
    let there : c.each.cube < length c.args.model.now.space.cubes = omega (arith, c.each-test.true, c.cubes-cube-end.ensures, ap (λ (l : Layout). length l.cubes) c.space.ensures.space) in
    handed-on c.from_residual.result c.in_err-take_cube.field-0.0 (IsUnlaggedFault c.args.model.now) c.from_residual.ensures.1
    (model-fault c.args.model.now c.space.ensures.valid c.space.ensures.rules c.each.sources.items c.each.cube c.in_err-take_cube.field-0.0 there c.each.invariant.taken c.in_err-take_cube.ensures.refused)

pub each-preserved : goal.each-preserved
each-preserved c = record {
  gathered = gathered-up c.args.model.now c.each.cube (c.each.cube + 1) c.take_cube.new.sources.items (omega arith) c.in_ok-take_cube.ensures.gathered;
  taken = λ cube low. elim (cases_lt cube c.each.cube) [
    | inl less ↦ cube-stays c.args.model.now cube c.each.sources.items c.take_cube.new.sources.items c.in_ok-take_cube.ensures.stay (c.each.invariant.taken cube less)
    | inr more ↦
        let same : c.each.cube ≡ cube = omega (arith, low, more) in
        subst (IsCubeTaken c.args.model.now c.take_cube.new.sources.items) same c.in_ok-take_cube.ensures.taken
  ];
}

pub returns-clause-sources : goal.returns-clause-sources
returns-clause-sources c =
    let count = ap (λ (l : Layout). length l.cubes) c.space.ensures.space in
    model-sources c.args.model.now c.space.ensures.valid c.space.ensures.rules c.each.sources.items c.each.cube c.each.invariant.gathered
    (λ cube low. c.each.invariant.taken cube (omega (arith, low, count, c.cubes-cube-end.ensures, c.each-test.false)))

pub returns-clause-level : goal.returns-clause-level
returns-clause-level c =
    let count = ap (λ (l : Layout). length l.cubes) c.space.ensures.space in
    model-level c.args.model.now c.space.ensures.valid c.space.ensures.rules c.each.sources.items
    (λ cube low. c.each.invariant.taken cube (omega (arith, low, count, c.cubes-cube-end.ensures, c.each-test.false)))
