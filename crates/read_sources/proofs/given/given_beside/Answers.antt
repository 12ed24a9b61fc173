use Rattle.std.proofs.Common.{◌≡◌, sym, subst, arith, length}
use Rattle.cube_space.specs.Layout.{axes}
use Rattle.read_sources.specs.Ways.{choice, asked}
use Rattle.read_sources.specs.Sources.{IsGiven}
use Rattle.read_sources.specs.Giving.{below}
use Rattle.read_sources.proofs.Beside.{none-given}
use Rattle.read_sources.proofs.given.given_beside.Goals as goal

pub each-init : goal.each-init
each-init c = record {
  so =
      subst (IsGiven (below (choice c.args.model.now c.args.source) 0) c.args.beside.one c.args.beside.other (asked c.args.source)) (sym c.gives_nothing-given.ensures)
      (none-given (choice c.args.model.now c.args.source) c.args.beside.one c.args.beside.other (asked c.args.source));
  known = c.requires.known;
}

pub returns-clause-given : goal.returns-clause-given
returns-clause-given c =
    let ch = choice c.args.model.now c.args.source in
    let done : c.each.dim ≡ length (axes c.args.model.now.space c.args.source.cube) = omega (arith, c.each.auto.dim-end, c.each-test.false, c.axis_count-dim-end.ensures.count) in
    subst (λ n. IsGiven (below ch n) c.args.beside.one c.args.beside.other (asked c.args.source) c.each.given) done c.each.invariant.so
