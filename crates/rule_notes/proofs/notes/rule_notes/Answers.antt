use Rattle.std.proofs.Common.{◌≡◌, ◌+◌, ◌-◌, arith, ap, refl, suc, length}
use Rattle.cube_space.specs.Layout.{Layout}
use Rattle.rule_notes.specs.Noted.{notes_of}
use Rattle.rule_notes.specs.Inside.Listed.{cube_notes}
use Rattle.rule_notes.proofs.Ranges.{items-more, items-done}
use Rattle.rule_notes.proofs.NotedFacts.{listed-is, is-listed}
use Rattle.rule_notes.proofs.notes.rule_notes.Goals as goal

pub each-preserved : goal.each-preserved
each-preserved c =
    let m = c.args.model.now in
    let count = length m.space.cubes in
    let more : count - c.each.cube ≡ suc (count - (c.each.cube + 1)) = omega (arith, c.each-test.true, c.cubes-cube-end.ensures, ap (λ (l : Layout). length l.cubes) c.space.ensures.space) in
    items-more (cube_notes m) c.each.notes.items c.add_cube.new.notes.items _ (cube_notes m c.each.cube) c.each.cube (count - c.each.cube) (count - (c.each.cube + 1)) more c.in_ok-add_cube.ensures refl c.each.invariant

pub returns-clause-list : goal.returns-clause-list
unfolding notes_of
returns-clause-list c =
    let m = c.args.model.now in
    let count = length m.space.cubes in
    let none : count - c.each.cube ≡ 0 = omega (arith, c.each-test.false, c.cubes-cube-end.ensures, ap (λ (l : Layout). length l.cubes) c.space.ensures.space) in
    items-done (cube_notes m) c.each.notes.items _ c.each.cube (count - c.each.cube) none c.each.invariant

pub returns-clause-meant : goal.returns-clause-meant
returns-clause-meant c note = (listed-is c.args.model.now c.space.ensures.rules note, is-listed c.args.model.now c.space.ensures.rules note)

pub returns-in_err-add_cube-clause-meant : goal.returns-in_err-add_cube-clause-meant
returns-in_err-add_cube-clause-meant c note = (listed-is c.args.model.now c.space.ensures.rules note, is-listed c.args.model.now c.space.ensures.rules note)
