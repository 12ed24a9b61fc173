use Rattle.std.proofs.Common.{◌≡◌, arith, suc, true, subst, ℕ}
use Rattle.late_example.specs.Inside.Narrowing.{is_sought, narrowed}
use Rattle.late_example.proofs.Places.{at-place}
use Rattle.late_example.proofs.search.+first_place.Goals as goal

pub returns-then-width-eq1-clause-first : goal.returns-then-width-eq1-clause-first
returns-then-width-eq1-clause-first t c =
    let cells = c.args.cells in
    let next : c.args.high ≡ suc c.args.low = omega (arith, c.if-width-eq1.true, c.requires.between) in
    let some = subst (λ (h : ℕ). is_sought cells.model.now cells.cube (narrowed cells.area.now c.args.dim 0 h) c.args.sought ≡ true) next c.requires.some in record {
      within = omega (arith, c.requires.between, c.requires.high);
      here = at-place cells.model.now c.space-space.ensures.valid c.space-space.ensures.rules cells.cube c.requires.cells.cube c.args.sought c.requires.read c.requires.position cells.area.now c.requires.cells.area c.args.dim c.requires.dim c.args.low
          (omega (arith, c.requires.between, c.requires.high)) c.requires.none some;
      before = c.requires.none;
    }
