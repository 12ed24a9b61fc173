use Rattle.std.proofs.Common.{◌≡◌, ◌<◌, ◌∙◌, sym, arith, ◌^◌, ◌-◌, ◌/◌, ◌%◌, length, get_or}
use Rattle.std.proofs.lemmas.Nat.{mod_below}
use Rattle.cube_space.specs.Layout.{axes_of, sizes_of}
use Rattle.feed_sources.proofs.DigitFacts.{jumps-on, jumps-within}
use Rattle.feed_sources.proofs.JumpFacts.{size-at, filled, next-worth, next-some, passed}
use Rattle.feed_sources.proofs.jumps.jump_from.Goals.{After-from-size}
use Rattle.feed_sources.proofs.jumps.jump_from.Goals as goal

-- the size at the place
at : (c : After-from-size) → (c.places.place < length (sizes_of (axes_of c.args.space.now.dimensions c.args.dims.now))) × (get_or (sizes_of (axes_of c.args.space.now.dimensions c.args.dims.now)) c.places.place 0 ≡ c.from-size.result)
at c =
    let size = size-at c.args.space.now.dimensions c.args.dims.now c.places.place c.dimension.result.now c.requires.dims c.places-test.true c.dimension.ensures in
    (size.0, size.1 ∙ sym c.len.ensures.len ∙ sym c.from-size.ensures)

size-some : (c : After-from-size) → 0 < c.from-size.result
size-some c =
    let own = at c in
    filled (sizes_of (axes_of c.args.space.now.dimensions c.args.dims.now)) c.places.place c.from-size.result c.places.worth own.0 own.1 c.places.invariant.worth c.places.invariant.some

worth-some : (c : After-from-size) → 0 < c.places.worth / c.from-size.result
worth-some c =
    let own = at c in
    next-some (sizes_of (axes_of c.args.space.now.dimensions c.args.dims.now)) c.places.place c.from-size.result c.places.worth own.0 own.1 c.places.invariant.worth c.places.invariant.some

pub nonzero_div-worth : goal.nonzero_div-worth
nonzero_div-worth c = size-some (goal.at.nonzero_div-worth c).After-from-size

pub nonzero_div-number : goal.nonzero_div-number
nonzero_div-number c = worth-some (goal.at.nonzero_div-number c).After-from-size

pub nonzero_rem-number : goal.nonzero_rem-number
nonzero_rem-number c = size-some (goal.at.nonzero_rem-number c).After-from-size

pub gap_to-gap-requires-clause-digit : goal.gap_to-gap-requires-clause-digit
gap_to-gap-requires-clause-digit c = mod_below _ _ (size-some (goal.at.gap_to-gap-requires-clause-digit c).After-from-size)

pub nonzero_rem-number-then-gap-gt0 : goal.nonzero_rem-number-then-gap-gt0
nonzero_rem-number-then-gap-gt0 c = worth-some (goal.at.nonzero_rem-number-then-gap-gt0 c).After-from-size

pub returns-then-gap-gt0-clause-later : goal.returns-then-gap-gt0-clause-later
returns-then-gap-gt0-clause-later c =
    let low : c.args.number < 2 ^ 64 - 1 = omega (arith, c.requires.number, c.ranges.cells.fits) in
    jumps-on c.args.number (c.places.worth / c.from-size.result) c.gap_to-gap.result c.saturating_mul.result c.saturating_add.result (2 ^ 64 - 1)
    (worth-some (goal.at.returns-then-gap-gt0-clause-later c).After-from-size) c.if-gap-gt0.true low c.saturating_mul.ensures c.saturating_add.ensures

pub returns-then-gap-gt0-clause-passed : goal.returns-then-gap-gt0-clause-passed
returns-then-gap-gt0-clause-passed c =
    let own = at (goal.at.returns-then-gap-gt0-clause-passed c).After-from-size in
    let w = c.places.worth / c.from-size.result in
    passed (sizes_of (axes_of c.args.space.now.dimensions c.args.dims.now)) c.places.place c.from-size.result c.places.worth own.0 own.1 c.places.invariant.worth c.places.invariant.some
    c.args.choices.now c.in-Some.element c.args.number c.gap_to-gap.result c.saturating_add.result c.in-Some.is (rw c.from.ensures at c.gap_to-gap.ensures)
    (jumps-within (c.args.number - c.args.number % w) w c.gap_to-gap.result c.saturating_mul.result c.saturating_add.result (2 ^ 64 - 1) c.saturating_mul.ensures c.saturating_add.ensures)

pub places-preserved : goal.places-preserved
places-preserved c =
    let a = (goal.at.places-preserved c).After-from-size in
    let own = at a in
    record {
      worth = next-worth (sizes_of (axes_of c.args.space.now.dimensions c.args.dims.now)) c.places.place c.from-size.result c.places.worth own.0 own.1 c.places.invariant.worth c.places.invariant.some;
      some = worth-some a;
    }
