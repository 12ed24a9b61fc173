use Rattle.std.proofs.Common.{◌≡◌, ◌∙◌, ◌≤◌, ap, arith, min, unsigned_abs, w64, pos, to_z, of_z}
use Rattle.std.specs.Prelude.{◌≤ℤ◌, ◌<ℤ◌}
use Rattle.std.proofs.lemmas.Int.{ints, to_z-of_z}
use Rattle.rule_laws.specs.Maps.{behind, before}
use Rattle.bind_arguments.proofs.Moves.{behind-most, before-most}
use Rattle.bind_arguments.proofs.argument.moved_by.Goals as goal

pub returns-then-shift-lt0 : goal.returns-then-shift-lt0
returns-then-shift-lt0 c =
    let own : to_z w64 (of_z w64 c.args.shift) ≡ c.args.shift = to_z-of_z w64 c.args.shift c.ranges.shift in
    let size : c.unsigned_abs.result ≡ unsigned_abs c.args.shift = c.unsigned_abs.ensures.value ∙ ap unsigned_abs own in
    let places : c.min-places.result ≡ min (unsigned_abs c.args.shift) 4294967295 = omega (arith, c.min-places.ensures, size, c.from.ensures) in
    let few : c.args.len ≤ 4294967295 = omega (arith, c.ranges.len.fits) in
    let low : c.args.shift <ℤ pos 0 = omega (arith, ints, c.if-shift-lt0.true) in
    c.before-then-shift-lt0.ensures ∙ ap (before c.args.len) places ∙ before-most c.args.len 4294967295 c.args.shift few low

pub returns-else-shift-lt0 : goal.returns-else-shift-lt0
returns-else-shift-lt0 c =
    let own : to_z w64 (of_z w64 c.args.shift) ≡ c.args.shift = to_z-of_z w64 c.args.shift c.ranges.shift in
    let size : c.unsigned_abs.result ≡ unsigned_abs c.args.shift = c.unsigned_abs.ensures.value ∙ ap unsigned_abs own in
    let places : c.min-places.result ≡ min (unsigned_abs c.args.shift) 4294967295 = omega (arith, c.min-places.ensures, size, c.from.ensures) in
    let few : c.args.len ≤ 4294967295 = omega (arith, c.ranges.len.fits) in
    let high : pos 0 ≤ℤ c.args.shift = omega (arith, ints, c.if-shift-lt0.false) in
    c.behind.ensures ∙ ap (behind c.args.len) places ∙ behind-most c.args.len 4294967295 c.args.shift few high
