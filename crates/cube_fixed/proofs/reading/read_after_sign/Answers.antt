use Rattle.std.proofs.Common.{◌≡◌, ◌∙◌, ap, sym, arith, true, false, ◌+◌, min, Some, to_z}
use Rattle.std.proofs.lemmas.Int.{ints}
use mir.Syntax.{w64}
use Rattle.cube_fixed.specs.Range.{most_millionths}
use Rattle.cube_fixed.specs.Text.{signed, decimal_value, reading_of}
use Rattle.cube_fixed.proofs.Points.{capped_reading, reading_of_money, number_after_sign-decimal}
use Rattle.cube_fixed.proofs.reading.read_after_sign.Goals as goal
use Rattle.cube_fixed.proofs.reading.read_after_sign.Goals.{then-negative, else-negative}

pub returns : goal.returns
returns c =
    let text = c.args.text.now in
    let size = min (decimal_value c.args.decimal text) (most_millionths + 1) in
    let size_is = c.in-Some.ensures.value.1 in
    let bound = c.in-Some.ensures.bound in
    let z = to_z w64 c.if-negative.of-bits in
    let z_is : z ≡ signed c.args.negative size = elim c.if-negative.branch [
      | then-negative w ↦
          let e : z ≡ signed true size = omega (arith, ints, w.of-is, size_is, bound) in
          e ∙ ap (λ b. signed b size) (sym w.if-negative.true)
      | else-negative w ↦
          let e : z ≡ signed false size = omega (arith, ints, w.of-is, size_is, bound) in
          e ∙ ap (λ b. signed b size) (sym w.if-negative.false)
    ] in
    c.ok_or.ensures.value ∙ reading_of_money z c.of.result c.of.ensures ∙
    ap (λ x. reading_of (Some x)) z_is ∙ capped_reading c.args.negative (decimal_value c.args.decimal text) ∙
    ap reading_of (sym (number_after_sign-decimal c.args.decimal c.args.negative text c.in-Some.ensures.value.0))
