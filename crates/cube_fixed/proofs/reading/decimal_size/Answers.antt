use Rattle.std.proofs.Common.{◌≡◌, ◌∙◌, ap, sym, arith, pos, ◌+◌, ◌*◌, ◌&&◌, min, true, false, take, drop, ℕ, ◌<◌, ◌^◌, ℤ, to_z, of_z}
use Rattle.std.proofs.lemmas.Int.{ints}
use Rattle.std.proofs.lemmas.List.{take_rest}
use mir.Syntax.{w64}
use Rattle.cube_fixed.specs.Range.{most_millionths}
use Rattle.cube_fixed.specs.Text.{is_digits, is_decimal, decimals_value, decimal_value}
use Rattle.cube_fixed.proofs.Points.{point_found, point_missing, is_decimal-point, decimal_value-point, is_decimal-none, decimal_value-none}
use Rattle.cube_fixed.proofs.reading.decimal_size.Goals as goal
use Rattle.cube_fixed.proofs.reading.decimal_size.Goals.{else-are_digits-via-then-are_digits+else-are_digits-2, else-are_digits-via-else-are_digits}

-- a size that fits is kept as it is
held : (z : ℤ) (n : ℕ) → z ≡ pos n → n < 2 ^ 63 → to_z w64 (of_z w64 z) ≡ pos n
held z n e small = omega (arith, ints)

pub returns-then-are_digits-2-clause-value : goal.returns-then-are_digits-2-clause-value
returns-then-are_digits-2-clause-value c =
    let text = c.args.text.now in
    let at = c.in-Some.at in
    let point = point_found c.args.decimal text at (sym c.in-Some.ensures) in
    let rest = take_rest text (at + 1) in
    let whole : is_digits (take at text) ≡ true = sym c.if-are_digits.ensures in
    let decimals : is_digits (drop (at + 1) text) ≡ true = ap is_digits (sym rest) ∙ sym c.if-are_digits-2.ensures in
    let millionths : c.millionths_of.result ≡ decimals_value (drop (at + 1) text) = c.millionths_of.ensures.value ∙ ap decimals_value rest in
    let read = c.units_of.result * 1000000 + c.millionths_of.result in
    let size : min read (most_millionths + 1) ≡ min (decimal_value c.args.decimal text) (most_millionths + 1) =
    omega (arith, c.units_of.ensures, millionths, decimal_value-point c.args.decimal text at point) in (
      is_decimal-point c.args.decimal text at point ∙ ap (λ b. b && is_digits (drop (at + 1) text)) whole ∙ decimals,
      held c.capped.result (min (decimal_value c.args.decimal text) (most_millionths + 1)) (c.capped.ensures ∙ ap (λ n. pos n) size) (omega arith),
    )

pub returns-else-are_digits-clause-value : goal.returns-else-are_digits-clause-value
returns-else-are_digits-clause-value c =
    let text = c.args.text.now in
    let at = c.in-Some.at in
    let parts = is_decimal-point c.args.decimal text at (point_found c.args.decimal text at (sym c.in-Some.ensures)) in
    elim c.else-are_digits.branch [
      | else-are_digits-via-then-are_digits+else-are_digits-2 w ↦ λ decimal.
          let rest = take_rest text (at + 1) in
          let whole : is_digits (take at text) ≡ true = sym c.are_digits.ensures ∙ w.if-are_digits.true in
          let no : is_digits (drop (at + 1) text) ≡ false = ap is_digits (sym rest) ∙ sym w.are_digits-then-are_digits.ensures ∙ w.if-are_digits-2.false in
          let e : is_decimal c.args.decimal text ≡ false = parts ∙ ap (λ b. b && is_digits (drop (at + 1) text)) whole ∙ no in
          cc (e, decimal)
      | else-are_digits-via-else-are_digits w ↦ λ decimal.
          let no : is_digits (take at text) ≡ false = sym c.are_digits.ensures ∙ w.if-are_digits.false in
          let e : is_decimal c.args.decimal text ≡ false = parts ∙ ap (λ b. b && is_digits (drop (at + 1) text)) no in
          cc (e, decimal)
    ]

pub returns-in-None-clause-value : goal.returns-in-None-clause-value
returns-in-None-clause-value c =
    let text = c.args.text.now in
    let none = point_missing c.args.decimal text (sym c.in-None.ensures) in
    let read = c.units_of-in-None.result * 1000000 in
    let size : min read (most_millionths + 1) ≡ min (decimal_value c.args.decimal text) (most_millionths + 1) =
    omega (arith, c.units_of-in-None.ensures, decimal_value-none c.args.decimal text none) in (
      is_decimal-none c.args.decimal text none ∙ sym c.if-are_digits-3.ensures,
      held c.capped-in-None.result (min (decimal_value c.args.decimal text) (most_millionths + 1)) (c.capped-in-None.ensures ∙ ap (λ n. pos n) size) (omega arith),
    )
