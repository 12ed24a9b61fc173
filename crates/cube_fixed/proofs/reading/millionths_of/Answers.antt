use Rattle.std.proofs.Common.{◌≡◌, ◌∙◌, ap, sym, arith, ◌+◌, ◌*◌, ◌/◌, ◌^◌, ◌-◌, ◌≤◌, length, take, get_or}
use Rattle.std.specs.Str.Parse.{digits_value}
use Rattle.std.proofs.Math.Nat.{mul-le-mul_left}
use Rattle.std.proofs.Math.Seq.{take-length}
use Rattle.cube_fixed.proofs.Decimals.{digits_value-step, digit_at, place_step, tenths_step, decimals_value-from_tenths}
use Rattle.cube_fixed.proofs.reading.millionths_of.Goals as goal

pub loop-digit-preserved : goal.loop-digit-preserved
loop-digit-preserved c =
    let i = c.loop-digit.digit-index in
    let ds = c.args.decimals.now in
    let v = digits_value 10 (take i ds) in
    let d = get_or ds i 0 - 48 in
    let place = c.loop-digit.place / 10 in
    let bounds = digit_at ds i c.requires c.loop-digit-test.true in
    let small : d ≤ 9 = omega (arith, bounds.1) in
    let digit : c.from.result ≡ d = omega arith in
    let step : digits_value 10 (take (i + 1) ds) * 10000000 / 10 ^ (i + 1) ≡ v * 10000000 / 10 ^ i + 10000000 / 10 ^ i / 10 * d =
    ap (λ x. x * 10000000 / 10 ^ (i + 1)) (digits_value-step ds i c.requires c.loop-digit-test.true) ∙ tenths_step v d i small in
    let added : place * c.from.result ≡ 10000000 / 10 ^ i / 10 * d =
    ap (λ x. x / 10 * c.from.result) c.loop-digit.invariant.place ∙ ap (λ x. 10000000 / 10 ^ i / 10 * x) digit in
    let bound : place * c.from.result ≤ place * 9 = mul-le-mul_left place (omega (arith, digit, small)) in
    record {
      place = ap (λ x. x / 10) c.loop-digit.invariant.place ∙ sym (place_step i);
      tenths = omega (arith, c.loop-digit.invariant.tenths, added, step);
      room = omega (arith, c.loop-digit.invariant.room, bound);
    }

pub returns-clause-value : goal.returns-clause-value
returns-clause-value c =
    let ds = c.args.decimals.now in
    let end : c.loop-digit.digit-index ≡ length ds = omega arith in
    decimals_value-from_tenths ds c.loop-digit.tenths
    (c.loop-digit.invariant.tenths ∙
    ap (λ k. digits_value 10 (take k ds) * 10000000 / 10 ^ k) end ∙
    ap (λ xs. digits_value 10 xs * 10000000 / 10 ^ length ds) (take-length ds))
