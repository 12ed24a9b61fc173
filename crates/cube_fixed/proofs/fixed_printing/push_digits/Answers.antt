use Rattle.std.proofs.Common.{◌≡◌, ◌∙◌, ap, sym, arith, ℕ, suc, ◌+◌, ◌-◌, ◌/◌, ◌%◌, ◌^◌, ◌<◌, ◌++◌, ◌∷◌, [], get_or, take}
use Rattle.cube_fixed.specs.Text.{digits_in}
use Rattle.cube_fixed.proofs.Digits.{below_place, place_at, digit_step}
use Rattle.cube_fixed.proofs.fixed_printing.push_digits.Goals as goal

pub loop-place-preserved : goal.loop-place-preserved
loop-place-preserved c =
    let i = c.loop-place.place-index in
    let rest = c.loop-place.rest in
    let text = c.loop-place.text.items in
    let left = c.loop-place.left in
    let k = 5 - i in
    let place : ℕ = get_or {A = ℕ} (100000 ∷ 10000 ∷ 1000 ∷ 100 ∷ 10 ∷ 1 ∷ []) i 0 in
    let within : i < 6 = c.loop-place-test.true in
    let place_is : place ≡ 10 ^ k = place_at i within in
    let now : 6 - i ≡ suc k = omega arith in
    let next : 6 - (i + 1) ≡ k = omega arith in
    let some : left ≡ suc (left - 1) = omega arith in
    let rest_is : rest % place ≡ rest % 10 ^ k = ap (λ p. rest % p) place_is in
    record {
      rest = omega (arith, rest_is, below_place k rest, ap (λ n. 10 ^ n) next);
      left = omega arith;
      text =
          ap (λ xs. xs ++ take (left - 1) (digits_in (6 - (i + 1)) (rest % place))) c.in_ok-push.ensures.items ∙
          ap (λ p. (text ++ (48 + rest / p) ∷ []) ++ take (left - 1) (digits_in (6 - (i + 1)) (rest % p))) place_is ∙
          ap (λ n. (text ++ (48 + rest / 10 ^ k) ∷ []) ++ take (left - 1) (digits_in n (rest % 10 ^ k))) next ∙
          digit_step k (left - 1) rest text ∙ ap (λ n. text ++ take n (digits_in (suc k) rest)) (sym some) ∙
          ap (λ n. text ++ take left (digits_in n rest)) (sym now) ∙ c.loop-place.invariant.text;
    }
