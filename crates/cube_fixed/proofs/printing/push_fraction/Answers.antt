use Rattle.std.proofs.Common.{◌≡◌, ◌∙◌, ap, sym, arith, ℕ, suc, ◌+◌, ◌-◌, ◌/◌, ◌%◌, ◌^◌, ◌<◌, ◌++◌, ◌∷◌, [], get_or}
use Rattle.cube_fixed.proofs.Digits.{decimals, decimals-none, decimals-zero, below_place, place_at, fraction_step, fraction_end}
use Rattle.cube_fixed.proofs.printing.push_fraction.Goals as goal

pub loop-place-preserved : goal.loop-place-preserved
loop-place-preserved c =
    let i = c.loop-place.place-index in
    let rest = c.loop-place.rest in
    let text = c.loop-place.text.items in
    let k = 5 - i in
    let place : ℕ = get_or {A = ℕ} (100000 ∷ 10000 ∷ 1000 ∷ 100 ∷ 10 ∷ 1 ∷ []) i 0 in
    let within : i < 6 = c.loop-place-test.true in
    let place_is : place ≡ 10 ^ k = place_at i within in
    let now : 6 - i ≡ suc k = omega arith in
    let next : 6 - (i + 1) ≡ k = omega arith in
    let rest_is : rest % place ≡ rest % 10 ^ k = ap (λ p. rest % p) place_is in
    let above : 0 < rest = omega arith in
    record {
      rest = omega (arith, rest_is, below_place k rest, ap (λ n. 10 ^ n) next);
      text =
          ap (λ xs. xs ++ decimals (6 - (i + 1)) (rest % place)) c.in_ok-push-2.ensures.items ∙
          ap (λ p. (text ++ (48 + rest / p) ∷ []) ++ decimals (6 - (i + 1)) (rest % p)) place_is ∙
          ap (λ n. (text ++ (48 + rest / 10 ^ k) ∷ []) ++ decimals n (rest % 10 ^ k)) next ∙
          fraction_step k rest text above ∙ ap (λ n. text ++ decimals n rest) (sym now) ∙ c.loop-place.invariant.text;
    }

pub returns-after-loop-place : goal.returns-after-loop-place
returns-after-loop-place c =
    let end : 6 - c.loop-place.place-index ≡ 0 = omega arith in
    fraction_end c.loop-place.text.items c.args.text.now.items c.push.new.self.items
    (decimals (6 - c.loop-place.place-index) c.loop-place.rest) c.args.millionths (omega arith)
    (ap (λ n. decimals n c.loop-place.rest) end ∙ decimals-none c.loop-place.rest) c.in_ok-push.ensures.items
    c.loop-place.invariant.text

pub returns-then-rest-eq0 : goal.returns-then-rest-eq0
returns-then-rest-eq0 c =
    let k = 6 - c.loop-place.place-index in
    fraction_end c.loop-place.text.items c.args.text.now.items c.push.new.self.items
    (decimals k c.loop-place.rest) c.args.millionths (omega arith)
    (ap (λ r. decimals k r) c.if-rest-eq0.true ∙ decimals-zero k) c.in_ok-push.ensures.items
    c.loop-place.invariant.text
