-- How many steps feeders take.
use Rattle.std.proofs.Common.{◌≡◌, ap, ◌∙◌, arith, ℕ, zero, suc, ◌+◌, ◌-◌, ◌*◌, ◌<◌, ◌≤◌, [], ◌∷◌, length, append-nil}
use Rattle.std.specs.Prelude.{Result, Ok, Err, IfErr}
use Rattle.std.specs.List.{flat_map, range_with_len}
use Rattle.std.proofs.lemmas.List.{length-append, length-map}
use Rattle.std.proofs.lemmas.Grind.{flat_map-append}
use Rattle.dim_weights.proofs.ByLevel.{range-push}
use native.Mathlib.Nat.{mul-le-mul_right}
use Rattle.rule_model.specs.BoundModel.{BoundModel, rules_of}
use Rattle.rule_model.specs.System.{system_of, feed_of, cube_feeds}

pub spent-more : (begun left after n most : ℕ) → begun ≤ left + n * most → left ≤ after + most → begun ≤ after + (n + 1) * most
spent-more begun left after n most before one = omega (arith, before, one)

pub spent-short : (begun left n count most : ℕ) → n < count → begun ≤ left + n * most → left < most → begun < count * most
spent-short begun left n count most low before short =
    let few : n + 1 ≤ count = omega (arith, low) in
    let wide = mul-le-mul_right most few in
    omega (arith, wide, before, short)

-- the feeders of the first so many cubes
abbrev pub count_before : BoundModel → ℕ → ℕ
count_before m cubes = length (flat_map (cube_feeds m) (range_with_len 0 cubes))

pub count-more : (m : BoundModel) (cube : ℕ) → count_before m (cube + 1) ≡ count_before m cube + length (rules_of m cube).feeders
count-more m cube =
    ap (λ ks. length (flat_map (cube_feeds m) ks)) (range-push cube)
    ∙ ap length (flat_map-append (cube_feeds m) (range_with_len 0 cube) (cube ∷ []))
    ∙ length-append (flat_map (cube_feeds m) (range_with_len 0 cube)) (flat_map (cube_feeds m) (cube ∷ []))
    ∙ ap (λ n. count_before m cube + n) (ap length (append-nil (cube_feeds m cube)) ∙ length-map (rules_of m cube).feeders (feed_of m.space cube))

count-rises : (m : BoundModel) (cubes more : ℕ) → count_before m cubes ≤ count_before m (cubes + more)
count-rises m cubes zero = let e : cubes + 0 ≡ cubes = omega arith in let same = ap (count_before m) e in omega (arith, same)
count-rises m cubes (suc more) =
    let rest = count-rises m cubes more in
    let e : cubes + suc more ≡ cubes + more + 1 = omega arith in
    let same = ap (count_before m) e in
    omega (arith, rest, same, count-more m (cubes + more))

pub count-all : (m : BoundModel) (cubes : ℕ) → cubes ≤ length m.space.cubes → count_before m cubes ≤ length (system_of m).feeds
unfolding system_of
count-all m cubes few =
    let more : ℕ = length m.space.cubes - cubes in
    let rest = count-rises m cubes more in
    let e : cubes + more ≡ length m.space.cubes = omega (arith, few) in
    let same = ap (count_before m) e in
    omega (arith, rest, same)

-- the feeders of one cube more
pub spent-cubes : (m : BoundModel) (cube begun left after most : ℕ) → begun ≤ left + count_before m cube * most → left ≤ after + length (rules_of m cube).feeders * most → begun ≤ after + count_before m (cube + 1) * most
spent-cubes m cube begun left after most before one =
    let e : count_before m (cube + 1) * most ≡ (count_before m cube + length (rules_of m cube).feeders) * most = ap (λ n. n * most) (count-more m cube) in
    omega (arith, before, one, e)

pub short-cubes : (m : BoundModel) (cube begun left most : ℕ) → cube < length m.space.cubes → begun ≤ left + count_before m cube * most → left < length (rules_of m cube).feeders * most
    → begun < length (system_of m).feeds * most
short-cubes m cube begun left most low before short =
    let e : count_before m (cube + 1) * most ≡ (count_before m cube + length (rules_of m cube).feeders) * most = ap (λ n. n * most) (count-more m cube) in
    let wide = mul-le-mul_right most (count-all m (cube + 1) (omega (arith, low))) in
    omega (arith, before, short, e, wide)

-- what holds whatever the error is
pub where-err : {T E P : Type 0} (result : Result T E) → P → IfErr result (λ _. P)
where-err (Ok value) holds = tt
where-err (Err fault) holds = holds
