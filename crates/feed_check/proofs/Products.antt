-- Products of numbers of leaves, from a dimension on.
use Rattle.std.proofs.Common.{◌≡◌, refl, sym, ap, ◌∙◌, arith, subst, ℕ, zero, suc, ◌+◌, ◌*◌, ◌<◌, ◌≤◌, ◌^◌, Some, None, List, [], ◌∷◌, length, map, drop, mul-le-mul, mul-le-mul_right, one-mul}
use Rattle.std.specs.Prelude.{slice_get, slice_index_or}
use Rattle.dim_core.specs.Outline.{Outline}
use Rattle.cube_space.specs.Radix.{product}
use Rattle.cube_space.specs.Layout.{Layout, sizes}
use Rattle.cube_space.specs.Cells.{IsSpace, cell_count}
use Rattle.cube_space.proofs.Places.{run_within}
use Rattle.feed_check.specs.Inside.Leaves.{leaf_elements}

pub leaves-step : (ds : List Outline) (k j : ℕ) (d : Outline) → slice_get ds k ≡ Some d → j ≡ k + 1 → product (map leaf_elements (drop k ds)) ≡ leaf_elements d * product (map leaf_elements (drop j ds))
leaves-step [] k j d at e = absurd (cc)
leaves-step (x ∷ ds) zero zero d at e = absurd (omega (arith, e))
leaves-step (x ∷ ds) zero (suc j) d at e =
    let same : x ≡ d = cc in
    let none : j ≡ 0 = omega (arith, e) in
    ap (λ (o : Outline). leaf_elements o * product (map leaf_elements ds)) same ∙ ap (λ n. leaf_elements d * product (map leaf_elements (drop n ds))) (sym none)
leaves-step (x ∷ ds) (suc k) zero d at e = absurd (omega (arith, e))
leaves-step (x ∷ ds) (suc k) (suc j) d at e = leaves-step ds k j d at (omega (arith, e))

pub sizes-step : (ss : List ℕ) (k j : ℕ) → k < length ss → j ≡ k + 1 → product (drop k ss) ≡ slice_index_or ss k 0 * product (drop j ss)
sizes-step [] k j low e = absurd (omega (arith, low))
sizes-step (s ∷ ss) zero zero low e = absurd (omega (arith, e))
sizes-step (s ∷ ss) zero (suc j) low e = let none : j ≡ 0 = omega (arith, e) in ap (λ n. s * product (drop n ss)) (sym none)
sizes-step (s ∷ ss) (suc k) zero low e = absurd (omega (arith, e))
sizes-step (s ∷ ss) (suc k) (suc j) low e = sizes-step ss k j (omega (arith, low)) (omega (arith, e))

-- what is left of a product that isn't 0 is no greater
pub tail-small : (ss : List ℕ) (k : ℕ) → 0 < product ss → product (drop k ss) ≤ product ss
tail-small ss zero h = omega arith
tail-small [] (suc k) h = omega arith
tail-small (zero ∷ ss) (suc k) h = absurd (omega (arith, h))
tail-small (suc s ∷ ss) (suc k) h =
    let more : product ss ≤ suc s * product ss = omega (arith, Rattle.std.proofs.Common.suc-mul s (product ss)) in
    let some : 0 < product ss = positive (product ss) h in
    omega (arith, more, tail-small ss k some)
  where
    positive : (p : ℕ) → 0 < suc s * p → 0 < p
    positive zero h = absurd (omega (arith, h, Rattle.std.proofs.Common.mul-zero (suc s)))
    positive (suc p) h = omega arith

-- the product of the numbers from a dimension on has room
pub product-room : (space : Layout) (cube k j leaves rest : ℕ) → IsSpace space → cube < length space.cubes → 0 < cell_count space cube → k < length (sizes space cube) → j ≡ k + 1
    → leaves ≤ slice_index_or (sizes space cube) k 0 → rest ≤ product (drop j (sizes space cube)) → (leaves * rest ≤ product (drop k (sizes space cube))) × (leaves * rest ≤ 2 ^ 62)
product-room space cube k j leaves rest valid there some low e few small =
    let step = sizes-step (sizes space cube) k j low e in
    let less : leaves * rest ≤ slice_index_or (sizes space cube) k 0 * product (drop j (sizes space cube)) = mul-le-mul few small in
    let tail = tail-small (sizes space cube) k some in
    let run = run_within space cube there in
    (omega (arith, step, less), omega (arith, step, less, tail, run, valid.size))
