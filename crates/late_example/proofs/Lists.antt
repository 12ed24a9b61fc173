-- Lists as they grow.
use Rattle.std.proofs.Common.{◌≡◌, ap, ◌∙◌, arith, ℕ, suc, ◌+◌, ◌-◌, ◌≤◌, Option, List, [], ◌∷◌, ◌++◌, map}
use Rattle.std.specs.List.{range_with_len}
use Rattle.std.proofs.lemmas.List.{map-append}
use Rattle.cube_space.proofs.Places.{range-more}
use Rattle.order_laws.specs.Scales.{set_element}
use Rattle.late_example.specs.Inside.Narrowing.{places_of}

-- the elements up to the next place
pub places_next : (x : Option (List ℕ)) (from k : ℕ) → from ≤ k → places_of x from (k + 1) ≡ places_of x from k ++ set_element x k ∷ []
places_next x from k le =
    ap (λ n. map (set_element x) (range_with_len from n)) (let e : k + 1 - from ≡ suc (k - from) = omega (arith, le) in e)
    ∙ ap (map (set_element x)) (range-more from (k - from))
    ∙ map-append (set_element x) (range_with_len from (k - from)) ((from + (k - from)) ∷ [])
    ∙ ap (λ j. places_of x from k ++ set_element x j ∷ []) (let e : from + (k - from) ≡ k = omega (arith, le) in e)
