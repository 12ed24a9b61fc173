-- The product of the greatest coefficients of a cube's dimensions.
use Rattle.std.proofs.Common.{◌≡◌, ℕ, ◌+◌, ◌*◌, ◌<◌, ◌≤◌, min, ℤ, List, ◌∷◌, length, map, drop, get_or, Some, ap, sym, ◌∙◌, subst, arith, slice_get, All}
use Rattle.std.specs.List.{AllZip}
use Rattle.std.proofs.lemmas.List.{drop_more, drop_all}
use Rattle.std.proofs.Math.Nat.{min-eq_left}
use Rattle.dim_core.specs.Outline.{Outline}
use Rattle.dim_weights.specs.Table.{IsWeightsOf, greatest_of}
use Rattle.cube_space.specs.Layout.{Layout, axes_of}
use Rattle.cube_space.specs.Cells.{IsSpace}
use Rattle.cube_space.specs.declared.shape.CubeShape.{CubeShape}
use Rattle.std.proofs.lemmas.Option.{get_or_from_slice_get}
use Rattle.cube_space.specs.Radix.{product}
use Rattle.cube_space.proofs.Steps.{held-down}
use Rattle.rule_model.specs.Weights.{greatest_coef}
use Rattle.rule_model.proofs.Named.{axes_cons}
use Rattle.rule_model.proofs.Coefs.{dimension_at, weights_at, greatest_is}

-- the product of the greatest coefficients of the dimensions of these numbers
abbrev pub product_over : List Outline → List ℕ → ℕ
product_over D dims = product (map greatest_coef (axes_of D dims))

product-cons : (D : List Outline) (k : ℕ) (ks : List ℕ) (d : Outline) → slice_get D k ≡ Some d → product_over D (k ∷ ks) ≡ greatest_coef d * product_over D ks
product-cons D k ks d is = ap (λ ds. product (map greatest_coef ds)) (axes_cons D k ks d is)

-- one more dimension is multiplied
pub product-turn : (D : List Outline) (W : List (List (List (ℕ × ℤ)))) (dims : List ℕ) (i dim so_far factor more top whole : ℕ) (table : List (List (ℕ × ℤ)))
    → AllZip IsWeightsOf D W → dim < length D → i < length dims → dim ≡ get_or dims i 0 → table ≡ get_or W dim table → factor ≡ greatest_of table → more ≡ min (so_far * factor) top
    → min (so_far * product_over D (drop i dims)) top ≡ whole → min (more * product_over D (drop (i + 1) dims)) top ≡ whole
product-turn D W dims i dim so_far factor more top whole table all there h shown is f m before =
    let (d, at) = dimension_at D dim there in
    let (low, own) = weights_at D W dim d table all at in
    let P : List (List (ℕ × ℤ)) → Type 0 = IsWeightsOf d in
    let big : factor ≡ greatest_coef d = f ∙ greatest_is d table (subst P (sym is) own) in
    let rest = product_over D (drop (i + 1) dims) in
    let split : product_over D (drop i dims) ≡ factor * rest =
    ap (product_over D) (drop_more dims i 0 h ∙ ap (λ k. k ∷ drop (i + 1) dims) (sym shown)) ∙ product-cons D dim (drop (i + 1) dims) d at ∙ ap (λ n. n * rest) (sym big) in
    let held = held-down (so_far * factor) rest top in
    let grouped : so_far * factor * rest ≡ so_far * (factor * rest) = omega arith in
    ap (λ n. min (n * rest) top) m ∙ held ∙ ap (λ n. min n top) (grouped ∙ ap (λ n. so_far * n) (sym split)) ∙ before

pub product-end : (D : List Outline) (dims : List ℕ) (i so_far top whole : ℕ) → length dims ≤ i → so_far ≤ top → min (so_far * product_over D (drop i dims)) top ≡ whole → so_far ≡ whole
product-end D dims i so_far top whole h low is =
    let none : product_over D (drop i dims) ≡ 1 = ap (product_over D) (drop_all i dims h) in
    let one : so_far * product_over D (drop i dims) ≡ so_far = rw none (omega arith) in
    sym (min-eq_left low) ∙ ap (λ n. min n top) (sym one) ∙ is

-- a cube names dimensions that are there
pub dim-there : (space : Layout) (cube : ℕ) (shape : CubeShape) (dims : List ℕ) (i : ℕ) → IsSpace space → cube < length space.cubes → slice_get space.cubes cube ≡ Some shape → dims ≡ shape.dims → i < length dims
    → get_or dims i 0 < length space.dimensions
dim-there space cube shape dims i valid h found d low =
    let P : CubeShape → Type 0 = λ s. All (λ dim. dim < length space.dimensions) s.dims in
    let own = subst P (get_or_from_slice_get space.cubes cube shape shape found) (valid.layout.in_range cube shape h) in
    let Q : List ℕ → Type 0 = All (λ dim. dim < length space.dimensions) in
    (subst Q (sym d) own) i 0 low
