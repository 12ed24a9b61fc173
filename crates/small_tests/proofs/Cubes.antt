-- A cube that names no dimension, by itself.
use Rattle.std.proofs.Common.{ℕ, ◌≡◌, ◌<◌, List, [], ◌∷◌, nat_eq, sym, subst, arith}
use Rattle.std.specs.List.{All, IsDistinct}
use Rattle.std.proofs.lemmas.List.Elements.{All-nil, All-cons}
use Rattle.dim_core.specs.Outline.{Outline}
use Rattle.cube_space.specs.declared.shape.CubeShape.{CubeShape}
use Rattle.cube_space.specs.Layout.{IsLayout}

pub without_dimensions : (dimensions : List Outline) (cubes : List CubeShape) (name dims : List ℕ)
    → dimensions ≡ [] → cubes ≡ record { name = name; dims = dims } ∷ [] → dims ≡ []
    → IsLayout (record { dimensions = dimensions; cubes = cubes })
unfolding IsDistinct
without_dimensions dimensions cubes name dims none one no_dims =
    let shape : CubeShape = record { name = name; dims = [] } in
    let alone : cubes ≡ shape ∷ [] = subst (λ ds. cubes ≡ record { name = name; dims = ds } ∷ []) no_dims one in
    subst (λ d. IsLayout (record { dimensions = d; cubes = cubes })) (sym none)
    (subst (λ c. IsLayout (record { dimensions = []; cubes = c })) (sym alone)
    (record {
      few_dimensions = omega arith;
      few_cubes = omega arith;
      in_range = All-cons (λ s. All (λ dim. dim < 0) s.dims) shape [] (All-nil (λ dim. dim < 0)) (All-nil (λ s. All (λ dim. dim < 0) s.dims));
      different = All-cons (λ s. IsDistinct nat_eq s.dims) shape [] tt (All-nil (λ s. IsDistinct nat_eq s.dims));
      distinct_dimensions = tt;
      distinct_cubes = (tt, tt);
    }))
