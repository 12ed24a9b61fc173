-- The dimensions of a cube, from a place on.
use Rattle.std.proofs.Common.{◌≡◌, refl, sym, ap, ◌∙◌, ℕ, ◌+◌, ◌<◌, ◌≤◌, List, [], ◌∷◌, length, drop, get_or, Some}
use Rattle.std.specs.Prelude.{slice_get}
use Rattle.std.proofs.lemmas.List.{drop_more, get_or-map, drop_all}
use Rattle.std.proofs.lemmas.Option.{slice_get_within, get_or_from_slice_get}
use Rattle.dim_core.specs.Outline.{Outline}
use Rattle.cube_space.specs.declared.shape.CubeShape.{CubeShape}
use Rattle.cube_space.specs.Layout.{Layout, axes_of, dims_of}

pub shape-dims : (space : Layout) (cube : ℕ) (shape : CubeShape) → slice_get space.cubes cube ≡ Some shape → shape.dims ≡ dims_of space cube
shape-dims space cube shape found =
    let low = slice_get_within space.cubes cube shape found in
    sym (get_or-map (λ (s : CubeShape). s.dims) space.cubes cube shape [] low ∙ ap (λ (s : CubeShape). s.dims) (get_or_from_slice_get space.cubes cube shape shape found))

pub axes-from : (D : List Outline) (dims : List ℕ) (place : ℕ) (d : Outline) → place < length dims → slice_get D (get_or dims place 0) ≡ Some d
    → axes_of D (drop place dims) ≡ d ∷ axes_of D (drop (place + 1) dims)
axes-from D dims place d low found = rw (drop_more dims place 0 low) (rw found refl)

pub axes-past : (D : List Outline) (dims : List ℕ) (place : ℕ) → length dims ≤ place → axes_of D (drop place dims) ≡ []
axes-past D dims place past = ap (axes_of D) (drop_all place dims past)
