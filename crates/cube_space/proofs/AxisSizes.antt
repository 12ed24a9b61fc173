-- The dimensions of a cube and their sizes.
use Rattle.std.proofs.Common.{◌≡◌, ℕ, ◌<◌, List, [], ◌∷◌, map, length, get_or, refl, ap, sym, ◌∙◌, arith, All, slice_index}
use Rattle.std.proofs.lemmas.List.{get_or-map, length-map}
use Rattle.std.proofs.lemmas.Option.{slice_get-get_or}
use Rattle.dim_core.specs.Outline.{Outline}
use Rattle.cube_space.specs.Layout.{axes_of, sizes_of}
pub use Rattle.std.proofs.lemmas.List.Elements.{All-tail as All-rest}

-- the first of the numbers names a dimension, and the others stay
pub axes_of-cons : (dimensions : List Outline) (dim : ℕ) (dims : List ℕ) (d : Outline) → dim < length dimensions → axes_of dimensions (dim ∷ dims) ≡ get_or dimensions dim d ∷ axes_of dimensions dims
axes_of-cons dimensions dim dims d h = rw (slice_get-get_or dimensions dim d h) refl

pub element-count : (dimensions : List Outline) (dim : ℕ) (d : Outline) → dim < length dimensions → slice_index (sizes_of dimensions) dim ≡ length (get_or dimensions dim d).elements
element-count dimensions dim d h = get_or-map (λ dimension. length dimension.elements) dimensions dim d 0 h

some-dimension : (dimensions : List Outline) (dim : ℕ) → dim < length dimensions → Outline
some-dimension [] dim h = absurd (omega arith)
some-dimension (dimension ∷ dimensions) dim h = dimension

-- the sizes of a cube's dimensions are those that the counts of all dimensions give
pub sizes-by_counts : (dimensions : List Outline) (dims : List ℕ) → All (λ dim. dim < length dimensions) dims → map (slice_index (sizes_of dimensions)) dims ≡ sizes_of (axes_of dimensions dims)
sizes-by_counts dimensions [] all = refl
sizes-by_counts dimensions (dim ∷ dims) all =
    let h = all 0 0 (omega arith) in
    let d = some-dimension dimensions dim h in
    rw (axes_of-cons dimensions dim dims d h, element-count dimensions dim d h)
    (ap (λ sizes. length (get_or dimensions dim d).elements ∷ sizes) (sizes-by_counts dimensions dims (All-rest (λ n. n < length dimensions) dim dims all)))

pub length-axes_of : (dimensions : List Outline) (dims : List ℕ) → All (λ dim. dim < length dimensions) dims → length (sizes_of (axes_of dimensions dims)) ≡ length dims
length-axes_of dimensions dims all =
    ap length (sym (sizes-by_counts dimensions dims all)) ∙ length-map dims (slice_index (sizes_of dimensions))
