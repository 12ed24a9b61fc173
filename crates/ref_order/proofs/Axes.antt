-- The dimensions of a cube, as they are found by number.
use Rattle.std.proofs.Common.{◌≡◌, refl, sym, ap, ◌∙◌, arith, subst, ℕ, zero, suc, ◌<◌, ◌≤◌, Option, Some, None, List, [], ◌∷◌, length, All}
use Rattle.std.specs.Prelude.{slice_get, slice_index_or}
use Rattle.dim_core.specs.Outline.{Outline}
use Rattle.cube_space.specs.declared.shape.CubeShape.{CubeShape}
use Rattle.cube_space.specs.Layout.{Layout, axes, axes_of, sizes}
use Rattle.cube_space.specs.Cells.{IsSpace}
use Rattle.rule_model.proofs.Shapes.{shape_dims, axes_length, dims_within, dims_few}
use Rattle.order_laws.proofs.ChildFacts.{size-at}
pub use Rattle.lists.proofs.Found.{there as shape-there}

-- a cube has at most 16 dimensions
pub axes-few : (space : Layout) (cube : ℕ) (shape : CubeShape) → IsSpace space → slice_get space.cubes cube ≡ Some shape → length (axes space cube) ≤ 16
axes-few space cube shape valid is =
    omega (arith, dims_few space cube shape valid is, ap length (shape_dims space cube shape is), axes_length space.dimensions shape.dims (dims_within space cube shape valid is))

axis-found : (D : List Outline) (dims : List ℕ) (i : ℕ) (d : Outline) → All (λ dim. dim < length D) dims → i < length dims → slice_get D (slice_index_or dims i 0) ≡ Some d → slice_get (axes_of D dims) i ≡ Some d
axis-found D [] i d all low is = absurd (omega arith)
axis-found D (k ∷ dims) zero d all low is = rw is refl
axis-found D (k ∷ dims) (suc i) d all low is = by (slice_get D k) refl (all 0 0 (omega arith)) (axis-found D dims i d (λ j e l. all (suc j) e (omega arith)) (omega arith) is)
  where
    past : (D : List Outline) (k : ℕ) → slice_get D k ≡ None → length D ≤ k
    past [] k e = omega arith
    past (x ∷ D) zero e = absurd (cc)
    past (x ∷ D) (suc k) e = omega (arith, past D k e)

    by : (x : Option Outline) → slice_get D k ≡ x → k < length D → slice_get (axes_of D dims) i ≡ Some d → slice_get (Rattle.std.specs.List.cons_option x (axes_of D dims)) (suc i) ≡ Some d
    by None e low is = absurd (omega (arith, past D k e, low))
    by (Some x) e low is = is

-- the place of a dimension is one of its cube's
pub record IsAxis (space own : Layout) (dims : List ℕ) (dim : ℕ) : Type 0 where
  pub low : dim < length dims
  pub number : slice_index_or dims dim 0 < length own.dimensions

pub axis-low : (space own : Layout) (cube dim : ℕ) (shape : CubeShape) (dims : List ℕ) → own ≡ space → IsSpace space → slice_get own.cubes cube ≡ Some shape → dims ≡ shape.dims → dim < length (axes space cube) → IsAxis space own dims dim
axis-low space own cube dim shape dims same valid found named low =
    let here : slice_get space.cubes cube ≡ Some shape = ap (λ (l : Layout). slice_get l.cubes cube) (sym same) ∙ found in
    let within = dims_within space cube shape valid here in
    let long = ap length (shape_dims space cube shape here) ∙ axes_length space.dimensions shape.dims within in
    let as_many : length shape.dims ≡ length dims = ap length (sym named) in
    let few : dim < length shape.dims = omega (arith, low, long) in
    record {
      low = omega (arith, few, as_many);
      number = subst (λ ds. slice_index_or ds dim 0 < length own.dimensions) (sym named) (subst (λ (l : Layout). slice_index_or shape.dims dim 0 < length l.dimensions) (sym same) (within dim 0 few));
    }

pub axis-is : (space own : Layout) (cube dim : ℕ) (shape : CubeShape) (dims : List ℕ) (d : Outline) → own ≡ space → IsSpace space → slice_get own.cubes cube ≡ Some shape → dims ≡ shape.dims → dim < length (axes space cube)
    → slice_get own.dimensions (slice_index_or dims dim 0) ≡ Some d → slice_get (axes space cube) dim ≡ Some d
axis-is space own cube dim shape dims d same valid found named low is =
    let here : slice_get space.cubes cube ≡ Some shape = ap (λ (l : Layout). slice_get l.cubes cube) (sym same) ∙ found in
    let within = dims_within space cube shape valid here in
    let long = ap length (shape_dims space cube shape here) ∙ axes_length space.dimensions shape.dims within in
    let few : dim < length shape.dims = omega (arith, low, long) in
    let at : slice_get space.dimensions (slice_index_or shape.dims dim 0) ≡ Some d = ap (λ (l : Layout). slice_get l.dimensions (slice_index_or shape.dims dim 0)) (sym same) ∙ ap (λ ds. slice_get own.dimensions (slice_index_or ds dim 0)) (sym named) ∙ is in
    ap (λ a. slice_get a dim) (shape_dims space cube shape here) ∙ axis-found space.dimensions shape.dims dim d within few at

pub size-of-axis : (space : Layout) (cube dim : ℕ) (d : Outline) → slice_get (axes space cube) dim ≡ Some d → slice_index_or (sizes space cube) dim 0 ≡ length d.elements
size-of-axis space cube dim d is = size-at (axes space cube) dim d is

pub few-axes : (space : Layout) (cube : ℕ) → IsSpace space → cube < length space.cubes → length (axes space cube) ≤ 16
few-axes space cube valid low = let (shape, is) = shape-there space.cubes cube low in axes-few space cube shape valid is

pub count-is : (space own : Layout) (cube : ℕ) (shape : CubeShape) (dims : List ℕ) → own ≡ space → IsSpace space → slice_get own.cubes cube ≡ Some shape → dims ≡ shape.dims → length dims ≡ length (axes space cube)
count-is space own cube shape dims same valid found named =
    let here : slice_get space.cubes cube ≡ Some shape = ap (λ (l : Layout). slice_get l.cubes cube) (sym same) ∙ found in
    ap length named ∙ sym (ap length (shape_dims space cube shape here) ∙ axes_length space.dimensions shape.dims (dims_within space cube shape valid here))
