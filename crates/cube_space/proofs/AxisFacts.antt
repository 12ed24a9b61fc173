-- The dimensions of a cube, one by one, by the numbers in its shape.
use Rattle.std.proofs.Common.{◌≡◌, ◌<◌, ◌≤◌, ◌∙◌, ℕ, zero, suc, Bool, true, false, List, [], ◌∷◌, length, Some, None, All, refl, sym, ap, arith, cond, nat_lt, get_or, position, slice_get}
use Rattle.std.proofs.lemmas.Bool.{lt-ltb, le-ltb}
use Rattle.std.proofs.lemmas.List.{length-map}
use Rattle.std.proofs.lemmas.List.Sums.{position_or_len_is}
use Rattle.std.proofs.lemmas.Option.{slice_get_within, slice_get-get_or, get_or_from_slice_get}
use Rattle.dim_core.specs.Outline.{Outline}
use Rattle.cube_space.specs.declared.shape.CubeShape.{CubeShape}
use Rattle.cube_space.specs.Layout.{Layout, axes, axes_of, fewest_dimensions, most_dimensions}
use Rattle.cube_space.specs.Cells.{IsSpace}
use Rattle.cube_space.proofs.AxisSizes.{length-axes_of}
use Rattle.cube_space.proofs.CubeDims.{dims_are, dims_within}
use Rattle.lists.proofs.Found.{found_holds}

nothing : Outline
nothing = record { name = []; elements = []; attributes = [] }

-- at each place stands the dimension of the number there
axes_at : (D : List Outline) (dims : List ℕ) (place : ℕ) → All (λ dim. dim < length D) dims → place < length dims → slice_get D (get_or dims place 0) ≡ slice_get (axes_of D dims) place
axes_at D [] place all low = absurd (omega (arith, low))
axes_at D (dim ∷ dims) zero all low = rw (slice_get-get_or D dim nothing (all 0 0 (omega arith))) refl
axes_at D (dim ∷ dims) (suc place) all low =
    rw (slice_get-get_or D dim nothing (all 0 0 (omega arith))) (axes_at D dims place (λ k d below. all (suc k) d (omega (arith, below))) (omega (arith, low)))

module _ (space : Layout) (cube : ℕ) (shape : CubeShape) (valid : IsSpace space) (is : slice_get space.cubes cube ≡ Some shape) where
  pub dims_few : length shape.dims ≤ most_dimensions
  dims_few = (found_holds (λ s. (fewest_dimensions ≤ length s.dims) × (length s.dims ≤ most_dimensions)) space.cubes cube shape valid.counts is).1

  -- a cube has as many dimensions as its shape has numbers
  pub axes_count : length (axes space cube) ≡ length shape.dims
  axes_count =
      ap (λ dims. length (axes_of space.dimensions dims)) (dims_are space cube shape valid is)
      ∙ sym (length-map (axes_of space.dimensions shape.dims) (λ d. length d.elements)) ∙ length-axes_of space.dimensions shape.dims (dims_within space cube shape valid is)

  module _ (dims : List ℕ) (place : ℕ) (same : dims ≡ shape.dims) (there : place < length (axes space cube)) where
    own_place : place < length shape.dims
    own_place = omega (arith, there, axes_count)

    pub place_within : place < length dims
    place_within = omega (arith, own_place, ap length same)

    pub number_within : get_or dims place 0 < length space.dimensions
    number_within = rw same (dims_within space cube shape valid is place 0 own_place)

    pub number_is : slice_get space.dimensions (get_or dims place 0) ≡ slice_get (axes space cube) place
    number_is =
        ap (λ l. slice_get space.dimensions (get_or l place 0)) same ∙ axes_at space.dimensions shape.dims place (dims_within space cube shape valid is) own_place
        ∙ sym (ap (λ l. slice_get (axes_of space.dimensions l) place) (dims_are space cube shape valid is))

-- the first place that passes a test
pub first_place : {A : Type 0} (test : A → Bool) (xs : List A) (i : ℕ) (x : A) → slice_get xs i ≡ Some x → test x ≡ true → ((k : ℕ) → k < i → (y : A) → slice_get xs k ≡ Some y → test y ≡ false) → Some i ≡ position test xs
first_place test xs i x is passes before =
    let low = slice_get_within xs i x is in
    let first = position_or_len_is test xs i x (omega (arith, low)) (λ k earlier. before k earlier (get_or xs k x) (slice_get-get_or xs k x (omega (arith, earlier, low)))) (λ _. ap test (get_or_from_slice_get xs i x x is) ∙ passes) in
    sym (ap (λ n. cond (nat_lt n (length xs)) (Some n) None) first ∙ ap (λ b. cond b (Some i) None) (lt-ltb i (length xs) low))

pub no_place : {A : Type 0} (test : A → Bool) (xs : List A) → ((k : ℕ) → k < length xs → (y : A) → slice_get xs k ≡ Some y → test y ≡ false) → None ≡ position test xs
no_place test [] none = refl
no_place test (x ∷ xs) none =
    let n : ℕ = length (x ∷ xs) in
    let first = position_or_len_is test (x ∷ xs) n x (omega arith) (λ k low. none k low (get_or (x ∷ xs) k x) (slice_get-get_or (x ∷ xs) k x low)) (λ past. absurd (omega (arith, past))) in
    sym (ap (λ k. cond (nat_lt k n) (Some k) None) first ∙ ap (λ b. cond b (Some n) None) (le-ltb n n (omega arith)))
