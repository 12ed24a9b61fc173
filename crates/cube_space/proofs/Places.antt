-- Cells and their places: the cell of a place stands in the list of all cells at the place's number.
use Rattle.std.proofs.Common.{◌≡◌, ℕ, zero, suc, ◌+◌, ◌-◌, ◌<◌, ◌≤◌, inl, inr, true, false, Some, None, List, [], ◌∷◌, ◌++◌, length, get_or, take, refl, ap, sym, ◌∙◌, subst, arith, zero-add, length-append, nat_lt}
use Rattle.std.specs.List.{flat_map, range_with_len}
use Rattle.std.proofs.lemmas.Bool.{and_parts, and_from, ltb-true, lt-ltb, cases_lt}
use Rattle.std.proofs.lemmas.List.{get_or-map, length-map}
use Rattle.std.proofs.lemmas.List.Concat.{get_or-flat_map}
use Rattle.std.proofs.lemmas.List.FromFn.{length-range_with_len, get_or-range_with_len}
use Rattle.std.proofs.lemmas.Grind.{flat_map-append}
use Rattle.cube_space.specs.Radix.{are_digits, all_digits, number_of}
use Rattle.cube_space.specs.Layout.{Layout, sizes}
use Rattle.cube_space.specs.Cells.{Cell, cells_of, all_cells, cell_at, cell_count, first_cell, size_of, is_place, IsCell, cell_number, cube_of, elements_of}
use Rattle.cube_space.proofs.Radix.{length-all_digits, all_digits-at, number-below, number-digits, take-range}

pub range-more : (a n : ℕ) → range_with_len a (suc n) ≡ range_with_len a n ++ (a + n) ∷ []
range-more a zero = ap (λ m. m ∷ []) (let e : a ≡ a + 0 = omega arith in e)
range-more a (suc n) = let e : a + suc n ≡ a + 1 + n = omega arith in rw e (ap (λ xs. a ∷ xs) (range-more (a + 1) n))

pub length-cells_of : (layout : Layout) (cube : ℕ) → length (cells_of layout cube) ≡ cell_count layout cube
length-cells_of layout cube = length-map (all_digits (sizes layout cube)) (λ elements. record { cube = cube; elements = elements }) ∙ length-all_digits (sizes layout cube)

-- the cells of the first cubes are as many as the next one's first number
pub first_cell-counts : (layout : Layout) (cube : ℕ) → length (flat_map (cells_of layout) (range_with_len 0 cube)) ≡ first_cell layout cube
unfolding first_cell
first_cell-counts layout zero = refl
first_cell-counts layout (suc cube) =
    let more = range-more 0 cube in
    let split = flat_map-append (cells_of layout) (range_with_len 0 cube) ((0 + cube) ∷ []) in
    let there : 0 + cube ≡ cube = omega arith in
    let counted = length-append (flat_map (cells_of layout) (range_with_len 0 cube)) (cells_of layout (0 + cube) ++ []) in
    let last = length-append (cells_of layout (0 + cube)) [] in
    let own = length-cells_of layout (0 + cube) ∙ ap (cell_count layout) there in
    ap (λ cubes. length (flat_map (cells_of layout) cubes)) more ∙ ap length split ∙ omega (arith, counted, last, own, first_cell-counts layout cube)

pub first_cell-next : (layout : Layout) (cube : ℕ) → first_cell layout (suc cube) ≡ first_cell layout cube + cell_count layout cube
unfolding first_cell
first_cell-next layout cube = refl

pub first_cell-none : (layout : Layout) → first_cell layout 0 ≡ 0
unfolding first_cell
first_cell-none layout = refl

pub first_cell-rises : (layout : Layout) (cube more : ℕ) → first_cell layout cube ≤ first_cell layout (cube + more)
first_cell-rises layout cube zero = let e : cube + 0 ≡ cube = omega arith in rw e (omega arith)
first_cell-rises layout cube (suc more) =
    let e : cube + suc more ≡ suc (cube + more) = omega arith in
    rw e (omega (arith, first_cell-next layout (cube + more), first_cell-rises layout cube more))

pub first_cell-least : (layout : Layout) (low high : ℕ) → low ≤ high → first_cell layout low ≤ first_cell layout high
first_cell-least layout low high h =
    let e : low + (high - low) ≡ high = omega arith in
    subst (λ n. first_cell layout low ≤ first_cell layout n) e (first_cell-rises layout low (high - low))

-- a cube has its cells before those of the next, and all are within the count of cells
pub run_within : (layout : Layout) (cube : ℕ) → cube < length layout.cubes → first_cell layout cube + cell_count layout cube ≤ size_of layout
run_within layout cube h =
    omega (arith, first_cell-next layout cube, first_cell-least layout (suc cube) (length layout.cubes) (omega arith))

-- the list of all cells has as many as there are
pub length-all_cells : (layout : Layout) → length (all_cells layout) ≡ size_of layout
unfolding all_cells
length-all_cells layout = first_cell-counts layout (length layout.cubes)

-- a place: its cube is there, and its elements are digits for the sizes of the cube's dimensions
pub record IsPlace (layout : Layout) (cube : ℕ) (elements : List ℕ) : Type 0 where
  pub there : cube < length layout.cubes
  pub digits : are_digits (sizes layout cube) elements ≡ true

pub is_place-parts : (layout : Layout) (cube : ℕ) (elements : List ℕ) → is_place layout cube elements ≡ true → IsPlace layout cube elements
is_place-parts layout cube elements h =
    let parts = and_parts (nat_lt cube (length layout.cubes)) (are_digits (sizes layout cube) elements) h in
    record { there = ltb-true cube (length layout.cubes) parts.0; digits = parts.1 }

pub is_place-from : (layout : Layout) (cube : ℕ) (elements : List ℕ) → IsPlace layout cube elements → is_place layout cube elements ≡ true
is_place-from layout cube elements p = and_from _ _ (lt-ltb cube (length layout.cubes) p.there) p.digits

-- the number of a place
abbrev pub place_number : Layout → ℕ → List ℕ → ℕ
place_number layout cube elements = first_cell layout cube + number_of (sizes layout cube) elements

pub cell_number-place : (layout : Layout) (cube : ℕ) (elements : List ℕ) → IsPlace layout cube elements → cell_number layout cube elements ≡ Some (place_number layout cube elements)
unfolding cell_number
cell_number-place layout cube elements p = rw (is_place-from layout cube elements p) refl

pub cell_number-none : (layout : Layout) (cube : ℕ) (elements : List ℕ) → is_place layout cube elements ≡ false → None ≡ cell_number layout cube elements
unfolding cell_number
cell_number-none layout cube elements h = rw h refl

pub place-within : (layout : Layout) (cube : ℕ) (elements : List ℕ) → IsPlace layout cube elements → IsCell layout (place_number layout cube elements)
place-within layout cube elements p =
    omega (arith, run_within layout cube p.there, number-below (sizes layout cube) elements p.digits)

-- the cell of a place's number is that place
pub cell_at-place : (layout : Layout) (cube : ℕ) (elements : List ℕ) → IsPlace layout cube elements → cell_at layout (place_number layout cube elements) ≡ record { cube = cube; elements = elements }
unfolding cell_at all_cells
cell_at-place layout cube elements p =
    let none : Cell = record { cube = 0; elements = [] } in
    let cubes = range_with_len 0 (length layout.cubes) in
    let number = number_of (sizes layout cube) elements in
    let here : get_or cubes cube 0 ≡ cube = get_or-range_with_len 0 (length layout.cubes) cube 0 p.there ∙ zero-add cube in
    let within : cube < length cubes = omega (arith, length-range_with_len 0 (length layout.cubes), p.there) in
    let below = number-below (sizes layout cube) elements p.digits in
    let short : number < length (cells_of layout (get_or cubes cube 0)) = rw here (omega (arith, length-cells_of layout cube, below)) in
    let before : length (flat_map (cells_of layout) (take cube cubes)) ≡ first_cell layout cube =
    ap (λ few. length (flat_map (cells_of layout) few)) (take-range (length layout.cubes) cube (omega (arith, p.there))) ∙ first_cell-counts layout cube in
    let among : number < length (all_digits (sizes layout cube)) = omega (arith, length-all_digits (sizes layout cube), below) in
    ap (λ n. get_or (flat_map (cells_of layout) cubes) (n + number) none) (sym before)
    ∙ get_or-flat_map (cells_of layout) cubes cube number 0 none within short
    ∙ ap (λ n. get_or (cells_of layout n) number none) here
    ∙ get_or-map (λ es. record { cube = cube; elements = es }) (all_digits (sizes layout cube)) number [] none among
    ∙ ap (λ es. record { cube = cube; elements = es }) (all_digits-at (sizes layout cube) elements [] p.digits)

-- a number between a cube's first cell and the next cube's is that of a place in the cube
record IsInRun (layout : Layout) (number cube : ℕ) : Type 0 where
  pub there : cube < length layout.cubes
  pub from : first_cell layout cube ≤ number
  pub before : number < first_cell layout (suc cube)

run-of : (layout : Layout) (number count : ℕ) → count ≤ length layout.cubes → number < first_cell layout count → (cube : ℕ) × IsInRun layout number cube
run-of layout number zero few h = absurd (omega (arith, first_cell-none layout))
run-of layout number (suc count) few h =
    elim (cases_lt number (first_cell layout count)) [
      | inl below ↦ run-of layout number count (omega arith) below
      | inr above ↦ (count, record { there = omega arith; from = above; before = h })
    ]

-- each cell has a place, and its number is the cell
pub record HasPlace (layout : Layout) (cell : ℕ) : Type 0 where
  pub place : IsPlace layout (cube_of layout cell) (elements_of layout cell)
  pub number : place_number layout (cube_of layout cell) (elements_of layout cell) ≡ cell

pub cell-place : (layout : Layout) (cell : ℕ) → IsCell layout cell → HasPlace layout cell
cell-place layout cell h =
    let run = run-of layout cell (length layout.cubes) (omega arith) h in
    let next = first_cell-next layout run.0 in
    let digits = number-digits (sizes layout run.0) (cell - first_cell layout run.0) (omega (arith, next, run.1.from, run.1.before)) in
    let place : IsPlace layout run.0 digits.0 = record { there = run.1.there; digits = digits.1 } in
    let number : place_number layout run.0 digits.0 ≡ cell = omega (arith, digits.2, run.1.from) in
    let same : cell_at layout cell ≡ record { cube = run.0; elements = digits.0 } =
    ap (cell_at layout) (sym number) ∙ cell_at-place layout run.0 digits.0 place in
    let Has : Cell → Type 0 = λ c. IsPlace layout c.cube c.elements in
    record {
      place = subst Has (sym same) place;
      number = ap (λ c. place_number layout c.cube c.elements) same ∙ number;
    }

-- the number of a cell's own place is the cell
pub cell_number-cell : (layout : Layout) (cell : ℕ) → IsCell layout cell → cell_number layout (cube_of layout cell) (elements_of layout cell) ≡ Some cell
cell_number-cell layout cell h =
    let has = cell-place layout cell h in
    cell_number-place layout _ _ has.place ∙ ap Some has.number
