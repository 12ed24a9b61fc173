-- The runs of a space.
use Rattle.std.proofs.Common.{◌≡◌, ℕ, zero, suc, ◌+◌, ◌-◌, ◌<◌, ◌≤◌, ◌⊎◌, inl, inr, true, false, None, List, [], ◌∷◌, ◌++◌, length, get_or, refl, ap, sym, ◌∙◌, subst, arith, leb, All, slice_get}
use Rattle.std.specs.List.{AllWithin}
use Rattle.std.specs.List.Sorted.{IsPartitionedBy}
use Rattle.std.proofs.lemmas.Bool.{leb-true, leb-false, le-leb, cases_lt}
use Rattle.std.proofs.lemmas.List.{get_or-map, get_or_append_left, get_or_push}
use Rattle.std.proofs.lemmas.Option.{slice_get-get_or, none-some}
use Rattle.cube_space.specs.declared.run.Run.{Run}
use Rattle.cube_space.specs.declared.shape.CubeShape.{CubeShape}
use Rattle.cube_space.specs.Radix.{product, are_digits, number_of}
use Rattle.cube_space.specs.Layout.{Layout, sizes, dims_of}
use Rattle.cube_space.specs.Cells.{IsSpace, IsCell, size_of, first_cell, cell_count, cell_at}
use Rattle.cube_space.specs.Inside.Kept.{IsRunOf, IsNumbered}
use Rattle.cube_space.proofs.AxisSizes.{length-axes_of}
use Rattle.cube_space.proofs.Places.{IsPlace, place_number, cell_at-place, first_cell-none, first_cell-least, run_within}

-- the run that stands at a cube's place is the cube's
pub run-at : (layout seen : Layout) (runs : List Run) (cube : ℕ) (run : Run) → IsNumbered layout runs → layout ≡ seen → cube < length seen.cubes → run ≡ get_or runs cube run → IsRunOf seen cube run
run-at layout seen runs cube run kept same h is =
    let Here : Layout → Type 0 = λ l. cube < length l.cubes in
    let there : cube < length layout.cubes = subst Here (sym same) h in
    let own = kept.run cube run (omega (arith, kept.paired, there)) in
    let P : Run → Type 0 = IsRunOf layout cube in
    let Q : Layout → Type 0 = λ l. IsRunOf l cube run in
    subst Q same (subst P (sym is) own)

-- without runs there are no cells
pub no-runs : (layout seen : Layout) (runs : List Run) → IsNumbered layout runs → layout ≡ seen → None ≡ slice_get runs (length runs - 1) → 0 ≡ size_of seen
no-runs layout seen runs kept same none =
    let Counted : Layout → Type 0 = λ l. 0 ≡ size_of l in
    subst Counted same (by (cases_lt 0 (length runs)))
  where
    some : Run
    some = record { first = 0; end = 0; sizes = [] }

    by : (0 < length runs) ⊎ (length runs ≤ 0) → 0 ≡ size_of layout
    by (inl h) = absurd (none-some (get_or runs (length runs - 1) some) (none ∙ slice_get-get_or runs (length runs - 1) some (omega arith)))
    by (inr h) =
        let e : length layout.cubes ≡ 0 = omega (arith, kept.paired) in
        sym (ap (first_cell layout) e ∙ first_cell-none layout)

-- runs that end above a cell come after those that don't
pub ends-parted : (layout : Layout) (runs : List Run) (cell : ℕ) → IsNumbered layout runs → IsPartitionedBy (λ run. leb run.end cell) runs
ends-parted layout runs cell kept i j d h k t =
    let low = (kept.run i d (omega arith)).end in
    let high = (kept.run j d k).end in
    let rises = first_cell-least layout (suc i) (suc j) (omega arith) in
    le-leb _ cell (omega (arith, low, high, rises, leb-true _ cell t))

-- the cube whose run has the cell
pub record IsFound (layout : Layout) (cell cube : ℕ) : Type 0 where
  pub there : cube < length layout.cubes
  pub from : first_cell layout cube ≤ cell
  pub before : cell < first_cell layout (suc cube)

pub found : (layout : Layout) (runs : List Run) (cell cube : ℕ) → IsNumbered layout runs → IsCell layout cell → cube ≤ length runs
    → AllWithin (λ run. leb run.end cell ≡ true) runs 0 cube → AllWithin (λ run. leb run.end cell ≡ false) runs cube (length runs) → IsFound layout cell cube
found layout runs cell cube kept h few passes fails =
    let from = begins cube few passes in
    let there = within (cases_lt cube (length layout.cubes)) from in
    let own = kept.run cube some (omega (arith, kept.paired, there)) in
    let ends = leb-false _ cell (fails cube some (omega arith) (omega (arith, kept.paired, there))) in
    record { there = there; from = from; before = omega (arith, own.end, ends) }
  where
    some : Run
    some = record { first = 0; end = 0; sizes = [] }

    begins : (n : ℕ) → n ≤ length runs → AllWithin (λ run. leb run.end cell ≡ true) runs 0 n → first_cell layout n ≤ cell
    begins zero less all = omega (arith, first_cell-none layout)
    begins (suc n) less all =
        let own = kept.run n some (omega arith) in
        omega (arith, own.end, leb-true _ cell (all n some (omega arith) (omega arith)))

    within : (cube < length layout.cubes) ⊎ (length layout.cubes ≤ cube) → first_cell layout cube ≤ cell → cube < length layout.cubes
    within (inl yet) from = yet
    within (inr past) from = absurd (omega (arith, first_cell-least layout (length layout.cubes) cube past, from, h))

pub found-at : (layout seen : Layout) (runs shown : List Run) (cell cube : ℕ) → IsNumbered layout runs → layout ≡ seen → shown ≡ runs → IsCell seen cell → cube ≤ length shown
    → AllWithin (λ run. leb run.end cell ≡ true) shown 0 cube → AllWithin (λ run. leb run.end cell ≡ false) shown cube (length shown) → IsFound seen cell cube
found-at layout seen runs shown cell cube kept same is h few passes fails =
    let Has : Layout → Type 0 = λ l. IsCell l cell in
    let Kept : List Run → Type 0 = IsNumbered layout in
    let Found : Layout → Type 0 = λ l. IsFound l cell cube in
    subst Found same (found layout shown cell cube (subst Kept (sym is) kept) (subst Has (sym same) h) few passes fails)

-- the digits of a run's sizes are a place, and the number is counted from the run's first cell
pub run-place : (layout : Layout) (cube : ℕ) (run : Run) (sizes' elements : List ℕ) → IsRunOf layout cube run → cube < length layout.cubes → sizes' ≡ run.sizes → are_digits sizes' elements ≡ true
    → IsPlace layout cube elements × (run.first + number_of sizes' elements ≡ place_number layout cube elements)
run-place layout cube run sizes' elements own h s are =
    let same : sizes' ≡ sizes layout cube = s ∙ own.sizes in
    let Are : List ℕ → Type 0 = λ ss. are_digits ss elements ≡ true in
    (record { there = h; digits = subst Are same are }, rw (own.first, same) refl)

-- a cube has no more cells than there are
pub run-fits : (layout : Layout) (cube : ℕ) (run : Run) (sizes' : List ℕ) → IsRunOf layout cube run → cube < length layout.cubes → sizes' ≡ run.sizes → product sizes' ≤ size_of layout
run-fits layout cube run sizes' own h s =
    let e : product sizes' ≡ cell_count layout cube = ap product (s ∙ own.sizes) in
    omega (arith, e, run_within layout cube h)

-- a cube has as many sizes as dimensions, at most 16
pub few-sizes : (layout : Layout) (cube : ℕ) → IsSpace layout → cube < length layout.cubes → length (sizes layout cube) ≤ 16
few-sizes layout cube valid h =
    let shape = get_or layout.cubes cube (some layout.cubes (omega arith)) in
    let d = some layout.cubes (omega arith) in
    let dims : dims_of layout cube ≡ shape.dims = get_or-map (λ s. s.dims) layout.cubes cube d [] h in
    let P : List ℕ → Type 0 = All (λ dim. dim < length layout.dimensions) in
    let count = length-axes_of layout.dimensions (dims_of layout cube) (subst P (sym dims) (valid.layout.in_range cube d h)) in
    let few = (valid.counts cube d h).1 in
    omega (arith, count, few, ap length dims)
  where
    some : (shapes : List CubeShape) → 0 < length shapes → CubeShape
    some [] none = absurd (omega arith)
    some (first ∷ rest) none = first

-- the digits that were written for a number in a cube's run are the cell's elements
pub written-cell : (layout : Layout) (cube : ℕ) (run : Run) (sizes' places : List ℕ) (cell : ℕ) → IsRunOf layout cube run → cube < length layout.cubes → sizes' ≡ run.sizes
    → are_digits sizes' places ≡ true → number_of sizes' places ≡ cell - run.first → first_cell layout cube ≤ cell → cell_at layout cell ≡ record { cube = cube; elements = places }
written-cell layout cube run sizes' places cell own h s are is from =
    let place = run-place layout cube run sizes' places own h s are in
    let number : place_number layout cube places ≡ cell = sym place.1 ∙ omega (arith, is, own.first, from) in
    ap (cell_at layout) (sym number) ∙ cell_at-place layout cube places place.0

-- one more run
pub runs-more : (layout : Layout) (runs more : List Run) (count : ℕ) (run : Run) → length runs ≡ count → more ≡ runs ++ run ∷ [] → ((k : ℕ) (d : Run) → k < count → IsRunOf layout k (get_or runs k d)) → IsRunOf layout count run
    → (k : ℕ) (d : Run) → k < count + 1 → IsRunOf layout k (get_or more k d)
runs-more layout runs more count run counted pushed before last k d h =
    let P : List Run → Type 0 = λ rs. IsRunOf layout k (get_or rs k d) in
    subst P (sym pushed) (by (cases_lt k count))
  where
    by : (k < count) ⊎ (count ≤ k) → IsRunOf layout k (get_or (runs ++ run ∷ []) k d)
    by (inl below) =
        let Q : Run → Type 0 = IsRunOf layout k in
        subst Q (sym (get_or_append_left runs (run ∷ []) d k (omega (arith, below, counted)))) (before k d below)
    by (inr above) =
        let Q : Run → Type 0 = IsRunOf layout k in
        let e : count ≡ k = omega (arith, above, h) in
        let R : ℕ → Type 0 = λ n. IsRunOf layout n run in
        subst Q (sym (get_or_push runs run d k (counted ∙ e))) (subst R e last)
