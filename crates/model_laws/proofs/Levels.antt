-- The level of a cell.
use Rattle.std.proofs.Common.{◌≡◌, refl, sym, ◌∙◌, arith, subst, ℕ, zero, suc, ◌+◌, ◌<◌, Bool, true, false, ℤ, List, [], ◌∷◌, length, set, get_or, Option, None, Some, eqb, sum_by, nat_lt}
use Rattle.std.specs.Prelude.{slice_get}
use Rattle.std.specs.List.{All, zip, cons_option, filter_map}
use Rattle.std.proofs.lemmas.Bool.{and_parts, ltb-true, eqb-true}
use Rattle.std.proofs.lemmas.List.Elements.{All-head, All-tail, All-nil, All-cons}
use Rattle.std.proofs.lemmas.List.Sums.{sum_by-cons}
use Rattle.dim_order.specs.Levels.{level_over}
use Rattle.dim_core.specs.Outline.{Outline, IsDimension, IsElement, components_of, level}
use Rattle.dim_core.proofs.LevelLaws.{levels-solve}
use Rattle.cube_space.specs.Radix.{are_digits}
use Rattle.cube_space.specs.Layout.{Layout, axes, sizes_of}
use Rattle.cube_space.specs.Cells.{IsSpace, IsCell, cube_of, elements_of, is_leaf, are_leaves, is_leaf_cell}
use Rattle.cube_space.proofs.Places.{cell-place}
use Rattle.rule_model.specs.Order.{cell_level}
pub use Rattle.rule_model.proofs.Shapes.{found_holds as found}
pub use Rattle.rule_model.proofs.LeafCells.{element-of}

-- what holds of all dimensions holds of those of a cube
pub found_all : {X : Type 0} (P : X → Type 0) (xs : List X) (places : List ℕ) → All P xs → All P (filter_map (slice_get xs) places)
found_all P xs [] all = All-nil P
found_all P xs (i ∷ places) all = by (slice_get xs i) refl (found_all P xs places all)
  where
    by : (o : Option _) → slice_get xs i ≡ o → All P (filter_map (slice_get xs) places) → All P (cons_option o (filter_map (slice_get xs) places))
    by None is rest = rest
    by (Some x) is rest = All-cons P x (filter_map (slice_get xs) places) (found P xs i x all is) rest

-- ---- an element

over-leaf : (f : ℕ → ℕ) (parts : List (ℕ × ℤ)) → eqb (length parts) 0 ≡ true → level_over f parts ≡ 0
over-leaf f [] leaf = refl
over-leaf f (part ∷ parts) leaf = absurd (omega (arith, eqb-true (length (part ∷ parts)) 0 leaf))

over-total : (f : ℕ → ℕ) (parts : List (ℕ × ℤ)) → eqb (length parts) 0 ≡ false → 0 < level_over f parts
over-total f [] total = absurd (cc)
over-total f (part ∷ parts) total = omega arith

module _ (d : Outline) (dim : IsDimension d) (element : ℕ) (here : IsElement d element) where
  leaf-level : is_leaf d element ≡ true → level d element ≡ 0
  leaf-level leaf = levels-solve d dim element here ∙ over-leaf (level d) (components_of d element) leaf

  total-level : is_leaf d element ≡ false → 0 < level d element
  total-level total =
      let same = levels-solve d dim element here in
      omega (arith, same, over-total (level d) (components_of d element) total)

-- ---- elements

abbrev pub level_sum : List Outline → List ℕ → ℕ
level_sum ds elements = sum_by (λ p. level p.0 p.1) (zip ds elements)

level_sum-cons : (d : Outline) (ds : List Outline) (e : ℕ) (elements : List ℕ) → level_sum (d ∷ ds) (e ∷ elements) ≡ level d e + level_sum ds elements
level_sum-cons d ds e elements = sum_by-cons (λ p. level p.0 p.1) (d, e) (zip ds elements)

leaves-level : (ds : List Outline) (elements : List ℕ) → All IsDimension ds → are_digits (sizes_of ds) elements ≡ true → are_leaves ds elements ≡ true → level_sum ds elements ≡ 0
leaves-level [] elements dims are leaves = refl
leaves-level (d ∷ ds) [] dims are leaves = refl
leaves-level (d ∷ ds) (e ∷ elements) dims are leaves =
    let parts = and_parts (nat_lt e (length d.elements)) (are_digits (sizes_of ds) elements) are in
    let tests = and_parts (is_leaf d e) (are_leaves ds elements) leaves in
    let here = leaf-level d (All-head IsDimension d ds dims) e (ltb-true e (length d.elements) parts.0) tests.0 in
    let rest = leaves-level ds elements (All-tail IsDimension d ds dims) parts.1 tests.1 in
    omega (arith, level_sum-cons d ds e elements, here, rest)

totals-level : (ds : List Outline) (elements : List ℕ) → All IsDimension ds → are_digits (sizes_of ds) elements ≡ true → are_leaves ds elements ≡ false → 0 < level_sum ds elements
totals-level [] elements dims are total = absurd (cc)
totals-level (d ∷ ds) [] dims are total = absurd (cc)
totals-level (d ∷ ds) (e ∷ elements) dims are total =
    by (is_leaf d e) refl (totals-level ds elements (All-tail IsDimension d ds dims) parts.1)
  where
    parts : (nat_lt e (length d.elements) ≡ true) × (are_digits (sizes_of ds) elements ≡ true)
    parts = and_parts (nat_lt e (length d.elements)) (are_digits (sizes_of ds) elements) are

    by : (b : Bool) → is_leaf d e ≡ b → (are_leaves ds elements ≡ false → 0 < level_sum ds elements) → 0 < level_sum (d ∷ ds) (e ∷ elements)
    by false is later =
        let here = total-level d (All-head IsDimension d ds dims) e (ltb-true e (length d.elements) parts.0) is in
        omega (arith, level_sum-cons d ds e elements, here)
    by true is later =
        let rest = later (rw is at total) in
        omega (arith, level_sum-cons d ds e elements, rest)

-- an element of a smaller level in place of one
pub lower-level : (ds : List Outline) (elements : List ℕ) (k : ℕ) (d : Outline) (part : ℕ) → slice_get ds k ≡ Some d → k < length elements → level d part < level d (get_or elements k 0)
    → level_sum ds (set elements k part) < level_sum ds elements
lower-level [] elements k d part is within lower = absurd (cc)
lower-level (x ∷ ds) [] k d part is within lower = absurd (omega arith)
lower-level (x ∷ ds) (e ∷ elements) zero d part is within lower =
    let same : x ≡ d = cc in
    let here : level x part < level x e = subst (λ (o : Outline). level o part < level o e) (sym same) lower in
    omega (arith, level_sum-cons x ds e elements, level_sum-cons x ds part elements, here)
lower-level (x ∷ ds) (e ∷ elements) (suc k) d part is within lower =
    let rest = lower-level ds elements k d part is (omega arith) lower in
    omega (arith, level_sum-cons x ds e elements, level_sum-cons x ds e (set elements k part), rest)

-- ---- a cell

module _ (space : Layout) (valid : IsSpace space) where
  pub axes-are : (cube : ℕ) → All IsDimension (axes space cube)
  axes-are cube = found_all IsDimension space.dimensions _ valid.dimensions

  pub axis-is : (cube k : ℕ) (d : Outline) → slice_get (axes space cube) k ≡ Some d → IsDimension d
  axis-is cube k d at = found IsDimension (axes space cube) k d (axes-are cube) at

  pub leaf_cell-level : (c : ℕ) → IsCell space c → is_leaf_cell space c ≡ true → cell_level space c ≡ 0
  unfolding is_leaf_cell cell_level
  leaf_cell-level c cell leaf = leaves-level (axes space (cube_of space c)) (elements_of space c) (axes-are (cube_of space c)) (cell-place space c cell).place.digits leaf

  pub total_cell-level : (c : ℕ) → IsCell space c → is_leaf_cell space c ≡ false → 0 < cell_level space c
  unfolding is_leaf_cell cell_level
  total_cell-level c cell total = totals-level (axes space (cube_of space c)) (elements_of space c) (axes-are (cube_of space c)) (cell-place space c cell).place.digits total
