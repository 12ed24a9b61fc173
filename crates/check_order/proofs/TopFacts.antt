-- The greatest number of a position is the greatest of what the cubes have there.
use Rattle.std.proofs.Common.{◌≡◌, refl, sym, ap, ◌∙◌, subst, arith, ℕ, ◌+◌, ◌<◌, ◌≤◌, ◌==◌, max, Bool, true, false, if◌then◌else◌, Option, Some, None, List, [], ◌∷◌, length, map, All, inl, inr}
use Rattle.std.specs.Prelude.{slice_get}
use Rattle.std.specs.List.{range_with_len, cons_option}
use Rattle.std.proofs.lemmas.Bool.{cases_lt, eqb-false, ne_eqb}
use Rattle.std.proofs.lemmas.List.{get_or_past as get-past}
use Rattle.std.proofs.lemmas.List.Elements.{All-nil, All-cons}
use Rattle.lists.proofs.Found.{found_holds}
use Rattle.dim_core.specs.Outline.{Outline, IsDimension}
use Rattle.cube_space.specs.Radix.{number_of}
use Rattle.cube_space.proofs.Radix.{number-below}
use Rattle.cube_space.specs.Layout.{axes, axes_of, dims_of, sizes}
use Rattle.cube_space.specs.Cells.{IsSpace, IsCell, cube_of, elements_of, size_of, cell_count, are_leaves, is_leaf_cell}
use Rattle.cube_space.proofs.Places.{cell-place}
use Rattle.rule_model.specs.declared.order.Position.TheVariants.{Constant}
use Rattle.rule_model.specs.BoundModel.{BoundModel, rules_of}
use Rattle.rule_model.specs.Conditions.{AreRules, IsPosition, greatest_rank}
use Rattle.rule_model.specs.Order.{greatest, positions_for, position_of, number_by, number_at, position_size}
use Rattle.order_laws.proofs.CellFacts.{cell-there}
use Rattle.check_order.specs.Inside.Tops.{kind_top, cube_top, top}
use Rattle.check_order.proofs.Greatest.{mapped-within, mapped-holds}
use Rattle.check_order.proofs.KindTops.{IsOfKind, number-within, position-there, top-small}

-- the dimensions of a cube are dimensions
axes-all : (dimensions : List Outline) (dims : List ℕ) → All IsDimension dimensions → All IsDimension (axes_of dimensions dims)
axes-all dimensions [] all = All-nil IsDimension
axes-all dimensions (dim ∷ dims) all = by (slice_get dimensions dim) refl (axes-all dimensions dims all)
  where
    by : (found : Option Outline) → slice_get dimensions dim ≡ found → All IsDimension (axes_of dimensions dims) → All IsDimension (cons_option found (axes_of dimensions dims))
    by None is rest = rest
    by (Some d) is rest = All-cons IsDimension d (axes_of dimensions dims) (found_holds IsDimension dimensions dim d all is) rest

module _ (m : BoundModel) (valid : IsSpace m.space) (ruled : AreRules m.space m.rules) (place : ℕ) where
  -- what the order of a cube has at a position
  pub is-position : (cube : ℕ) → cube < length m.space.cubes → (kind : Bool) → IsPosition (axes m.space cube) (position_of m cube kind place)
  is-position cube there kind = elim (cases_lt place (length (positions_for kind (rules_of m cube).order))) [
    | inl low ↦ (ruled.cube cube there).order.each kind place (Constant 0) low
    | inr high ↦ let none : position_of m cube kind place ≡ Constant 0 = get-past (positions_for kind (rules_of m cube).order) place (Constant 0) high in
        let fits : 0 ≤ greatest_rank = omega arith in
        subst (IsPosition (axes m.space cube)) (sym none) fits
  ]

  -- what holds of the greatest of both kinds holds of a cube's
  abbrev both_tops : ℕ → ℕ
  both_tops cube = max (kind_top m place cube true) (kind_top m place cube false)

  both-within : (cube most : ℕ) → ((kind : Bool) → kind_top m place cube kind ≤ most) → both_tops cube ≤ most
  both-within cube most each = omega (arith, each true, each false)

  kind-within : (cube : ℕ) (kind : Bool) → kind_top m place cube kind ≤ both_tops cube
  kind-within cube true = omega arith
  kind-within cube false = omega arith

  pub cube_top-small : (cube : ℕ) → cube < length m.space.cubes → cube_top m place cube ≤ greatest_rank
  cube_top-small cube there = by (cell_count m.space cube == 0)
    where
      by : (t : Bool) → (if t then 0 else both_tops cube) ≤ greatest_rank
      by true = omega arith
      by false = both-within cube greatest_rank (λ kind. top-small (axes m.space cube) kind (position_of m cube kind place) (is-position cube there kind))

  -- a cell has no more than its cube has
  cell-within : (c : ℕ) → IsCell m.space c → number_at m place c ≤ top m place
  unfolding number_at is_leaf_cell
  cell-within c is =
      let own = (cell-place m.space c is).place in
      let cube : ℕ = cube_of m.space c in
      let kind : Bool = is_leaf_cell m.space c in
      let some : number_of (sizes m.space cube) (elements_of m.space c) < cell_count m.space cube = number-below (sizes m.space cube) (elements_of m.space c) own.digits in
      let of : IsOfKind (axes m.space cube) kind (elements_of m.space c) = record { digits = own.digits; own = refl } in
      let here : number_at m place c ≤ kind_top m place cube kind = number-within (axes m.space cube) kind (position_of m cube kind place) (elements_of m.space c) of (is-position cube own.there kind) in
      let has : cube_top m place cube ≡ both_tops cube = ap (λ t. if t then 0 else both_tops cube) (ne_eqb (cell_count m.space cube) 0 (λ e. omega (arith, some, e))) in
      let most : cube_top m place cube ≤ top m place = mapped-holds (cube_top m place) 0 (length m.space.cubes) cube (omega arith) (omega (arith, own.there)) in
      omega (arith, here, kind-within cube kind, has, most)

  abbrev most : ℕ
  most = greatest (map (number_at m place) (range_with_len 0 (size_of m.space)))

  -- the elements of a cell of a kind are those of a cell
  element-there : (cube : ℕ) → cube < length m.space.cubes → (kind : Bool) (es : List ℕ) → IsOfKind (axes m.space cube) kind es → number_by (position_of m cube kind place) es ≤ most
  unfolding number_at is_leaf_cell
  element-there cube there kind es of =
      let cell = cell-there m.space cube es there of.digits in
      let c : ℕ = cell.0 in
      let at = cell.1 in
      let leaf : is_leaf_cell m.space c ≡ kind =
      ap (λ k. are_leaves (axes m.space k) (elements_of m.space c)) at.own ∙ ap (are_leaves (axes m.space cube)) at.elements ∙ of.own in
      let same : number_at m place c ≡ number_by (position_of m cube kind place) es =
      ap (λ k. number_by (position_of m k (is_leaf_cell m.space c) place) (elements_of m.space c)) at.own
      ∙ ap (λ k. number_by (position_of m cube k place) (elements_of m.space c)) leaf ∙ ap (number_by (position_of m cube kind place)) at.elements in
      let low : number_at m place c ≤ most = mapped-holds (number_at m place) 0 (size_of m.space) c (omega arith) (omega (arith, at.cell)) in
      omega (arith, same, low)

  cube-within : (cube : ℕ) → cube < length m.space.cubes → cube_top m place cube ≤ most
  cube-within cube there = by (cell_count m.space cube == 0) refl
    where
      with-cells : 0 < cell_count m.space cube → (kind : Bool) → kind_top m place cube kind ≤ most
      with-cells some kind =
          position-there (axes m.space cube) (axes-all m.space.dimensions (dims_of m.space cube) valid.dimensions) some kind most (position_of m cube kind place) (is-position cube there kind) (element-there cube there kind)

      by : (t : Bool) → cell_count m.space cube == 0 ≡ t → (if t then 0 else both_tops cube) ≤ most
      by true e = omega arith
      by false e = both-within cube most (with-cells (omega (arith, eqb-false (cell_count m.space cube) 0 e)))

  -- the greatest of the cubes is the greatest of the cells
  pub top-is : top m place + 1 ≡ position_size m place
  unfolding position_size
  top-is =
      let up = mapped-within (number_at m place) 0 (size_of m.space) (top m place) (λ c from low. cell-within c (omega (arith, low))) in
      let down = mapped-within (cube_top m place) 0 (length m.space.cubes) most (λ cube from low. cube-within cube (omega (arith, low))) in
      omega (arith, up, down)

  pub top-small-enough : top m place ≤ greatest_rank
  top-small-enough = mapped-within (cube_top m place) 0 (length m.space.cubes) greatest_rank (λ cube from low. cube_top-small cube (omega (arith, low)))
