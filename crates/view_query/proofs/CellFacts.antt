-- The cell of each row and column is there.
use Rattle.std.proofs.Common.{◌≡◌, ◌<◌, ◌+◌, ◌==◌, ℕ, suc, Bool, true, false, eqb, if◌then◌else◌, List, [], ◌∷◌, map, length, Option, Some, None, inl, inr, ◌⊎◌, refl, sym, ap, ◌∙◌, subst, arith, slice_get, count_by, unwrap_or}
use Rattle.std.specs.List.{AllByRecursion, range_with_len}
use Rattle.std.specs.Option.{option_or}
use Rattle.std.proofs.lemmas.Bool.{and_from, lt-ltb, eqb-true, cases_Bool}
use Rattle.std.proofs.lemmas.List.Sums.{sum_by-cons}
use Rattle.dim_core.specs.Outline.{Outline}
use Rattle.cube_space.specs.Layout.{Layout, axes, sizes_of}
use Rattle.cube_space.specs.Radix.{are_digits}
use Rattle.cube_space.specs.Cells.{cell_number}
use Rattle.cube_space.proofs.Places.{IsPlace, place_number, cell_number-place}
use Rattle.view_query.specs.declared.shape.Axis.{Axis}
use Rattle.view_query.specs.declared.shape.View.{View}
use Rattle.view_query.specs.Views.{IsView, IsPoint, element_in, point_at, element_at, elements_at, times_at}
use Rattle.view_query.specs.Inside.Lines.{IsLine}
use Rattle.view_query.proofs.LineFacts.{to_each}
pub use Rattle.std.proofs.lemmas.Option.{slice_get_within as slice_low}

-- one more is counted, or not
counted : (p : ℕ → Bool) (x : ℕ) (xs : List ℕ) (b : Bool) → p x ≡ b → count_by p (x ∷ xs) ≡ (if b then 1 else 0) + count_by p xs
counted p x xs b is = sum_by-cons (λ y. if p y then 1 else 0) x xs ∙ ap (λ t. (if t then 1 else 0) + count_by p xs) is

module _ (dimensions : List Outline) (place : ℕ) (dimension : Outline) (there : slice_get dimensions place ≡ Some dimension) where
  -- an element of the dimension at the place is found, or the place isn't among these
  abbrev pub Found : Option ℕ → List ℕ → Type 0
  Found element places =
      ((element ≡ None) × (count_by (λ other. other == place) places ≡ 0)) ⊎ ((e : ℕ) × (element ≡ Some e) × (e < length dimension.elements))

  within : (at e : ℕ) (d : Outline) → at ≡ place → slice_get dimensions at ≡ Some d → e < length d.elements → e < length dimension.elements
  within at e d same is low =
      let both : Some d ≡ Some dimension = sym is ∙ ap (slice_get dimensions) same ∙ there in
      let one : d ≡ dimension = cc in
      subst (λ o. e < length o.elements) one low

  pub found_in : (along : List Axis) (line : List ℕ) → IsLine dimensions along line → Found (element_in along line place) (map (λ axis. axis.place) along)
  found_in [] [] is = inl (refl, refl)
  found_in [] (e ∷ line) is = absurd is
  found_in (axis ∷ along) [] is = absurd is
  found_in (axis ∷ along) (e ∷ line) is = by (cases_Bool (eqb axis.place place)) (found_in along line is.1)
    where
      by : (eqb axis.place place ≡ true) ⊎ (eqb axis.place place ≡ false) → Found (element_in along line place) (map (λ a. a.place) along)
          → Found (element_in (axis ∷ along) (e ∷ line) place) (map (λ a. a.place) (axis ∷ along))
      by (inl here) later = inr (e, rw here refl, within axis.place e is.0.0 (eqb-true _ _ here) is.0.1 is.0.2)
      by (inr other) (inl none) =
          inl (rw other none.0, counted (λ o. o == place) axis.place (map (λ a. a.place) along) false other ∙ omega (arith, none.1))
      by (inr other) (inr some) = inr (some.0, rw other some.1, some.2)

  pub found_point : (points : List (ℕ × ℕ)) → AllByRecursion (IsPoint dimensions) points → Found (point_at points place) (map (λ point. point.0) points)
  found_point [] is = inl (refl, refl)
  found_point (point ∷ points) is = by (cases_Bool (eqb point.0 place)) (found_point points is.1)
    where
      by : (eqb point.0 place ≡ true) ⊎ (eqb point.0 place ≡ false) → Found (point_at points place) (map (λ p. p.0) points)
          → Found (point_at (point ∷ points) place) (map (λ p. p.0) (point ∷ points))
      by (inl here) later = inr (point.1, rw here refl, within point.0 point.1 is.0.0 (eqb-true _ _ here) is.0.1 is.0.2)
      by (inr other) (inl none) =
          inl (rw other none.0, counted (λ o. o == place) point.0 (map (λ p. p.0) points) false other ∙ omega (arith, none.1))
      by (inr other) (inr some) = inr (some.0, rw other some.1, some.2)

  -- one of the three has it
  pub one_found : (a b c : Option ℕ) (rows columns points : List ℕ) → Found a rows → Found b columns → Found c points → times_at rows columns points place ≡ 1
      → unwrap_or (option_or a (option_or b c)) 0 < length dimension.elements
  one_found a b c rows columns points (inr x) y z once = rw x.1 x.2
  one_found a b c rows columns points (inl x) (inr y) z once = rw (x.0, y.1) y.2
  one_found a b c rows columns points (inl x) (inl y) (inr z) once = rw (x.0, y.0, z.1) z.2
  one_found a b c rows columns points (inl x) (inl y) (inl z) once = absurd (omega (arith, x.1, y.1, z.1, once))

-- numbers that are below the sizes, place by place, are digits for them
digits_from : (dimensions : List Outline) (f : ℕ → ℕ) (from : ℕ) → ((k : ℕ) (d : Outline) → slice_get dimensions k ≡ Some d → f (from + k) < length d.elements)
    → are_digits (sizes_of dimensions) (map f (range_with_len from (length dimensions))) ≡ true
digits_from [] f from low = refl
digits_from (d ∷ ds) f from low =
    let same : from + 0 ≡ from = omega arith in
    and_from _ _ (lt-ltb (f from) (length d.elements) (subst (λ n. f n < length d.elements) same (low 0 d refl)))
    (digits_from ds f (from + 1) (λ k x is. let later : from + suc k ≡ from + 1 + k = omega arith in subst (λ n. f n < length x.elements) later (low (suc k) x is)))

pub cell_there : (space : Layout) (view : View) (row column : List ℕ) → IsView space view → IsLine (axes space view.cube) view.rows row → IsLine (axes space view.cube) view.columns column
    → IsPlace space view.cube (elements_at space view row column)
cell_there space view row column is is_row is_column =
    let dimensions : List Outline = axes space view.cube in
    record {
      there = is.cube;
      digits = digits_from dimensions (element_at view row column) 0 (λ k d found.
          let same : 0 + k ≡ k = omega arith in
          subst (λ n. element_at view row column n < length d.elements) (sym same)
          (one_found dimensions k d found (element_in view.rows row k) (element_in view.columns column k) (point_at view.points k)
          (map (λ axis. axis.place) view.rows) (map (λ axis. axis.place) view.columns) (map (λ point. point.0) view.points)
          (found_in dimensions k d found view.rows row is_row) (found_in dimensions k d found view.columns column is_column)
          (found_point dimensions k d found view.points (to_each (IsPoint dimensions) view.points is.points))
          (is.once k (slice_low dimensions k d found))));
    }

pub cell_is : (space : Layout) (view : View) (row column : List ℕ) → IsView space view → IsLine (axes space view.cube) view.rows row → IsLine (axes space view.cube) view.columns column
    → cell_number space view.cube (elements_at space view row column) ≡ Some (place_number space view.cube (elements_at space view row column))
cell_is space view row column is is_row is_column = cell_number-place space view.cube (elements_at space view row column) (cell_there space view row column is is_row is_column)
