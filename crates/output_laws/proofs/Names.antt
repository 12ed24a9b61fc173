-- The names that a table shows have no line end.
use Rattle.std.proofs.Common.{◌≡◌, ℕ, zero, suc, true, List, [], ◌∷◌, get_or, Option, Some, None, refl, subst, All, IsTrue}
use Rattle.std.specs.List.{slice_get, cons_option}
use Rattle.std.specs.Option.{option_map_or}
use Rattle.std.proofs.lemmas.List.Elements.{All-head, All-tail}
use Rattle.lists.proofs.Found.{found_holds, some_same}
use Rattle.dim_name.specs.Bytes.{newline}
use Rattle.dim_name.specs.Name.{is_name}
use Rattle.dim_core.specs.Outline.{Outline, Element, IsDimension, names_of, name_of}
use Rattle.cube_space.specs.Layout.{Layout, axes, axes_of, dims_of}
use Rattle.cube_space.specs.Cells.{IsSpace}
use Rattle.view_query.specs.declared.shape.Axis.{Axis}
use Rattle.view_query.specs.Table.{shown_name}
use Rattle.output_laws.proofs.Lines.{lacks}
use Rattle.output_laws.proofs.Plain.{name_plain}

-- each name of a dimension, and what is shown where there is none
abbrev HasPlainNames : Outline → Type 0
HasPlainNames dimension = (element : ℕ) → lacks newline (name_of dimension element) ≡ true

names_plain : (elements : List (Element ℕ)) → All (λ e. IsTrue (is_name e.name)) elements → (place : ℕ) → lacks newline (get_or (names_of elements) place []) ≡ true
names_plain [] all place = refl
names_plain (e ∷ elements) all zero = name_plain e.name (All-head (λ e. IsTrue (is_name e.name)) e elements all)
names_plain (e ∷ elements) all (suc place) = names_plain elements (All-tail (λ e. IsTrue (is_name e.name)) e elements all) place

dimension_plain : (dimension : Outline) → IsDimension dimension → HasPlainNames dimension
dimension_plain dimension is element = names_plain dimension.elements is.elements_named element

-- what holds of each dimension holds of those of a cube
of_axes : (P : Outline → Type 0) (dimensions : List Outline) → ((place : ℕ) (d : Outline) → slice_get dimensions place ≡ Some d → P d)
    → (dims : List ℕ) (place : ℕ) (d : Outline) → slice_get (axes_of dimensions dims) place ≡ Some d → P d
of_axes P dimensions holds [] place d is = absurd (none is)
  where
    none : {A : Type 0} {x : A} → None ≡ Some x → ⊥
    none is = cc
of_axes P dimensions holds (dim ∷ dims) place d is = by (slice_get dimensions dim) refl place is (of_axes P dimensions holds dims)
  where
    by : (o : Option Outline) → slice_get dimensions dim ≡ o → (k : ℕ)
        → slice_get (cons_option o (axes_of dimensions dims)) k ≡ Some d
        → ((k : ℕ) (d : Outline) → slice_get (axes_of dimensions dims) k ≡ Some d → P d) → P d
    by None found k is later = later k d is
    by (Some one) found zero is later = subst P (some_same is) (holds dim one found)
    by (Some one) found (suc k) is later = later k d is

pub shown_plain : (space : Layout) → IsSpace space → (cube : ℕ) (axis : Axis) (element : ℕ) → lacks newline (shown_name space cube axis element) ≡ true
shown_plain space is cube axis element = by (slice_get (axes space cube) axis.place) refl
  where
    by : (o : Option Outline) → slice_get (axes space cube) axis.place ≡ o → lacks newline (option_map_or (λ dimension. name_of dimension element) o []) ≡ true
    by None found = refl
    by (Some dimension) found =
        of_axes HasPlainNames space.dimensions
        (λ place d here. dimension_plain d (found_holds IsDimension space.dimensions place d is.dimensions here))
        (dims_of space cube) axis.place dimension found element
