-- What bound arguments give, by their roots.
use Rattle.std.proofs.Common.{◌≡◌, ℕ, ℤ, ◌+ℤ◌, ◌<◌, List, length, true, ◌&&◌, Option, Some, sym, ap, ◌∙◌, slice_get}
use Rattle.std.proofs.lemmas.Bool.{and_parts, ltb-true, leb-true}
use Rattle.cube_fixed.specs.Range.{IsInRange, is_in_range}
use Rattle.cube_space.specs.Layout.{Layout}
use Rattle.std.specs.Option.{option_and_then}
use Rattle.dim_core.specs.Outline.{Outline, names_of, index_of}
use Rattle.bind_arguments.specs.Bound.{dimension_at, name_at, index_in, attribute_in, relative_in, given_step, name_given}
use Rattle.bind_arguments.specs.declared.relative.Relative.{Relative}
use Rattle.bind_arguments.specs.Inside.Within.{is_within, is_dimension, is_placed}
use Rattle.bind_arguments.specs.declared.bound_argument.BoundArgument.{BoundArgument}
use Rattle.bind_arguments.specs.declared.bound_argument.BoundArgument.TheVariants as bound
use Rattle.bind_arguments.proofs.Around.{within_current, within_index, within_place, within_attribute, within_relative, found_dimension}
use Rattle.bind_arguments.proofs.ArgumentFolds.{of-current, of-index, of-place, of-attribute, of-relative}

-- Numbers in range.

low_from : (space : Layout) (dim : ℕ) → is_dimension space dim ≡ true → dim < length space.dimensions
low_from space dim h = ltb-true dim (length space.dimensions) h

pub record CurrentParts (space : Layout) (cube place dim : ℕ) : Type 0 where
  pub low : dim < length space.dimensions
  pub placed : is_placed space cube place dim ≡ true

pub record PlaceParts (space : Layout) (cube dim source : ℕ) (of : BoundArgument) (n : ℤ) : Type 0 where
  pub low : dim < length space.dimensions
  pub source_low : source < length space.dimensions
  pub of_within : is_within space cube of ≡ true
  pub small : IsInRange n

pub record AttributeParts (space : Layout) (cube dim : ℕ) (of : BoundArgument) : Type 0 where
  pub low : dim < length space.dimensions
  pub of_within : is_within space cube of ≡ true

module _ (space : Layout) (cube : ℕ) (a : BoundArgument) (within : is_within space cube a ≡ true) where
  pub current_parts : (place dim : ℕ) → a ≡ bound.Current place dim → CurrentParts space cube place dim
  current_parts place dim is =
      let (low, at) = and_parts (is_dimension space dim) (is_placed space cube place dim) (sym (within_current space cube place dim) ∙ sym (ap (is_within space cube) is) ∙ within) in
      record { low = low_from space dim low; placed = at }

  pub index_low : (dim : ℕ) (n : ℤ) → a ≡ bound.AtIndex dim n → dim < length space.dimensions
  index_low dim n is = low_from space dim (sym (within_index space cube dim n) ∙ sym (ap (is_within space cube) is) ∙ within)

  pub place_parts : (dim source : ℕ) (of : BoundArgument) (n : ℤ) → a ≡ bound.AtPlace dim source of n → PlaceParts space cube dim source of n
  place_parts dim source of n is =
      let (front, small) = and_parts (is_within space cube of && is_dimension space dim && is_dimension space source) (is_in_range n) (sym (within_place space cube dim source of n) ∙ sym (ap (is_within space cube) is) ∙ within) in
      let (fore, source_low) = and_parts (is_within space cube of && is_dimension space dim) (is_dimension space source) front in
      let (of_within, low) = and_parts (is_within space cube of) (is_dimension space dim) fore in
      record { low = low_from space dim low; source_low = low_from space source source_low; of_within = of_within; small = leb-true _ _ small }

  pub attribute_parts : (dim : ℕ) (of : BoundArgument) (name : List ℕ) → a ≡ bound.AttributeOf dim of name → AttributeParts space cube dim of
  attribute_parts dim of name is =
      let (of_within, low) = and_parts (is_within space cube of) (is_dimension space dim) (sym (within_attribute space cube dim of name) ∙ sym (ap (is_within space cube) is) ∙ within) in
      record { low = low_from space dim low; of_within = of_within }

  pub relative_parts : (dim : ℕ) (of : BoundArgument) (relative : Relative) → a ≡ bound.RelativeOf dim of relative → AttributeParts space cube dim of
  relative_parts dim of relative is =
      let (of_within, low) = and_parts (is_within space cube of) (is_dimension space dim) (sym (within_relative space cube dim of relative) ∙ sym (ap (is_within space cube) is) ∙ within) in
      record { low = low_from space dim low; of_within = of_within }

-- Names.

module _ (space : Layout) (element : ℕ) (a : BoundArgument) where
  pub given_current : (place dim : ℕ) (d : Outline) → a ≡ bound.Current place dim → slice_get space.dimensions dim ≡ Some d → name_given space element a ≡ slice_get (names_of d.elements) element
  given_current place dim d is there =
      ap (name_given space element) is ∙ of-current (Option (List ℕ)) (given_step space element) place dim
      ∙ ap (λ d. slice_get (names_of d.elements) element) (found_dimension space dim d there)

  pub given_index : (dim : ℕ) (n : ℤ) (d : Outline) → a ≡ bound.AtIndex dim n → slice_get space.dimensions dim ≡ Some d → name_given space element a ≡ name_at d n
  given_index dim n d is there =
      ap (name_given space element) is ∙ of-index (Option (List ℕ)) (given_step space element) dim n
      ∙ ap (λ d. name_at d n) (found_dimension space dim d there)

  pub given_place : (dim source : ℕ) (of : BoundArgument) (n : ℤ) (d s : Outline) → a ≡ bound.AtPlace dim source of n → slice_get space.dimensions dim ≡ Some d → slice_get space.dimensions source ≡ Some s
      → name_given space element a ≡ name_at d (index_in s (name_given space element of) +ℤ n)
  given_place dim source of n d s is there also =
      ap (name_given space element) is ∙ of-place (Option (List ℕ)) (given_step space element) dim source of n
      ∙ ap (λ d. name_at d (index_in (dimension_at space source) (name_given space element of) +ℤ n)) (found_dimension space dim d there)
      ∙ ap (λ s. name_at d (index_in s (name_given space element of) +ℤ n)) (found_dimension space source s also)

  pub given_attribute : (dim : ℕ) (of : BoundArgument) (name : List ℕ) (d : Outline) → a ≡ bound.AttributeOf dim of name → slice_get space.dimensions dim ≡ Some d
      → name_given space element a ≡ attribute_in d name (name_given space element of)
  given_attribute dim of name d is there =
      ap (name_given space element) is ∙ of-attribute (Option (List ℕ)) (given_step space element) dim of name
      ∙ ap (λ d. attribute_in d name (name_given space element of)) (found_dimension space dim d there)

  pub given_relative : (dim : ℕ) (of : BoundArgument) (relative : Relative) → a ≡ bound.RelativeOf dim of relative
      → name_given space element a ≡ relative_in (dimension_at space dim) relative (name_given space element of)
  given_relative dim of relative is = ap (name_given space element) is ∙ of-relative (Option (List ℕ)) (given_step space element) dim of relative

  -- the element of a dimension that an argument's name means
  pub given_owner : (dim : ℕ) (of inner : BoundArgument) (d : Outline) (owned : Option ℕ) → slice_get space.dimensions dim ≡ Some d → owned ≡ option_and_then (index_of d) (name_given space element inner) → inner ≡ of
      → owned ≡ option_and_then (index_of (dimension_at space dim)) (name_given space element of)
  given_owner dim of inner d owned there is same =
      is ∙ ap (λ d. option_and_then (index_of d) (name_given space element inner)) (sym (found_dimension space dim d there))
      ∙ ap (λ x. option_and_then (index_of (dimension_at space dim)) (name_given space element x)) same
