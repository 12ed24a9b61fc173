-- Arguments around others.
use Rattle.std.proofs.Common.{◌≡◌, ℕ, ℤ, ◌<◌, List, length, Bool, true, ◌&&◌, Option, Some, None, Result, Ok, Err, IfOk, IfSome, IsTrue, slice_get, refl, sym, ap, ◌∙◌, subst}
use Rattle.std.proofs.lemmas.Bool.{and_from, lt-ltb}
use Rattle.std.proofs.lemmas.Option.{get_or_from_slice_get}
use Rattle.std.specs.Option.{option_map, option_and_then, ok_or}
use Rattle.cube_fixed.specs.Range.{is_in_range}
use Rattle.cube_space.specs.Layout.{Layout}
use Rattle.dim_core.specs.Outline.{Outline}
use Rattle.bind_arguments.specs.Written.{AtPlace, AttributeOf, RelativeOf, Part, argument_of_part, related}
use Rattle.bind_arguments.specs.declared.relative.Relative.{Relative}
use Rattle.bind_arguments.specs.Bound.{dimension_at, dimension_named, attribute_named}
use Rattle.bind_arguments.specs.Argument.{IsAnsweredBy}
use Rattle.bind_arguments.specs.Inside.Reading.{bound_part, bound_place, placed, attributed}
use Rattle.bind_arguments.specs.Inside.Within.{is_within, within_step, is_dimension, is_placed}
use Rattle.bind_arguments.specs.declared.bound_argument.BoundArgument.{BoundArgument}
use Rattle.bind_arguments.specs.declared.bound_argument.BoundArgument.TheVariants as bound
use Rattle.bind_arguments.specs.declared.fault.ArgumentFault.{ArgumentFault}
use Rattle.bind_arguments.specs.declared.fault.ArgumentFault.TheVariants.{UnknownName}
use Rattle.bind_arguments.proofs.PartsBound.{refused, known}
use Rattle.bind_arguments.proofs.ArgumentFolds.{of-text, of-current, of-index, of-place, of-attribute, of-relative}

module _ (space : Layout) (cube : ℕ) (dim : List ℕ) where
  pub placed_refused : (source : List ℕ) (p : Part) (n : ℤ) (f : ArgumentFault) → IsAnsweredBy (bound_part space cube p) (Err f)
      → IsAnsweredBy (bound_part space cube (placed dim source (argument_of_part p) n)) (Err f)
  placed_refused source p n f h = refused space cube (λ a. AtPlace dim source a n) (bound_place (dimension_named space dim) (dimension_named space source) n) (λ a. refl) p f h

  pub placed_known : (source : List ℕ) (p : Part) (n : ℤ) (x : BoundArgument) (d s : Option ℕ) (r : Result BoundArgument ArgumentFault)
      → d ≡ dimension_named space dim → s ≡ dimension_named space source → IsAnsweredBy (bound_part space cube p) (Ok x)
      → IsAnsweredBy (ok_or (bound_place d s n x) UnknownName) r → IsAnsweredBy (bound_part space cube (placed dim source (argument_of_part p) n)) r
  placed_known source p n x d s r is also h given =
      let e = known space cube (λ a. AtPlace dim source a n) (bound_place (dimension_named space dim) (dimension_named space source) n) (λ a. refl) p x h in
      subst (λ y. IsAnsweredBy y r) (ap (λ y. ok_or (bound_place y s n x) UnknownName) is ∙ ap (λ y. ok_or (bound_place (dimension_named space dim) y n x) UnknownName) also ∙ sym e) given

  abbrev attribute_more : List ℕ → BoundArgument → Option BoundArgument
  attribute_more attribute x = option_and_then (λ d. option_map
      (λ name. bound.AttributeOf d x name) (attribute_named (dimension_at space d) attribute)) (dimension_named space dim)

  pub attribute_refused : (attribute : List ℕ) (p : Part) (f : ArgumentFault) → IsAnsweredBy (bound_part space cube p) (Err f)
      → IsAnsweredBy (bound_part space cube (attributed dim (argument_of_part p) attribute)) (Err f)
  attribute_refused attribute p f h = refused space cube (λ a. AttributeOf dim a attribute) (attribute_more attribute) (λ a. refl) p f h

  pub attribute_known : (attribute : List ℕ) (p : Part) (x : BoundArgument) → IsAnsweredBy (bound_part space cube p) (Ok x)
      → bound_part space cube (attributed dim (argument_of_part p) attribute) ≡ ok_or (attribute_more attribute x) UnknownName
  attribute_known attribute p x h = known space cube (λ a. AttributeOf dim a attribute) (attribute_more attribute) (λ a. refl) p x h

  abbrev relative_more : Relative → BoundArgument → Option BoundArgument
  relative_more relative x = option_map (λ d. bound.RelativeOf d x relative) (dimension_named space dim)

  pub relative_refused : (relative : Relative) (p : Part) (f : ArgumentFault) → IsAnsweredBy (bound_part space cube p) (Err f)
      → IsAnsweredBy (bound_part space cube (related dim (argument_of_part p) relative)) (Err f)
  relative_refused relative p f h = refused space cube (λ a. RelativeOf dim a relative) (relative_more relative) (λ a. refl) p f h

  pub relative_known : (relative : Relative) (p : Part) (x : BoundArgument) (d : Option ℕ) (r : Result BoundArgument ArgumentFault)
      → d ≡ dimension_named space dim → IsAnsweredBy (bound_part space cube p) (Ok x)
      → IsAnsweredBy (ok_or (option_map (λ d. bound.RelativeOf d x relative) d) UnknownName) r → IsAnsweredBy (bound_part space cube (related dim (argument_of_part p) relative)) r
  relative_known relative p x d r is h given =
      let e = known space cube (λ a. RelativeOf dim a relative) (relative_more relative) (λ a. refl) p x h in
      subst (λ y. IsAnsweredBy y r) (ap (λ y. ok_or (option_map (λ d. bound.RelativeOf d x relative) y) UnknownName) is ∙ sym e) given

-- Numbers in range.

pub within_text : (space : Layout) (cube : ℕ) (name : Option (List ℕ)) → is_within space cube (bound.Text name) ≡ true
unfolding is_within
within_text space cube name = of-text Bool (within_step space cube) name

pub within_current : (space : Layout) (cube place dim : ℕ) → is_within space cube (bound.Current place dim) ≡ (is_dimension space dim && is_placed space cube place dim)
unfolding is_within
within_current space cube place dim = of-current Bool (within_step space cube) place dim

pub within_index : (space : Layout) (cube dim : ℕ) (n : ℤ) → is_within space cube (bound.AtIndex dim n) ≡ is_dimension space dim
unfolding is_within
within_index space cube dim n = of-index Bool (within_step space cube) dim n

pub within_place : (space : Layout) (cube dim source : ℕ) (of : BoundArgument) (n : ℤ) → is_within space cube (bound.AtPlace dim source of n)
    ≡ (is_within space cube of && is_dimension space dim && is_dimension space source && is_in_range n)
unfolding is_within
within_place space cube dim source of n = of-place Bool (within_step space cube) dim source of n

pub within_attribute : (space : Layout) (cube dim : ℕ) (of : BoundArgument) (attribute : List ℕ) → is_within space cube (bound.AttributeOf dim of attribute)
    ≡ (is_within space cube of && is_dimension space dim)
unfolding is_within
within_attribute space cube dim of attribute = of-attribute Bool (within_step space cube) dim of attribute

pub within_relative : (space : Layout) (cube dim : ℕ) (of : BoundArgument) (relative : Relative) → is_within space cube (bound.RelativeOf dim of relative)
    ≡ (is_within space cube of && is_dimension space dim)
unfolding is_within
within_relative space cube dim of relative = of-relative Bool (within_step space cube) dim of relative

pub there : (space : Layout) (dim : ℕ) → dim < length space.dimensions → is_dimension space dim ≡ true
there space dim low = lt-ltb dim (length space.dimensions) low

pub placed_within : (space : Layout) (cube : ℕ) (d s : Option ℕ) (n : ℤ) (x : BoundArgument) (r : Result BoundArgument ArgumentFault)
    → IfSome d (λ dim. dim < length space.dimensions) → IfSome s (λ dim. dim < length space.dimensions) → is_in_range n ≡ true → is_within space cube x ≡ true
    → IsAnsweredBy (ok_or (bound_place d s n x) UnknownName) r → IfOk r (λ argument. IsTrue (is_within space cube argument))
placed_within space cube None None n x (Ok y) a b small within given = absurd given
placed_within space cube (Some d) None n x (Ok y) a b small within given = absurd given
placed_within space cube None (Some s) n x (Ok y) a b small within given = absurd given
placed_within space cube (Some d) (Some s) n x (Ok y) a b small within given =
    ap (is_within space cube) given ∙ within_place space cube d s x n
    ∙ and_from (is_within space cube x && is_dimension space d && is_dimension space s) (is_in_range n)
    (and_from (is_within space cube x && is_dimension space d) (is_dimension space s) (and_from (is_within space cube x) (is_dimension space d) within (there space d a)) (there space s b)) small
placed_within space cube d s n x (Err f) a b small within given = tt

pub attribute_within : (space : Layout) (cube d : ℕ) (x : BoundArgument) (attribute : Option (List ℕ)) (r : Result BoundArgument ArgumentFault)
    → d < length space.dimensions → is_within space cube x ≡ true
    → IsAnsweredBy (ok_or (option_map (λ name. bound.AttributeOf d x name) attribute) UnknownName) r → IfOk r (λ argument. IsTrue (is_within space cube argument))
attribute_within space cube d x None (Ok y) low within given = absurd given
attribute_within space cube d x (Some name) (Ok y) low within given =
    ap (is_within space cube) given ∙ within_attribute space cube d x name ∙ and_from (is_within space cube x) (is_dimension space d) within (there space d low)
attribute_within space cube d x o (Err f) low within given = tt

pub relative_within : (space : Layout) (cube : ℕ) (d : Option ℕ) (x : BoundArgument) (relative : Relative) (r : Result BoundArgument ArgumentFault)
    → IfSome d (λ dim. dim < length space.dimensions) → is_within space cube x ≡ true
    → IsAnsweredBy (ok_or (option_map (λ d. bound.RelativeOf d x relative) d) UnknownName) r → IfOk r (λ argument. IsTrue (is_within space cube argument))
relative_within space cube None x relative (Ok y) low within given = absurd given
relative_within space cube (Some d) x relative (Ok y) low within given =
    ap (is_within space cube) given ∙ within_relative space cube d x relative ∙ and_from (is_within space cube x) (is_dimension space d) within (there space d low)
relative_within space cube d x relative (Err f) low within given = tt

-- A dimension that is there.

pub found_dimension : (space : Layout) (dim : ℕ) (d : Outline) → slice_get space.dimensions dim ≡ Some d → dimension_at space dim ≡ d
found_dimension space dim d is = get_or_from_slice_get space.dimensions dim d _ is
