-- What the code reads of a formula.
use Rattle.std.specs.Prelude.{ℕ, ℤ, neg_ℤ, List, Option, Some, None, Result, Err}
use Rattle.std.specs.Option.{option_map, option_map_or, option_and_then, ok_or}
use Rattle.cube_space.specs.Layout.{Layout}
use Rattle.rule_tree.specs.declared.tree.TreeOp.{TreeOp}
use Rattle.rule_tree.specs.declared.tree.TreeOp.TheVariants as ops
use Rattle.bind_arguments.specs.Written.{Written, AtPlace, AttributeOf, Quoted, Part}
use Rattle.bind_arguments.specs.Written.{Whole, Element, Place, Other, argument_of_part}
use Rattle.bind_arguments.specs.Bound.{bound_argument}
use Rattle.bind_arguments.specs.declared.bound_argument.BoundArgument.{BoundArgument}
use Rattle.bind_arguments.specs.declared.bound_argument.BoundArgument.TheVariants as bound
use Rattle.bind_arguments.specs.declared.fault.ArgumentFault.{ArgumentFault}
use Rattle.bind_arguments.specs.declared.fault.ArgumentFault.TheVariants.{UnknownName, DynamicReference}

abbrev pub text_of_part : Part → Option (List ℕ)
text_of_part (Element (Quoted text)) = Some text
text_of_part _ = None

abbrev pub whole_of_part : Part → Option ℤ
whole_of_part (Whole number) = Some number
whole_of_part _ = None

-- what is added to an index by this operator and right side
abbrev pub shift_in : TreeOp → Part → Option ℤ
shift_in ops.Add right = whole_of_part right
shift_in ops.Sub right = option_map neg_ℤ (whole_of_part right)
shift_in _ right = None

-- a part as an argument with its names bound
abbrev pub bound_by_form : Layout → ℕ → Option Written → Result BoundArgument ArgumentFault
bound_by_form space cube None = Err DynamicReference
bound_by_form space cube (Some argument) = ok_or (bound_argument space cube argument) UnknownName

unfoldable pub bound_part : Layout → ℕ → Part → Result BoundArgument ArgumentFault
bound_part space cube part = bound_by_form space cube (argument_of_part part)

-- the element of a dimension by its place behind that of an argument in another one
abbrev pub bound_place : Option ℕ → Option ℕ → ℤ → BoundArgument → Option BoundArgument
bound_place dim source shift of =
    option_and_then (λ s. option_map (λ d. bound.AtPlace d s of shift) dim) source

-- DIMNM of a dimension and so much more than DIMIX of another one and an argument
abbrev pub placed : List ℕ → List ℕ → Option Written → ℤ → Part
placed dim source of shift = option_map_or (λ argument. Element (AtPlace dim source argument shift)) of Other

-- DIMNM of a dimension and so much more than this index
abbrev pub at_moved : List ℕ → Part → ℤ → Part
at_moved dim (Place source of) shift = Element (AtPlace dim source of shift)
at_moved dim _ shift = Other

-- ATTRS of a dimension, an argument and an attribute
abbrev pub attributed : List ℕ → Option Written → List ℕ → Part
attributed dim of attribute = option_map_or (λ argument. Element (AttributeOf dim argument attribute)) of Other
