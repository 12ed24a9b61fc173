-- What an element argument of a DB is bound to, and why it can't be.
use Rattle.std.specs.Prelude.{◌≡◌, ◌⊎◌, ℕ, List, map, Option, Some, None, Result, Ok, Err, slice_index_or}
use Rattle.std.specs.List.{range_with_len}
use Rattle.std.specs.Option.{option_map, option_and_then, ok_or}
use Rattle.std.specs.Result.{result_err}
use Rattle.dim_core.specs.Outline.{index_of}
use Rattle.cube_space.specs.Layout.{Layout, sizes}
use Rattle.rule_laws.specs.Maps.{nowhere}
use Rattle.rule_laws.specs.declared.reference.Arg.{Arg}
use Rattle.rule_laws.specs.declared.reference.Arg.TheVariants.{Fixed, Moved}
use Rattle.rule_tree.specs.declared.tree.Tree.{Tree}
use Rattle.bind_arguments.specs.Written.{Written, Quoted, argument_in}
use Rattle.bind_arguments.specs.Bound.{dimension_at, name_in, bound_argument, followed, element_given}
use Rattle.bind_arguments.specs.declared.bound_argument.BoundArgument.{BoundArgument}
use Rattle.bind_arguments.specs.declared.fault.ArgumentFault.{ArgumentFault}
use Rattle.bind_arguments.specs.declared.fault.ArgumentFault.TheVariants.{UnknownName, DynamicReference, Memory}

-- how many elements the dimension at a place of a cube has
abbrev pub size_at : Layout → ℕ → ℕ → ℕ
size_at space cube place = slice_index_or (sizes space cube) place 0

-- an argument that follows no dimension: one element, or none from every cell
abbrev pub still : Layout → ℕ → Option ℕ → Arg
still space cube (Some element) = Fixed element
still space cube None = Moved 0 (nowhere (size_at space cube 0))

-- for each of so many elements of the dimension that an argument follows: the element of the target's dimension
abbrev pub table_over : Layout → ℕ → BoundArgument → ℕ → List (Option ℕ)
table_over space dim argument size = map (element_given space dim argument) (range_with_len 0 size)

-- for each element of a dimension at this place of the cube: the element of the target's dimension
abbrev pub table : Layout → ℕ → ℕ → BoundArgument → ℕ → List (Option ℕ)
table space cube dim argument place = table_over space dim argument (size_at space cube place)

abbrev pub arg_following : Layout → ℕ → ℕ → BoundArgument → Option ℕ → Arg
arg_following space cube dim argument None = still space cube (element_given space dim argument 0)
arg_following space cube dim argument (Some place) = Moved place (table space cube dim argument place)

-- what is bound of an argument whose names are known
abbrev pub arg_of : Layout → ℕ → ℕ → BoundArgument → Arg
arg_of space cube dim argument = arg_following space cube dim argument (followed argument)

-- what is bound of an argument of a statement of a cube, whose target has this dimension; None where a name is
-- unknown, of which a text that is itself the argument must be an element of the target's dimension
abbrev pub known_argument : Layout → ℕ → ℕ → Written → Option Arg
known_argument space cube dim (Quoted text) =
    option_map Fixed (option_and_then (index_of (dimension_at space dim)) (name_in text))
known_argument space cube dim argument = option_map (arg_of space cube dim) (bound_argument space cube argument)

abbrev pub argument_by_form : Layout → ℕ → ℕ → Option Written → Result Arg ArgumentFault
argument_by_form space cube dim None = Err DynamicReference
argument_by_form space cube dim (Some argument) = ok_or (known_argument space cube dim argument) UnknownName

-- what a formula is bound to as an argument of a statement of a cube, whose target has this dimension; else why not:
-- it is no element argument, or it is one in which a name is unknown
unfoldable pub argument_of : Layout → ℕ → ℕ → Tree → Result Arg ArgumentFault
argument_of space cube dim tree = argument_by_form space cube dim (argument_in tree)

abbrev pub argument_fault : Layout → ℕ → ℕ → Tree → Option ArgumentFault
argument_fault space cube dim tree = result_err (argument_of space cube dim tree)

-- an answer is this one; out of memory may always come
abbrev pub IsAnsweredBy : {T : Type 0} → Result T ArgumentFault → Result T ArgumentFault → Type 0
IsAnsweredBy (Ok value) (Ok given) = given ≡ value
IsAnsweredBy (Ok value) (Err fault) = fault ≡ Memory
IsAnsweredBy (Err cause) (Ok given) = ⊥
IsAnsweredBy (Err cause) (Err fault) = (fault ≡ cause) ⊎ (fault ≡ Memory)
