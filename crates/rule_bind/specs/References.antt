-- What a DB names, and the dimension of a ConsolidateChildren.
use Rattle.std.specs.Prelude.{ℕ, ◌==◌, List, [], ◌∷◌, length, Option}
use Rattle.std.specs.Prelude.{Some, None, Result, Ok, Err, option_and_then, ok_or, if◌then◌else◌}
use Rattle.dim_name.specs.Name.{place_of}
use Rattle.cube_space.specs.Layout.{Layout, dims_of, axes, cube_names}
use Rattle.rule_laws.specs.declared.reference.Arg.{Arg}
use Rattle.rule_laws.specs.declared.reference.Reference.{Reference}
use Rattle.rule_tree.specs.declared.tree.Tree.{Tree, out-Tree}
use Rattle.rule_tree.specs.declared.tree.Tree.TheOpen.{Tree-F}
use Rattle.bind_areas.specs.declared.cause.BindCause.{BindCause}
use Rattle.bind_areas.specs.declared.cause.BindCause.TheVariants as causes
use Rattle.bind_areas.specs.Meaning.{Meaning, done, ◌>>=◌}
use Rattle.bind_arguments.specs.declared.fault.ArgumentFault.{ArgumentFault}
use Rattle.bind_arguments.specs.declared.fault.ArgumentFault.TheVariants as faults
use Rattle.bind_arguments.specs.Argument.{argument_of}
use Rattle.bind_areas.specs.Areas as areas
use Rattle.bind_arguments.specs.Bound.{name_in}

-- the cause of a fault in an element argument
abbrev pub cause_of : ArgumentFault → BindCause
cause_of faults.UnknownName = causes.UnknownName
cause_of faults.DynamicReference = causes.DynamicReference
cause_of faults.Memory = causes.Memory

abbrev pub caused : {A : Type 0} → Result A ArgumentFault → Meaning A
caused (Ok a) = Ok a
caused (Err fault) = Err (cause_of fault)

-- the bytes of a formula that is a quoted text alone
abbrev pub text_in_layer : Tree-F Tree → Option (List ℕ)
text_in_layer (Tree-F.Text bytes) = Some bytes
text_in_layer _ = None

abbrev pub text_in : Tree → Option (List ℕ)
text_in tree = text_in_layer (out-Tree tree)

-- the name that a formula is which must be a quoted text; one that is no name names nothing
abbrev pub fixed_name : Tree → Meaning (Option (List ℕ))
fixed_name tree = do
  text ← ok_or (text_in tree) causes.DynamicReference
  done (name_in text)

-- the cube that it names
abbrev pub cube_of : Layout → Tree → Meaning ℕ
cube_of space tree = do
  name ← fixed_name tree
  ok_or (option_and_then (place_of (cube_names space)) name) causes.UnknownName

-- the place in a cube of the dimension that it names
abbrev pub dimension_called : Layout → ℕ → Option (List ℕ) → Meaning ℕ
dimension_called space cube None = Err causes.UnknownName
dimension_called space cube (Some name) = areas.place_of (axes space cube) (record { dim = Some name; elements = [] })

unfoldable pub children_of : Layout → ℕ → Tree → Meaning ℕ
children_of space cube tree = do
  name ← fixed_name tree
  dimension_called space cube name

-- element arguments in a statement of a cube, one for each of these dimensions of the target
abbrev pub args_of : Layout → ℕ → List ℕ → List Tree → Meaning (List Arg)
args_of space cube [] trees = done []
args_of space cube (dim ∷ dims) [] = done []
args_of space cube (dim ∷ dims) (tree ∷ trees) = do
  arg ← caused (argument_of space cube dim tree)
  args ← args_of space cube dims trees
  done (arg ∷ args)

-- the cell of a target's cube that element arguments name: as many as the cube has dimensions
abbrev pub cell_of_target : Layout → ℕ → ℕ → List Tree → Meaning Reference
cell_of_target space cube target trees =
    if length trees == length (dims_of space target) then (do
      args ← args_of space cube (dims_of space target) trees
      done (record { cube = target; args = args }))
    else Err causes.WrongCount

-- the cell that a DB with these arguments names: the first is the cube's name
unfoldable pub db_of : Layout → ℕ → List Tree → Meaning Reference
db_of space cube [] = Err causes.DynamicReference
db_of space cube (first ∷ trees) = do
  target ← cube_of space first
  cell_of_target space cube target trees
