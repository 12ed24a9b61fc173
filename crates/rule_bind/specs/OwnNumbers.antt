-- What functions of the cell's own element mean: a table over the dimension whose element they take.
use Rattle.std.specs.Prelude.{ℕ, ◌==◌, Bool, true, false, List, [], ◌∷◌, Option, Some, None, Err, ok_or}
use Rattle.std.specs.Prelude.{option_and_then, slice_get, if◌then◌else◌}
use Rattle.cube_space.specs.Layout.{Layout, axes}
use Rattle.cube_space.specs.Axes.{axis_called}
use Rattle.dim_core.specs.Outline.{index_of}
use Rattle.rule_laws.specs.declared.formula.Formula.{Formula}
use Rattle.rule_laws.specs.declared.formula.Formula.TheVariants as formulas
use Rattle.rule_tree.specs.declared.tree.Tree.{Tree, out-Tree}
use Rattle.rule_tree.specs.declared.tree.Tree.TheOpen.{Tree-F}
use Rattle.bind_areas.specs.declared.cause.BindCause.TheVariants.{UnknownName, WrongCount, DynamicReference}
use Rattle.bind_areas.specs.declared.cause.BindCause.TheVariants.{Unsupported}
use Rattle.bind_areas.specs.Meaning.{Meaning, done, ◌>>=◌}
use Rattle.bind_arguments.specs.Bound.{attribute_named}
use Rattle.bind_arguments.specs.Numbers.{numbers_at}
use Rattle.bind_arguments.specs.declared.element_function.ElementFunction.{ElementFunction}
use Rattle.bind_arguments.specs.declared.element_function.ElementFunction.TheVariants as functions
use Rattle.rule_bind.specs.References.{text_in, fixed_name}
use Rattle.rule_bind.specs.declared.function.OwnFunction.{OwnFunction}
use Rattle.rule_bind.specs.declared.function.OwnFunction.TheVariants as own

-- the place in a cube of the dimension that a quoted text names
unfoldable pub axis_named : Layout → ℕ → Tree → Meaning ℕ
axis_named space cube tree = do
  name ← fixed_name tree
  ok_or (option_and_then (axis_called (axes space cube)) name) UnknownName

-- the name behind a !
abbrev pub current_layer : Tree-F Tree → Option (List ℕ)
current_layer (Tree-F.Current name) = Some name
current_layer _ = None

abbrev pub same_place : ℕ → ℕ → Meaning ℕ
same_place place other = if other == place then done place else Err Unsupported

-- the place of a dimension again, where a ! follows it
unfoldable pub own_place : Layout → ℕ → ℕ → Tree → Meaning ℕ
own_place space cube place tree = do
  name ← ok_or (current_layer (out-Tree tree)) Unsupported
  other ← ok_or (axis_called (axes space cube) name) UnknownName
  same_place place other

-- the place of the dimension that a quoted text names, where a ! and that dimension follow it
unfoldable pub own_axis : Layout → ℕ → Tree → Tree → Meaning ℕ
own_axis space cube dim of = do
  place ← axis_named space cube dim
  own_place space cube place of

-- the place of the dimension of a function of the cell's own element and of nothing else
abbrev pub plain_place : Layout → ℕ → List Tree → Meaning ℕ
plain_place space cube (dim ∷ of ∷ []) = own_axis space cube dim of
plain_place space cube _ = Err WrongCount

-- the element of the dimension at a place that a quoted text names
unfoldable pub element_at : Layout → ℕ → ℕ → Tree → Meaning ℕ
element_at space cube place tree = do
  name ← fixed_name tree
  ok_or (option_and_then (λ d. option_and_then (index_of d) name) (slice_get (axes space cube) place)) UnknownName

-- the attribute of this name that some element of the dimension at a place has
unfoldable pub attribute_at : Layout → ℕ → ℕ → Tree → Meaning (List ℕ)
attribute_at space cube place tree = do
  text ← ok_or (text_in tree) DynamicReference
  ok_or (option_and_then (λ d. attribute_named d text) (slice_get (axes space cube) place)) UnknownName

abbrev pub table_at : Layout → ℕ → ℕ → ElementFunction → Formula
table_at space cube place function = formulas.Table place (numbers_at space cube place function)

-- the cell's own element and nothing else
abbrev pub plain_call : Layout → ℕ → ElementFunction → List Tree → Meaning Formula
plain_call space cube function arguments = do
  own ← plain_place space cube arguments
  done (table_at space cube own function)

-- whether the cell's own element is a component of another one, or lies below it at any depth
abbrev pub under : Bool → ℕ → ElementFunction
under true above = functions.Below above
under false parent = functions.ComponentOf parent

-- an element and the cell's own one, of which the first is above the other
abbrev pub upper_call : Layout → ℕ → Bool → List Tree → Meaning Formula
upper_call space cube deep (dim ∷ element ∷ of ∷ []) = do
  place ← axis_named space cube dim
  above ← element_at space cube place element
  own ← own_place space cube place of
  done (table_at space cube own (under deep above))
upper_call space cube deep _ = Err WrongCount

-- the cell's own element and one whose component it is
abbrev pub component_call : Layout → ℕ → List Tree → Meaning Formula
component_call space cube (dim ∷ of ∷ element ∷ []) = do
  own ← own_axis space cube dim of
  parent ← element_at space cube own element
  done (table_at space cube own (functions.ComponentOf parent))
component_call space cube _ = Err WrongCount

-- an attribute of the cell's own element
abbrev pub attribute_call : Layout → ℕ → List Tree → Meaning Formula
attribute_call space cube (dim ∷ of ∷ name ∷ []) = do
  own ← own_axis space cube dim of
  attribute ← attribute_at space cube own name
  done (table_at space cube own (functions.Attribute attribute))
attribute_call space cube _ = Err WrongCount

-- a function with these arguments
unfoldable pub own_call : Layout → ℕ → OwnFunction → List Tree → Meaning Formula
own_call space cube own.Place arguments = plain_call space cube functions.Place arguments
own_call space cube own.Level arguments = plain_call space cube functions.Level arguments
own_call space cube own.HasParent arguments = upper_call space cube false arguments
own_call space cube own.HasAncestor arguments = upper_call space cube true arguments
own_call space cube own.IsComponent arguments = component_call space cube arguments
own_call space cube own.Attribute arguments = attribute_call space cube arguments
own_call space cube own.ComponentCount arguments = plain_call space cube functions.ComponentCount arguments
own_call space cube own.ParentCount arguments = plain_call space cube functions.ParentCount arguments
