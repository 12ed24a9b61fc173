-- What a comparison of texts of the cell's own element means: whether a table over its dimension is 1, which it is
-- where both texts are the same.
use Rattle.std.specs.Prelude.{ℕ, pos, List, [], ◌∷◌, Option, Some, None, Err, ok_or, codes, bytes_eq}
use Rattle.std.specs.Prelude.{if◌then◌else◌}
use Rattle.cube_fixed.specs.Range.{unit}
use Rattle.cube_space.specs.Layout.{Layout, axes}
use Rattle.cube_space.specs.Axes.{axis_called}
use Rattle.rule_laws.specs.declared.formula.Formula.TheVariants as formulas
use Rattle.rule_laws.specs.declared.formula.Truth.{Truth}
use Rattle.rule_laws.specs.declared.operation.Rel.{Rel}
use Rattle.rule_tree.specs.declared.tree.Tree.{Tree, out-Tree}
use Rattle.rule_tree.specs.declared.tree.Tree.TheOpen.{Tree-F}
use Rattle.bind_areas.specs.declared.cause.BindCause.TheVariants.{UnknownName, WrongCount, Unsupported}
use Rattle.bind_areas.specs.Meaning.{Meaning, done, ◌>>=◌}
use Rattle.bind_arguments.specs.declared.element_function.ElementFunction.{ElementFunction}
use Rattle.bind_arguments.specs.declared.element_function.ElementFunction.TheVariants as functions
use Rattle.bind_arguments.specs.declared.element_text.ElementText.{ElementText}
use Rattle.bind_arguments.specs.declared.element_text.ElementText.TheVariants as texts
use Rattle.rule_bind.specs.OwnNumbers.{plain_place, own_axis, same_place, attribute_at, table_at}
use Rattle.rule_bind.specs.Sureness.{Sets, comparison}

-- the place of the dimension whose element has a text, where that isn't the same for all, and the text
abbrev pub Side : Type 0
Side = Option ℕ × ElementText

-- DTYPE of the cell's own element
abbrev pub kind_side : Layout → ℕ → List Tree → Meaning Side
kind_side space cube arguments = do
  own ← plain_place space cube arguments
  done (Some own, texts.Kind)

-- ATTRS of the cell's own element
abbrev pub attribute_side : Layout → ℕ → List Tree → Meaning Side
attribute_side space cube (dim ∷ of ∷ name ∷ []) = do
  own ← own_axis space cube dim of
  attribute ← attribute_at space cube own name
  done (Some own, texts.Attribute attribute)
attribute_side space cube _ = Err WrongCount

abbrev pub call_side : Layout → ℕ → List ℕ → List Tree → Meaning Side
call_side space cube word arguments =
    if bytes_eq word (codes "DTYPE") then kind_side space cube arguments
    else if bytes_eq word (codes "ATTRS") then attribute_side space cube arguments
    else Err Unsupported

-- the name of the cell's own element
abbrev pub name_side : Layout → ℕ → List ℕ → Meaning Side
name_side space cube dim = do
  place ← ok_or (axis_called (axes space cube) dim) UnknownName
  done (Some place, texts.Name)

abbrev pub side_in_layer : Layout → ℕ → Tree-F Tree → Meaning Side
side_in_layer space cube (Tree-F.Text bytes) = done (None, texts.Fixed bytes)
side_in_layer space cube (Tree-F.Current dim) = name_side space cube dim
side_in_layer space cube (Tree-F.Call word arguments) = call_side space cube word arguments
side_in_layer space cube _ = Err Unsupported

-- the text that a formula is
unfoldable pub side_of : Layout → ℕ → Tree → Meaning Side
side_of space cube tree = side_in_layer space cube (out-Tree tree)

-- the place of the one dimension whose elements have two texts
abbrev pub shared_place : Option ℕ → Option ℕ → Meaning ℕ
shared_place (Some place) (Some other) = same_place place other
shared_place (Some place) None = done place
shared_place None (Some other) = done other
shared_place None None = Err Unsupported

-- whether a table is 1
abbrev pub compared : Layout → ℕ → Sets → Rel → ℕ → ElementFunction → Truth
compared space cube sets rel place function =
    comparison space cube sets rel (table_at space cube place function) (formulas.Number (pos unit))

-- texts that are the same, by the relation =, or other ones, by <>
unfoldable pub texts_truth : Layout → ℕ → Sets → Rel → Tree → Tree → Meaning Truth
texts_truth space cube sets rel left right = do
  text ← side_of space cube left
  other ← side_of space cube right
  place ← shared_place text.0 other.0
  done (compared space cube sets rel place (functions.Same text.1 other.1))
