-- What DIMSIZ means: how many elements a dimension of the model has. The number stands in a TRUNC, which leaves it as
-- it is: the zero test takes a number alone for one that the rule writes, and what it finds mustn't change with the
-- elements of a dimension.
use Rattle.std.specs.Prelude.{ℕ, ◌*◌, pos, List, [], ◌∷◌, length, Err, slice_get, ok_or, option_map, option_and_then}
use Rattle.cube_fixed.specs.Range.{unit}
use Rattle.dim_name.specs.Name.{place_of}
use Rattle.cube_space.specs.Layout.{Layout, dimension_names}
use Rattle.rule_laws.specs.declared.formula.Formula.{Formula}
use Rattle.rule_laws.specs.declared.formula.Formula.TheVariants as formulas
use Rattle.rule_laws.specs.declared.operation.Fun.TheVariants as funs
use Rattle.rule_tree.specs.declared.tree.Tree.{Tree}
use Rattle.bind_areas.specs.declared.cause.BindCause.TheVariants.{UnknownName, WrongCount}
use Rattle.bind_areas.specs.Meaning.{Meaning, done, ◌>>=◌}
use Rattle.rule_bind.specs.References.{fixed_name}

-- how many elements the dimension has that a quoted text names
unfoldable pub size_named : Layout → Tree → Meaning ℕ
size_named space tree = do
  name ← fixed_name tree
  ok_or (option_map (λ d. length d.elements) (option_and_then (slice_get space.dimensions)
      (option_and_then (place_of (dimension_names space)) name))) UnknownName

-- a number that isn't written, in units
abbrev pub counted : ℕ → Formula
counted units = formulas.Unary funs.Trunc (formulas.Number (pos (units * unit)))

unfoldable pub size_call : Layout → List Tree → Meaning Formula
size_call space (dim ∷ []) = do
  size ← size_named space dim
  done (counted size)
size_call space _ = Err WrongCount
