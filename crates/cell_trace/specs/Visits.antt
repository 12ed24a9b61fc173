-- What evaluation reaches in a formula. Of an IF it reaches the branch that is taken alone, and a condition is
-- evaluated only as far as it is open.
use Rattle.std.specs.Prelude.{ℕ, ◌+◌, not, ◌&&◌, ◌||◌, Bool, if◌then◌else◌, List, [], ◌∷◌, ◌++◌, Option, Some, None}
use Rattle.std.specs.Prelude.{replicate}
use Rattle.cube_fixed.specs.declared.value.Value.{Value}
use Rattle.cube_fixed.specs.declared.value.Value.TheVariants.{Num}
use Rattle.rule_laws.specs.declared.formula.Formula.{Formula}
use Rattle.rule_laws.specs.declared.formula.Formula.TheFolds.{fold-Formula, fold-Truth}
use Rattle.rule_laws.specs.declared.formula.Formula.TheOpen.{Formula-F, Truth-F}
use Rattle.rule_laws.specs.declared.formula.Truth.{Truth}
use Rattle.rule_laws.specs.declared.reference.Reference.{Reference}
use Rattle.rule_laws.specs.Meaning.{Others}
use Rattle.rule_laws.specs.Tables.{number_of}
use Rattle.rule_laws.specs.Operation.{operation_of, function_of, comparison_of}
use Rattle.cell_trace.specs.declared.item.Item.{Item}
use Rattle.cell_trace.specs.declared.item.Item.TheVariants.{Read, Children, Own, Rest}

-- what a formula takes at a cell: the cell that each reference names and what it gives, whether the cell's element has
-- components in a dimension, what STET, CONTINUE and ConsolidateChildren give, and the cell's element in each dimension
pub record Given : Type 0 where
  pub target : Reference → Option ℕ
  pub named : Reference → Value
  pub has_components : ℕ → Bool
  pub others : Others

-- of a formula: its value, how many references stand in it, and what evaluation reaches, in reading order; None is a
-- reference that it passes over
pub record Visit : Type 0 where
  pub value : Value
  pub references : ℕ
  pub items : List (Option Item)

-- the same of a condition
pub record Test : Type 0 where
  pub holds : Bool
  pub references : ℕ
  pub items : List (Option Item)

-- evaluation passes over so many references
abbrev pub passed : ℕ → List (Option Item)
passed references = replicate references None

abbrev pub visit_step : Given → Formula-F Visit Test → Visit
visit_step given (Formula-F.Number k) = record { value = Num k; references = 0; items = [] }
visit_step given Formula-F.Stet = record { value = given.others.stet; references = 0; items = Some Own ∷ [] }
visit_step given Formula-F.Continue = record { value = given.others.rest; references = 0; items = Some Rest ∷ [] }
visit_step given (Formula-F.Children dim) =
    record {
      value = given.others.children dim;
      references = 1;
      items = if given.has_components dim then Some (Children dim) ∷ [] else None ∷ Some Own ∷ [];
    }
visit_step given (Formula-F.Ref r) =
    record { value = given.named r; references = 1; items = Some (Read (given.target r)) ∷ [] }
visit_step given (Formula-F.Table dim table) =
    record { value = Num (number_of table (given.others.own dim)); references = 0; items = [] }
visit_step given (Formula-F.Binary op a b) =
    record {
      value = operation_of op a.value b.value;
      references = a.references + b.references;
      items = a.items ++ b.items;
    }
visit_step given (Formula-F.Unary function a) =
    record { value = function_of function a.value; references = a.references; items = a.items }
visit_step given (Formula-F.If truth a b) =
    record {
      value = if truth.holds then a.value else b.value;
      references = truth.references + (a.references + b.references);
      items = truth.items
          ++ (if truth.holds then a.items ++ passed b.references else passed a.references ++ b.items);
    }

abbrev pub test_step : Truth-F Visit Test → Test
test_step (Truth-F.Compare rel a b) =
    record {
      holds = comparison_of rel a.value b.value;
      references = a.references + b.references;
      items = a.items ++ b.items;
    }
test_step (Truth-F.And a b) =
    record {
      holds = a.holds && b.holds;
      references = a.references + b.references;
      items = a.items ++ (if a.holds then b.items else passed b.references);
    }
test_step (Truth-F.Or a b) =
    record {
      holds = a.holds || b.holds;
      references = a.references + b.references;
      items = a.items ++ (if a.holds then passed b.references else b.items);
    }
test_step (Truth-F.Not a) = record { holds = not a.holds; references = a.references; items = a.items }

abbrev pub visit : Given → Formula → Visit
visit given = fold-Formula Visit Test (visit_step given) test_step

abbrev pub test : Given → Truth → Test
test given = fold-Truth Visit Test (visit_step given) test_step
