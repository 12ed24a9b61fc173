-- Why a cell has its value: the statements that are entered for it, what each reads, and what is added up.
use Rattle.std.specs.Prelude.{ℕ, suc, ◌-◌, ◌==◌, nat_lt, ℤ, Bool, true, false, not, ◌&&◌, ◌||◌, if◌then◌else◌}
use Rattle.std.specs.Prelude.{List, [], ◌∷◌, ◌++◌, map, filter, length, take, Option, Some, None, is_some}
use Rattle.std.specs.List.{list_any}
use Rattle.std.specs.Option.{option_map_or}
use Rattle.cube_fixed.specs.declared.value.Value.{Value}
use Rattle.cube_fixed.specs.Arithmetic.{is_zero}
use Rattle.cell_store.specs.declared.entry.Entry.{Entry}
use Rattle.cube_space.specs.Cells.{cube_of}
use Rattle.rule_laws.specs.declared.formula.Formula.{Formula}
use Rattle.rule_laws.specs.Meaning.{precedents}
use Rattle.rule_laws.specs.RuleSystem.{RuleSystem, Stored, dense_value, named, others, part_at, value_by}
use Rattle.rule_model.specs.declared.rules.Form.{Form}
use Rattle.rule_model.specs.declared.rules.Form.TheVariants.{Both, LeafFirst, ConsFirst}
use Rattle.rule_model.specs.declared.rules.Statement.{Statement}
use Rattle.rule_model.specs.BoundModel.{BoundModel, rules_of}
use Rattle.rule_model.specs.System.{system_of, rule_of}
use Rattle.stored_laws.specs.Stored.{stored_in}
use Rattle.cell_trace.specs.declared.item.Item.{Item}
use Rattle.cell_trace.specs.declared.item.Item.TheVariants as items
use Rattle.cell_trace.specs.declared.line.Line.{Line}
use Rattle.cell_trace.specs.declared.line.Line.TheVariants as lines
use Rattle.cell_trace.specs.Visits.{Given, visit}

-- a cell of a model, what is stored, and the values of all cells
pub record Scene : Type 0 where
  pub model : BoundModel
  pub stored : Stored
  pub values : ℕ → Value
  pub cell : ℕ

-- a cell of a model where this is stored: each cell has the value that plain rounds of evaluation give it
abbrev pub scene_of : BoundModel → List Entry → ℕ → Scene
scene_of model stored cell =
    record {
      model = model;
      stored = stored_in stored;
      values = dense_value (system_of model) (stored_in stored);
      cell = cell;
    }

abbrev pub system : Scene → RuleSystem
system s = system_of s.model

-- at most so many parts of a sum are listed
abbrev pub most_parts : ℕ
most_parts = 1000

-- the lines of a sum over these cells, each with its weight
abbrev pub part_lines : (ℕ → Value) → List (ℕ × ℤ) → List Line
part_lines values cells =
    map (λ pair. lines.Part (record { cell = pair.0; weight = pair.1; value = values pair.0 })) (take most_parts cells)
    ++ (if nat_lt most_parts (length cells) then lines.More (length cells - most_parts) ∷ [] else [])

-- the lines of what the cell would have if no statement governed it: of a total those leaf cells below it are listed
-- that aren't 0
abbrev pub own_lines : Scene → List Line
own_lines s =
    if (system s).is_leaf s.cell then lines.Input (is_some (s.stored s.cell)) ∷ []
    else lines.Sum ∷ part_lines s.values (filter (λ pair. not (is_zero (s.values pair.0))) ((system s).below s.cell))

-- the line of a reference of this number, by the cell that it names
abbrev pub read_line : Scene → ℕ → Option ℕ → Line
read_line s number None = lines.ReadsNothing number
read_line s number (Some x) = lines.Reads number x (s.values x)

-- the lines of a ConsolidateChildren in a dimension: all components are parts, which are listed once, so not where the
-- dimension is one of those seen before
abbrev pub children_lines : Scene → List ℕ → ℕ → List Line
children_lines s seen dim =
    lines.Children dim
    ∷ (if list_any (λ d. d == dim) seen then []
    else option_map_or (part_lines s.values) ((system s).components s.cell dim) [])

-- the lines of what evaluation reaches in a statement, from the reference of this number on
abbrev pub item_lines : Scene → List ℕ → ℕ → List (Option Item) → List Line
item_lines s seen number [] = []
item_lines s seen number (None ∷ rest) = item_lines s seen (suc number) rest
item_lines s seen number (Some (items.Read target) ∷ rest) =
    read_line s number target ∷ item_lines s seen (suc number) rest
item_lines s seen number (Some (items.Children dim) ∷ rest) =
    children_lines s seen dim ++ item_lines s (dim ∷ seen) (suc number) rest
item_lines s seen number (Some items.Own ∷ rest) = item_lines s seen number rest
item_lines s seen number (Some items.Rest ∷ rest) = item_lines s seen number rest

-- what a formula takes at the cell, where the statements after it give `rest`
abbrev pub given : Scene → Value → Given
given s rest =
    record {
      target = λ r. (system s).target r s.cell;
      named = named (system s) s.values s.cell;
      has_components = λ dim. is_some ((system s).components s.cell dim);
      others = others (system s) s.stored s.values s.cell rest;
    }

-- what statements give the cell
abbrev pub value_of : Scene → List Statement → Value
value_of s statements =
    value_by (system s) s.stored s.values s.cell
    (map (rule_of s.model.space (cube_of s.model.space s.cell)) statements)

-- what evaluation reaches in a formula before these statements
abbrev pub items_of : Scene → List Statement → Formula → List (Option Item)
items_of s later f = (visit (given s (value_of s later)) f).items

-- the formula that a statement has for the cell
abbrev pub formula_of : Scene → Statement → Option Formula
formula_of s statement =
    part_at (system s) s.cell (rule_of s.model.space (cube_of s.model.space s.cell) statement)

-- whether evaluation reaches CONTINUE, and whether it reaches STET
abbrev pub reaches_rest : List (Option Item) → Bool
reaches_rest visited = list_any (λ item. option_map_or is_rest item false) visited
  where
    is_rest : Item → Bool
    is_rest (items.Read target) = false
    is_rest (items.Children dim) = false
    is_rest items.Own = false
    is_rest items.Rest = true

abbrev pub reaches_own : List (Option Item) → Bool
reaches_own visited = list_any (λ item. option_map_or is_own item false) visited
  where
    is_own : Item → Bool
    is_own (items.Read target) = false
    is_own (items.Children dim) = false
    is_own items.Own = true
    is_own items.Rest = false

-- the number of the first reference of a statement's part: they are counted as in refusals, a formula that is both
-- parts once, else those of the part that stands first come first
abbrev pub first_number : Bool → Statement → ℕ
first_number leaf statement = by statement.form leaf
  where
    behind : Option Formula → ℕ
    behind part = suc (option_map_or (λ f. length (precedents f)) part 0)

    by : Form → Bool → ℕ
    by Both leaf = 1
    by LeafFirst true = 1
    by LeafFirst false = behind statement.leaf
    by ConsFirst true = behind statement.cons
    by ConsFirst false = 1

-- whether the cell is given what it would have if no statement governed it: by STET, or where no statement is left
abbrev pub takes_own : Scene → List Statement → Bool
takes_own s [] = true
takes_own s (statement ∷ later) =
    option_map_or
    (λ f. reaches_own (items_of s later f) || (reaches_rest (items_of s later f) && takes_own s later))
    (formula_of s statement) (takes_own s later)

-- the dimensions of which components are added up
abbrev pub dimensions_in : List (Option Item) → List ℕ
dimensions_in [] = []
dimensions_in (None ∷ rest) = dimensions_in rest
dimensions_in (Some (items.Read target) ∷ rest) = dimensions_in rest
dimensions_in (Some (items.Children dim) ∷ rest) = dim ∷ dimensions_in rest
dimensions_in (Some items.Own ∷ rest) = dimensions_in rest
dimensions_in (Some items.Rest ∷ rest) = dimensions_in rest

-- the lines of these statements, which begin at this place: the first that has a formula for the cell is entered, and
-- those after it where evaluation reaches CONTINUE. Parts are listed where the dimension isn't one of those seen
abbrev pub lines_from : Scene → List ℕ → ℕ → List Statement → List Line
lines_from s seen place [] = []
lines_from s seen place (statement ∷ later) =
    option_map_or
    (λ f. let visited = items_of s later f in
    lines.Rule (suc place)
    ∷ (item_lines s seen (first_number ((system s).is_leaf s.cell) statement) visited
    ++ (if reaches_rest visited then lines_from s (dimensions_in visited ++ seen) (suc place) later else [])))
    (formula_of s statement) (lines_from s seen (suc place) later)

-- the statements of the cell's cube
abbrev pub statements : Scene → List Statement
statements s = (rules_of s.model (cube_of s.model.space s.cell)).statements

-- the trace: the statements that are entered, and at the end what the cell would have without them, where it takes that
abbrev pub trace_lines : Scene → List Line
trace_lines s = lines_from s [] 0 (statements s) ++ (if takes_own s (statements s) then own_lines s else [])
