-- The statements that are entered, one after another.
use Rattle.std.specs.Prelude.{ℕ, suc, if◌then◌else◌, List, [], ◌∷◌, ◌++◌}
use Rattle.std.specs.Option.{option_map_or}
use Rattle.rule_laws.specs.declared.formula.Formula.{Formula}
use Rattle.rule_model.specs.declared.rules.Statement.{Statement}
use Rattle.cell_trace.specs.declared.entered.Entered.{Entered}
use Rattle.cell_trace.specs.declared.line.Line.{Line}
use Rattle.cell_trace.specs.declared.line.Line.TheVariants as lines
use Rattle.cell_trace.specs.Trace.{Scene, dimensions_in, first_number, formula_of, item_lines, items_of, reaches_rest}
use Rattle.cell_trace.specs.Trace.{system}

-- the statement at a place, with this formula for the cell, before these statements
abbrev pub entry : Scene → ℕ → Statement → List Statement → Formula → Entered
entry s place statement later f =
    record {
      place = place;
      first = first_number ((system s).is_leaf s.cell) statement;
      visited = items_of s later f;
    }

-- the statements that are entered, of these, which begin at this place
abbrev pub entered : Scene → ℕ → List Statement → List Entered
entered s place [] = []
entered s place (statement ∷ later) =
    option_map_or
    (λ f. entry s place statement later f
    ∷ (if reaches_rest (items_of s later f) then entered s (suc place) later else []))
    (formula_of s statement) (entered s (suc place) later)

-- their lines, one after another
abbrev pub entered_lines : Scene → List ℕ → List Entered → List Line
entered_lines s seen [] = []
entered_lines s seen (one ∷ rest) =
    lines.Rule (suc one.place)
    ∷ (item_lines s seen one.first one.visited ++ entered_lines s (dimensions_in one.visited ++ seen) rest)
