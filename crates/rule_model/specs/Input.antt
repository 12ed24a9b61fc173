-- Whether a number may be written into a cell.
use Rattle.std.specs.Prelude.{ℕ, Bool, true, false, ◌&&◌, ◌||◌}
use Rattle.std.specs.Prelude.{List, [], ◌∷◌}
use Rattle.std.specs.Option.{option_map_or}
use Rattle.cube_space.specs.Cells.{is_leaf_cell}
use Rattle.rule_laws.specs.declared.formula.Formula.{Formula}
use Rattle.rule_laws.specs.declared.formula.Formula.TheFolds.{fold-Formula}
use Rattle.rule_laws.specs.declared.formula.Formula.TheOpen.{Formula-F, Truth-F}
use Rattle.rule_laws.specs.RuleSystem.{Rule, part_at}
use Rattle.rule_model.specs.BoundModel.{BoundModel}
use Rattle.rule_model.specs.System.{system_of}
use Rattle.rule_model.specs.Governing.{rules_for}

-- whether STET stands in a formula, and whether CONTINUE does
abbrev pub stet_step : Formula-F Bool Bool → Bool
stet_step (Formula-F.Number k) = false
stet_step Formula-F.Stet = true
stet_step Formula-F.Continue = false
stet_step (Formula-F.Children dim) = false
stet_step (Formula-F.Ref r) = false
stet_step (Formula-F.Table dim table) = false
stet_step (Formula-F.Binary op a b) = a || b
stet_step (Formula-F.Unary function a) = a
stet_step (Formula-F.If truth a b) = (truth || a) || b

abbrev pub continue_step : Formula-F Bool Bool → Bool
continue_step (Formula-F.Number k) = false
continue_step Formula-F.Stet = false
continue_step Formula-F.Continue = true
continue_step (Formula-F.Children dim) = false
continue_step (Formula-F.Ref r) = false
continue_step (Formula-F.Table dim table) = false
continue_step (Formula-F.Binary op a b) = a || b
continue_step (Formula-F.Unary function a) = a
continue_step (Formula-F.If truth a b) = (truth || a) || b

abbrev pub either_step : Truth-F Bool Bool → Bool
either_step (Truth-F.Compare rel a b) = a || b
either_step (Truth-F.And a b) = a || b
either_step (Truth-F.Or a b) = a || b
either_step (Truth-F.Not a) = a

abbrev pub has_stet : Formula → Bool
has_stet = fold-Formula Bool Bool stet_step either_step

abbrev pub has_continue : Formula → Bool
has_continue = fold-Formula Bool Bool continue_step either_step

-- whether a leaf cell is open for input from these statements on: none has a part for it; or the first that has one
-- contains STET, or contains CONTINUE and the cell is open from the statements after it on
abbrev pub is_open : BoundModel → ℕ → List Rule → Bool
is_open model cell [] = true
is_open model cell (rule ∷ rules) =
    option_map_or (λ f. has_stet f || (has_continue f && is_open model cell rules))
    (part_at (system_of model) cell rule) (is_open model cell rules)

-- whether a number can be stored in a cell: it is a leaf cell, and open for input
unfoldable pub is_input : BoundModel → ℕ → Bool
is_input model cell = is_leaf_cell model.space cell && is_open model cell (rules_for model cell)
