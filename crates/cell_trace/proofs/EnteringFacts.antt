-- The lines of statements are those of the statements that are entered.
use Rattle.std.proofs.Common.{◌≡◌, refl, ap, ℕ, suc, Bool, true, false, if◌then◌else◌, List, [], ◌∷◌, ◌++◌, Option, Some, None}
use Rattle.std.specs.Option.{option_map_or}
use Rattle.rule_laws.specs.declared.formula.Formula.{Formula}
use Rattle.rule_model.specs.declared.rules.Statement.{Statement}
use Rattle.cell_trace.specs.declared.line.Line.{Line}
use Rattle.cell_trace.specs.declared.line.Line.TheVariants as lines
use Rattle.cell_trace.specs.Trace.{Scene, dimensions_in, first_number, formula_of, item_lines, items_of, lines_from, reaches_rest, system}
use Rattle.cell_trace.specs.Inside.Entering.{entered, entered_lines, entry}

module _ (s : Scene) where
  -- what the later statements have
  abbrev After : List ℕ → ℕ → List Statement → Type 0
  After seen place later = lines_from s seen place later ≡ entered_lines s seen (entered s place later)

  after : (seen : List ℕ) (place : ℕ) (later : List Statement) (on : Bool) → After seen place later
      → (if on then lines_from s seen place later else []) ≡ entered_lines s seen (if on then entered s place later else [])
  after seen place later true same = same
  after seen place later false same = refl

  module _ (seen : List ℕ) (place : ℕ) (statement : Statement) (later : List Statement) where
    -- the lines where this is the statement's formula, and the dimensions that are seen after it
    abbrev head : Formula → List Line → List Line
    head f more = lines.Rule (suc place) ∷ (item_lines s seen (first_number ((system s).is_leaf s.cell) statement) (items_of s later f) ++ more)

    abbrev dims : Formula → List ℕ
    dims f = dimensions_in (items_of s later f) ++ seen

    with_statement : (o : Option Formula) → ((dims : List ℕ) → After dims (suc place) later)
        → option_map_or (λ f. head f (if reaches_rest (items_of s later f) then lines_from s (dims f) (suc place) later else [])) o (lines_from s seen (suc place) later)
        ≡ entered_lines s seen
        (option_map_or (λ f. entry s place statement later f ∷ (if reaches_rest (items_of s later f) then entered s (suc place) later else [])) o (entered s (suc place) later))
    with_statement None rest = rest seen
    with_statement (Some f) rest = ap (head f) (after (dims f) (suc place) later (reaches_rest (items_of s later f)) (rest (dims f)))

  pub lines_are_entered : (seen : List ℕ) (place : ℕ) (statements : List Statement) → lines_from s seen place statements ≡ entered_lines s seen (entered s place statements)
  lines_are_entered seen place [] = refl
  lines_are_entered seen place (statement ∷ later) =
      with_statement seen place statement later (formula_of s statement) (λ dims. lines_are_entered dims (suc place) later)
