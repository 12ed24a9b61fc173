-- The lines that say what covers an operand of a statement's N part, or would.
use Rattle.std.specs.Prelude.{◌≡◌, ℕ, ◌-◌, Option, Some, None, List, [], ◌∷◌, ◌++◌, codes, slice_get, slice_index_or}
use Rattle.std.specs.List.{flat_map}
use Rattle.cell_names.specs.CellNames.{quoted_name}
use Rattle.cube_lex.specs.Written.{IsWritten}
use Rattle.cube_space.specs.Layout.{Layout, cube_names}
use Rattle.dim_name.specs.Bytes.{newline}
use Rattle.feed_find.specs.Choosing.{choice}
use Rattle.feed_find.specs.declared.choice.Choice.{Choice}
use Rattle.feed_find.specs.declared.choice.Choice.TheVariants.{Covered, Turned, Missing}
use Rattle.feed_print.specs.FeederTexts.{feeder_text}
use Rattle.rule_laws.specs.declared.reference.Reference.{Reference}
use Rattle.rule_model.specs.BoundModel.{BoundModel, rules_of}
use Rattle.rule_model.specs.declared.area.Area.{Area}
use Rattle.rule_model.specs.declared.rules.Feeder.{Feeder}
use Rattle.rule_model.specs.declared.rules.Statement.{Statement}
use Rattle.rule_printer.specs.Spelled.{feeder_spelled}
use Rattle.rule_tree.specs.declared.rule.FeederText.{FeederText}
use Rattle.operand_cover.specs.Operands.{operand_at}

abbrev pub covered_line : List ℕ
covered_line = codes "  covered" ++ newline ∷ []

abbrev pub uncovered_line : List ℕ
uncovered_line = codes "  not covered" ++ newline ∷ []

abbrev pub unturned_line : List ℕ
unturned_line = codes "  none can be turned round" ++ newline ∷ []

abbrev pub unsaid_line : List ℕ
unsaid_line = codes "  a feeder that no rule text says would cover it" ++ newline ∷ []

-- new is old with `  feeder of 'CUBE': ` and a feeder of that cube behind it, token by token
abbrev pub AddsFeeder : List ℕ → FeederText → List ℕ → List ℕ → Type 0
AddsFeeder name text old new = (written : List ℕ) × IsWritten (flat_map feeder_spelled (text ∷ [])) written
    × (new ≡ old ++ (codes "  feeder of " ++ (quoted_name name ++ (codes ": " ++ written))))

-- the same of a feeder, or that no rule text says it
abbrev pub AddsText : List ℕ → Option FeederText → List ℕ → List ℕ → Type 0
AddsText name (Some text) old new = AddsFeeder name text old new
AddsText name None old new = new ≡ old ++ unsaid_line

abbrev pub AddsFeederOf : Layout → ℕ → Feeder → List ℕ → List ℕ → Type 0
AddsFeederOf space cube feeder old new =
    AddsText (slice_index_or (cube_names space) cube []) (feeder_text space cube feeder) old new

-- a feeder of the model covers a reference to this cube, or this one of the cube would, or none
abbrev pub AreChoiceLines : Layout → ℕ → Choice → List ℕ → Type 0
AreChoiceLines space cube Covered lines = lines ≡ covered_line
AreChoiceLines space cube (Turned feeder) lines = AddsFeederOf space cube feeder uncovered_line lines
AreChoiceLines space cube Missing lines = lines ≡ uncovered_line ++ unturned_line

-- of a reference of a statement of a cube with this area, if there is one
abbrev pub AreReferenceLines : BoundModel → ℕ → Area → Option Reference → List ℕ → Type 0
AreReferenceLines model cube area (Some r) lines = AreChoiceLines model.space r.cube (choice model cube area r) lines
AreReferenceLines model cube area None lines = lines ≡ []

-- of an operand of a statement of a cube, if there is the statement
abbrev pub AreStatementLines : BoundModel → ℕ → ℕ → Option Statement → List ℕ → Type 0
AreStatementLines model cube operand (Some s) lines =
    AreReferenceLines model cube s.area (operand_at s.leaf operand) lines
AreStatementLines model cube operand None lines = lines ≡ []

-- of the operand of this number, from 1, of the statement of this number, from 1, of a cube
abbrev pub AreOperandLines : BoundModel → ℕ → ℕ → ℕ → List ℕ → Type 0
AreOperandLines model cube statement operand lines =
    AreStatementLines model cube operand (slice_get (rules_of model cube).statements (statement - 1)) lines
