-- The rules of a model's cubes: from rule files to statements, feeders and orders over numbers.
use Rattle.std.specs.Prelude.{◌≡◌, ℕ, Bool, false, List, [], map, slice_index_or, if◌then◌else◌}
use Rattle.std.specs.Prelude.{Option, Some, None, option_map, Result, Ok, Err}
use Rattle.std.specs.List.{list_any}
use Rattle.std.specs.Option.{option_map_or}
use Rattle.cube_lex.specs.declared.position.Position.{Position}
use Rattle.cube_space.specs.Layout.{Layout, axes}
use Rattle.model_text.specs.Orders.{has_auto}
use Rattle.model_text.specs.declared.order.OrderLine.{OrderLine}
use Rattle.rule_tree.specs.declared.rule.RuleText.{RuleText}
use Rattle.rule_reader.specs.Answers.{Answers}
use Rattle.rule_reader.specs.declared.fault.RuleFault.{RuleFault}
use Rattle.rule_reader.specs.declared.fault.RuleFault.TheVariants as texts
use Rattle.bind_areas.specs.declared.cause.BindCause.{BindCause}
use Rattle.bind_areas.specs.declared.cause.BindCause.TheVariants as binds
use Rattle.rule_bind.specs.declared.fault.BindAt.{BindAt}
use Rattle.rule_bind.specs.declared.fault.BindAt.TheVariants as places
use Rattle.rule_bind.specs.declared.fault.BindFault.{BindFault}
use Rattle.rule_bind.specs.Rules.{rules_of}
use Rattle.bind_order.specs.Orders.{order_of}
use Rattle.bind_order.specs.Lags.{lag_of, lag_order}
use Rattle.rule_model.specs.declared.rules.CubeRules.{CubeRules}
use Rattle.rule_model.specs.declared.order.Order.{Order}
use Rattle.model_bind.specs.Files.{RuleFile}
use Rattle.model_bind.specs.declared.bound.BoundRules.{BoundRules}
use Rattle.model_bind.specs.declared.fault.At.{At}
use Rattle.model_bind.specs.declared.fault.At.TheVariants.{Text, Statement, Feeder}
use Rattle.model_bind.specs.declared.fault.DeployFault.{DeployFault}
use Rattle.model_bind.specs.declared.fault.DeployCause.{DeployCause}
use Rattle.model_bind.specs.declared.fault.DeployCause.TheVariants as causes
use Rattle.model_bind.specs.Foundation.{refused_in_model}
use Rattle.model_bind.specs.Stages.{Stage, found, meant, each, ◌>>=◌}

-- the name of a cube's rule file
abbrev pub file_name : List (Option RuleFile) → ℕ → Option (List ℕ)
file_name files cube = option_map (λ file. file.name) (slice_index_or files cube None)

-- a rule file is refused at this place
abbrev pub refused_in : List ℕ → Position → DeployCause → DeployFault
refused_in name place cause = record { file = Some name; at = Text place; cause = cause }

-- the rule file of a cube is refused at this statement
abbrev pub refused_at : List (Option RuleFile) → ℕ → ℕ → DeployCause → DeployFault
refused_at files cube statement cause =
    record { file = file_name files cube; at = Statement statement; cause = cause }

-- what is wrong with the text of a rule file; out of memory is nothing of it
abbrev pub text_refusal : List ℕ → RuleFault → Option DeployFault
text_refusal name (texts.Syntax place) = Some (refused_in name place causes.Syntax)
text_refusal name (texts.TooDeep place) = Some (refused_in name place causes.TooDeep)
text_refusal name (texts.TooMany place) = Some (refused_in name place causes.TooMany)
text_refusal name texts.Memory = None

-- without statements and feeders
abbrev pub no_text : RuleText
no_text = record { skipcheck = false; statements = []; finds_feeders = false; feeders = [] }

-- the text of a cube's rules: what its file has, and nothing where it has no file
abbrev pub text_stage : Option RuleFile → Stage RuleText
text_stage None = found no_text
text_stage (Some file) = record {
  finds = λ text. Answers file.bytes (Ok text);
  refuses = λ fault.
      (first : RuleFault) × Answers file.bytes (Err first) × (text_refusal file.name first ≡ Some fault);
}

-- where a rule text has no meaning, and why
abbrev pub place_of : BindAt → At
place_of (places.Statement number) = Statement number
place_of (places.Feeder number) = Feeder number

abbrev pub cause_of : BindCause → DeployCause
cause_of binds.UnknownName = causes.UnknownName
cause_of binds.Ambiguous = causes.Ambiguous
cause_of binds.WrongCount = causes.WrongCount
cause_of binds.DynamicReference = causes.DynamicReference
cause_of binds.Unsupported = causes.Unsupported
cause_of binds.Memory = causes.Memory

-- a meaning, or its first fault in this file
abbrev pub meant_in : Option (List ℕ) → Result CubeRules BindFault → Result CubeRules DeployFault
meant_in name (Ok rules) = Ok rules
meant_in name (Err fault) = Err (record { file = name; at = place_of fault.at; cause = cause_of fault.cause })

-- the rules that the text of a cube means, which declare no order yet
abbrev pub meaning_stage : Layout → List (Option RuleFile) → ℕ → RuleText → Stage CubeRules
meaning_stage space files cube text = meant (meant_in (file_name files cube) (rules_of space cube text))

-- rules in the order that a line means; where it means none it is refused at its place
abbrev pub in_order : CubeRules → Position → Option Order → Result CubeRules DeployFault
in_order rules place None = Err (refused_in_model place causes.BadOrder)
in_order rules place (Some order) =
    Ok (record {
      skipcheck = rules.skipcheck;
      statements = rules.statements;
      feeders = rules.feeders;
      order = order;
    })

-- whether the orders of a model are to be found: some order line says `AUTO`
abbrev pub is_automatic : List (Option (Position × OrderLine)) → Bool
is_automatic lines = list_any (λ line. option_map_or (λ at. has_auto at.1.words) line false) lines

-- the order that the lag alone makes which a line names; None where it has positions, or names no dimension of the cube
-- or the last one
abbrev pub lag_order_of : Layout → ℕ → OrderLine → Option Order
lag_order_of space cube line = option_map (lag_order (axes space cube)) (lag_of (axes space cube) line.words)

-- the order that a line means; where orders are to be found, that of the lag alone
abbrev pub line_order : Bool → Layout → ℕ → OrderLine → Option Order
line_order automatic space cube line = if automatic then lag_order_of space cube line else order_of space cube line

-- the rules of a cube with the order that its order line means, where it has one
abbrev pub by_line : Bool → Layout → ℕ → CubeRules → Option (Position × OrderLine) → Stage CubeRules
by_line automatic space cube rules None = found rules
by_line automatic space cube rules (Some line) =
    meant (in_order rules line.0 (line_order automatic space cube line.1))

abbrev pub order_stage : Layout → List (Option (Position × OrderLine)) → ℕ → CubeRules → Stage CubeRules
order_stage space lines cube rules = by_line (is_automatic lines) space cube rules (slice_index_or lines cube None)

-- which of these texts ask for feeders to be found
abbrev pub asking : List RuleText → List Bool
asking texts = map (λ text. text.finds_feeders) texts

-- the rules of each cube, and which of them ask for feeders to be found: all texts are read, then all are bound, and
-- then all order lines
unfoldable pub rules_stage
    : Layout → List (Option (Position × OrderLine)) → List (Option RuleFile) → Stage BoundRules
rules_stage space lines files = do
  texts ← each (λ _. text_stage) 0 files
  meant ← each (meaning_stage space files) 0 texts
  rules ← each (order_stage space lines) 0 meant
  found (record { rules = rules; asking = asking texts })
