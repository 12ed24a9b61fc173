-- What the text of a cube's rules means.
use Rattle.std.specs.Prelude.{◌≡◌, ◌⊎◌, ℕ, ◌+◌, List, [], ◌∷◌, ◌++◌, Option, Some, None, Result, Ok, Err}
use Rattle.cube_space.specs.Layout.{Layout}
use Rattle.rule_laws.specs.declared.formula.Formula.{Formula}
use Rattle.rule_laws.specs.declared.reference.Reference.{Reference}
use Rattle.rule_model.specs.declared.area.Area.{Area}
use Rattle.rule_model.specs.declared.rules.CubeRules.{CubeRules}
use Rattle.rule_model.specs.declared.rules.Statement.{Statement}
use Rattle.rule_model.specs.declared.rules.Feeder.{Feeder}
use Rattle.rule_model.specs.declared.rules.Form.{Form}
use Rattle.rule_model.specs.declared.rules.Form.TheVariants.{Both, LeafFirst, ConsFirst}
use Rattle.rule_tree.specs.declared.rule.BodyText.{BodyText}
use Rattle.rule_tree.specs.declared.rule.BodyText.TheVariants as bodies
use Rattle.rule_tree.specs.declared.rule.FeederText.{FeederText}
use Rattle.rule_tree.specs.declared.rule.RuleText.{RuleText}
use Rattle.rule_tree.specs.declared.rule.StatementText.{StatementText}
use Rattle.rule_tree.specs.declared.rule.TargetText.{TargetText}
use Rattle.rule_tree.specs.declared.rule.TargetText.TheVariants as targets
use Rattle.rule_tree.specs.declared.tree.Tree.{Tree}
use Rattle.bind_areas.specs.declared.cause.BindCause.TheVariants.{Memory}
use Rattle.bind_areas.specs.Meaning.{Meaning, done, ◌>>=◌}
use Rattle.bind_areas.specs.Areas.{area_of, bracket_of}
use Rattle.rule_bind.specs.declared.fault.BindAt.{BindAt}
use Rattle.rule_bind.specs.declared.fault.BindAt.TheVariants as places
use Rattle.rule_bind.specs.declared.fault.BindFault.{BindFault}
use Rattle.rule_bind.specs.declared.standing.Standing.{Standing}
use Rattle.rule_bind.specs.declared.standing.Standing.TheVariants as standings
use Rattle.rule_bind.specs.References.{db_of}
use Rattle.rule_bind.specs.Formulas.{value_of}
use Rattle.rule_bind.specs.Sureness.{Sets}

-- a formula for leaf cells or for both kinds, by what is known of the statement's area, and one for consolidated cells
-- alone
abbrev pub part_of : Layout → ℕ → Sets → Tree → Meaning Formula
part_of space cube sets tree = value_of space cube sets standings.Part tree

abbrev pub consolidated_of : Layout → ℕ → Tree → Meaning Formula
consolidated_of space cube tree = value_of space cube [] standings.ConsolidatedPart tree

-- the parts of a statement, for leaf cells and for consolidated cells, in the order in which they are written
abbrev pub Parts : Type 0
Parts = Option Formula × Option Formula

-- the one for leaf cells, and then the one for consolidated cells
abbrev pub leaf_first : Layout → ℕ → Sets → Tree → Standing → Tree → Meaning Parts
leaf_first space cube sets leaf at cons = do
  f ← part_of space cube sets leaf
  g ← value_of space cube [] at cons
  done (Some f, Some g)

-- the one for consolidated cells, and then the one for leaf cells
abbrev pub cons_first : Layout → ℕ → Sets → Tree → Tree → Meaning Parts
cons_first space cube sets cons leaf = do
  g ← consolidated_of space cube cons
  f ← part_of space cube sets leaf
  done (Some f, Some g)

-- a formula for both kinds is bound once for each: of the area of consolidated cells nothing is known
abbrev pub parts_of : Layout → ℕ → Sets → BodyText → Meaning Parts
parts_of space cube sets (bodies.Both tree) = leaf_first space cube sets tree standings.Part tree
parts_of space cube sets (bodies.Leaf tree) = do f ← part_of space cube sets tree; done (Some f, None)
parts_of space cube sets (bodies.Cons tree) = do g ← consolidated_of space cube tree; done (None, Some g)
parts_of space cube sets (bodies.LeafCons leaf cons) = leaf_first space cube sets leaf standings.ConsolidatedPart cons
parts_of space cube sets (bodies.ConsLeaf cons leaf) = cons_first space cube sets cons leaf

-- the part that stands first or alone
abbrev pub form_of : BodyText → Form
form_of (bodies.Both tree) = Both
form_of (bodies.Leaf tree) = LeafFirst
form_of (bodies.Cons tree) = ConsFirst
form_of (bodies.LeafCons leaf cons) = LeafFirst
form_of (bodies.ConsLeaf cons leaf) = ConsFirst

unfoldable pub statement_of : Layout → ℕ → StatementText → Meaning Statement
statement_of space cube statement = do
  cells ← area_of space cube statement.area
  parts ← parts_of space cube cells.sets statement.body
  done (record { area = cells; leaf = parts.0; cons = parts.1; form = form_of statement.body })

-- a cell that a feeder feeds
abbrev pub target_of : Layout → ℕ → TargetText → Meaning Reference
target_of space cube (targets.Bracket simples) = bracket_of space cube simples
target_of space cube (targets.Db trees) = db_of space cube trees

-- each of its targets makes a feeder of its own, with these source cells
abbrev pub feeders_to : Layout → ℕ → ℕ → Area → List TargetText → Meaning (List Feeder)
feeders_to space cube number cells [] = done []
feeders_to space cube number cells (target ∷ targets) = do
  fed ← target_of space cube target
  feeders ← feeders_to space cube number cells targets
  done (record { area = cells; target = fed; statement = number } ∷ feeders)

-- the feeders of a feeder statement, which has this number, from 0
unfoldable pub feeders_of : Layout → ℕ → ℕ → FeederText → Meaning (List Feeder)
feeders_of space cube number feeder = do
  cells ← area_of space cube feeder.area
  feeders_to space cube number cells feeder.targets

-- a fault with the place where it stands
abbrev pub standing_at : {A : Type 0} → BindAt → Meaning A → Result A BindFault
standing_at at (Ok a) = Ok a
standing_at at (Err cause) = Err (record { at = at; cause = cause })

-- statements in their order, behind so many
abbrev pub statements_of : Layout → ℕ → ℕ → List StatementText → Result (List Statement) BindFault
statements_of space cube before [] = done []
statements_of space cube before (statement ∷ statements) = do
  first ← standing_at (places.Statement (before + 1)) (statement_of space cube statement)
  others ← statements_of space cube (before + 1) statements
  done (first ∷ others)

-- the feeders of feeder statements in their order, behind so many
abbrev pub all_feeders_of : Layout → ℕ → ℕ → List FeederText → Result (List Feeder) BindFault
all_feeders_of space cube before [] = done []
all_feeders_of space cube before (feeder ∷ feeders) = do
  first ← standing_at (places.Feeder (before + 1)) (feeders_of space cube before feeder)
  others ← all_feeders_of space cube (before + 1) feeders
  done (first ++ others)

-- the rules of a cube, which declare no order; or the first fault of their text, with its place
unfoldable pub rules_of : Layout → ℕ → RuleText → Result CubeRules BindFault
rules_of space cube text = do
  statements ← statements_of space cube 0 text.statements
  feeders ← all_feeders_of space cube 0 text.feeders
  done (record {
    skipcheck = text.skipcheck;
    statements = statements;
    feeders = feeders;
    order = record { positions = []; totals = None };
  })

-- an answer is what the text means; out of memory may come in its place
abbrev pub IsBound : {A : Type 0} → Result A BindFault → Result A BindFault → Type 0
IsBound meant (Ok a) = meant ≡ Ok a
IsBound meant (Err fault) = (fault.cause ≡ Memory) ⊎ (meant ≡ Err fault)
