-- How large a rule text may be.
use Rattle.std.specs.Prelude.{ℕ, ◌+◌, ◌≤◌, List, length}
use Rattle.std.specs.List.{sum, sum_by}
use Rattle.cube_lex.specs.Reading.{most_text_bytes}
use Rattle.rule_tree.specs.Counting.{most_statements}
use Rattle.rule_tree.specs.declared.rule.BodyText.{BodyText}
use Rattle.rule_tree.specs.declared.rule.BodyText.TheVariants as bodies
use Rattle.rule_tree.specs.declared.rule.FeederText.{FeederText}
use Rattle.rule_tree.specs.declared.rule.RuleText.{RuleText}
use Rattle.rule_tree.specs.declared.rule.StatementText.{StatementText}
use Rattle.rule_tree.specs.declared.tree.Tree.{Tree, fold-Tree}
use Rattle.rule_tree.specs.declared.tree.Tree.TheOpen.{Tree-F}

abbrev pub nodes_step : Tree-F ℕ → ℕ
nodes_step (Tree-F.Call function arguments) = 1 + sum arguments
nodes_step (Tree-F.Minus e) = 1 + e
nodes_step (Tree-F.Not e) = 1 + e
nodes_step (Tree-F.Binary op left right) = 1 + left + right
nodes_step _ = 1

-- how many nodes a formula has: its operands, its operators and its functions
unfoldable pub nodes : Tree → ℕ
nodes = fold-Tree ℕ nodes_step

abbrev pub body_nodes : BodyText → ℕ
body_nodes (bodies.Both tree) = nodes tree
body_nodes (bodies.Leaf tree) = nodes tree
body_nodes (bodies.Cons tree) = nodes tree
body_nodes (bodies.LeafCons leaf cons) = nodes leaf + nodes cons
body_nodes (bodies.ConsLeaf cons leaf) = nodes cons + nodes leaf

-- how many nodes the formulas of statements have
abbrev pub all_nodes : List StatementText → ℕ
all_nodes = sum_by (λ statement. body_nodes statement.body)

-- how many targets feeders have
abbrev pub all_targets : List FeederText → ℕ
all_targets = sum_by (λ feeder. length feeder.targets)

-- There are at most so many statements and so many feeders, and no more nodes and targets than a text may have bytes.
pub record IsWithinLimits (text : RuleText) : Type 0 where
  pub statements : length text.statements ≤ most_statements
  pub feeders : length text.feeders ≤ most_statements
  pub nodes : all_nodes text.statements ≤ most_text_bytes
  pub targets : all_targets text.feeders ≤ most_text_bytes
