-- How many nodes a formula has, by its root.
use Rattle.std.proofs.Common.{◌≡◌, ◌+◌, ℕ, ℤ, List, map}
use Rattle.std.specs.List.{sum}
use Rattle.rule_tree.specs.Sizes.{nodes_step, nodes}
use Rattle.rule_tree.specs.declared.tree.SimpleText.{SimpleText}
use Rattle.rule_tree.specs.declared.tree.Tree.{Tree, roll-Tree}
use Rattle.rule_tree.specs.declared.tree.Tree.TheFolds.{map-Tree, fold-roll-Tree}
use Rattle.rule_tree.specs.declared.tree.Tree.TheOpen.{Tree-F}
use Rattle.rule_tree.specs.declared.tree.Tree.TheVariants as trees
use Rattle.rule_tree.specs.declared.tree.TreeOp.{TreeOp}
use Rattle.rule_tree.proofs.TreeFolds.{of-number, of-text, of-current, of-bracket, of-stet, of-continue, of-call, of-minus, of-not, of-binary}

pub nodes-roll : (l : Tree-F Tree) → nodes (roll-Tree l) ≡ nodes_step (map-Tree Tree ℕ nodes l)
unfolding nodes
nodes-roll l = fold-roll-Tree ℕ nodes_step l

pub nodes-number : (millionths : ℤ) → nodes (trees.Number millionths) ≡ 1
unfolding nodes
nodes-number millionths = of-number ℕ nodes_step millionths

pub nodes-text : (bytes : List ℕ) → nodes (trees.Text bytes) ≡ 1
unfolding nodes
nodes-text bytes = of-text ℕ nodes_step bytes

pub nodes-current : (dim : List ℕ) → nodes (trees.Current dim) ≡ 1
unfolding nodes
nodes-current dim = of-current ℕ nodes_step dim

pub nodes-bracket : (simples : List SimpleText) → nodes (trees.Bracket simples) ≡ 1
unfolding nodes
nodes-bracket simples = of-bracket ℕ nodes_step simples

pub nodes-stet : nodes trees.Stet ≡ 1
unfolding nodes
nodes-stet = of-stet ℕ nodes_step

pub nodes-continue : nodes trees.Continue ≡ 1
unfolding nodes
nodes-continue = of-continue ℕ nodes_step

pub nodes-call : (function : List ℕ) (arguments : List Tree) → nodes (trees.Call function arguments) ≡ 1 + sum (map nodes arguments)
unfolding nodes
nodes-call function arguments = of-call ℕ nodes_step function arguments

pub nodes-minus : (e : Tree) → nodes (trees.Minus e) ≡ 1 + nodes e
unfolding nodes
nodes-minus e = of-minus ℕ nodes_step e

pub nodes-not : (e : Tree) → nodes (trees.Not e) ≡ 1 + nodes e
unfolding nodes
nodes-not e = of-not ℕ nodes_step e

pub nodes-binary : (op : TreeOp) (left right : Tree) → nodes (trees.Binary op left right) ≡ 1 + nodes left + nodes right
unfolding nodes
nodes-binary op left right = of-binary ℕ nodes_step op left right
