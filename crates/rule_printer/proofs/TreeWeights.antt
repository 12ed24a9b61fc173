-- How much there is to write of a formula: what it's written by goes down from it to its parts.
use Rattle.std.proofs.Common.{◌≡◌, ◌≤◌, ◌<◌, ◌+◌, ℕ, zero, suc, List, [], ◌∷◌, map, length, get_or, ap, ◌∙◌, arith}
use Rattle.rule_tree.specs.declared.tree.Tree.{Tree, fold-Tree}
use Rattle.rule_tree.specs.declared.tree.Tree.TheOpen.{Tree-F}
use Rattle.rule_tree.specs.declared.tree.Tree.TheVariants as trees
use Rattle.rule_tree.specs.declared.tree.TreeOp.{TreeOp}
use Rattle.rule_tree.proofs.TreeFolds.{of-call, of-minus, of-not, of-binary}

unfoldable pub total : List ℕ → ℕ
total [] = 0
total (n ∷ ns) = n + total ns

unfoldable pub weight_step : Tree-F ℕ → ℕ
weight_step (Tree-F.Call function arguments) = 1 + total arguments
weight_step (Tree-F.Minus e) = 1 + e
weight_step (Tree-F.Not e) = 1 + e
weight_step (Tree-F.Binary op left right) = 1 + (left + right)
weight_step _ = 1

unfoldable pub weight : Tree → ℕ
weight = fold-Tree ℕ weight_step

unfoldable pub weights : List Tree → ℕ
weights list = total (map weight list)

pub weight_call : (tree : Tree) (function : List ℕ) (arguments : List Tree) → tree ≡ trees.Call function arguments → weight tree ≡ 1 + weights arguments
unfolding weight weights weight_step
weight_call tree function arguments is = ap weight is ∙ of-call ℕ weight_step function arguments

pub weight_minus : (tree e : Tree) → tree ≡ trees.Minus e → weight tree ≡ 1 + weight e
unfolding weight weight_step
weight_minus tree e is = ap weight is ∙ of-minus ℕ weight_step e

pub weight_not : (tree e : Tree) → tree ≡ trees.Not e → weight tree ≡ 1 + weight e
unfolding weight weight_step
weight_not tree e is = ap weight is ∙ of-not ℕ weight_step e

pub weight_binary : (tree : Tree) (op : TreeOp) (left right : Tree) → tree ≡ trees.Binary op left right → weight tree ≡ 1 + (weight left + weight right)
unfolding weight weight_step
weight_binary tree op left right is = ap weight is ∙ of-binary ℕ weight_step op left right

-- one of several
pub weight_one : (list : List Tree) (i : ℕ) (e : Tree) → i < length list → e ≡ get_or list i e → weight e ≤ weights list
unfolding weights total
weight_one [] i e within is = absurd (omega (arith, within))
weight_one (x ∷ list) zero e within is = omega (arith, ap weight is)
weight_one (x ∷ list) (suc i) e within is =
    let there : i < length list = omega (arith, within) in
    omega (arith, weight_one list i e there is)
