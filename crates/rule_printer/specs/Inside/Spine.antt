-- The operations of a formula that stand inside one another on the left.
use Rattle.std.specs.Prelude.{◌≡◌, ℕ, List, [], ◌∷◌}
use Rattle.std.specs.Borrow.{Bor}
use Rattle.rule_printer.specs.Spelled.{rank_of}
use Rattle.rule_tree.specs.declared.tree.Tree.{Tree}
use Rattle.rule_tree.specs.declared.tree.Tree.TheVariants as trees
use Rattle.rule_tree.specs.declared.tree.TreeOp.{TreeOp}

-- these operators and right sides, from the outermost on, lead from the tree down its left sides to the head; each
-- operator binds as tightly as level
abbrev pub Spine : ℕ → Tree → List (TreeOp × Bor Tree) → Tree → Type 0
Spine level tree [] head = head ≡ tree
Spine level tree (x ∷ xs) head =
    (left : Tree) × (tree ≡ trees.Binary x.0 left x.1.now) × (rank_of x.0 ≡ level) × Spine level left xs head
