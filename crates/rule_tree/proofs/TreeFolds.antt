-- What a fold gives of a formula of a rule text, by its root.
use Rattle.std.proofs.Common.{◌≡◌, sym, ◌∙◌, ap, ℕ, ℤ, List, map}
use Rattle.rule_tree.specs.declared.tree.SimpleText.{SimpleText}
use Rattle.rule_tree.specs.declared.tree.Tree.{Tree, fold-Tree}
use Rattle.rule_tree.specs.declared.tree.Tree.TheFolds.{fold-roll-Tree}
use Rattle.rule_tree.specs.declared.tree.Tree.TheOpen.{Tree-F}
use Rattle.rule_tree.specs.declared.tree.Tree.TheVariants as trees
use Rattle.rule_tree.specs.declared.tree.Tree.TheVariants.{rolls-Number, rolls-Text, rolls-Current, rolls-Bracket, rolls-Stet, rolls-Continue, rolls-Call, rolls-Minus, rolls-Not, rolls-Binary}
use Rattle.rule_tree.specs.declared.tree.TreeOp.{TreeOp}

module _ (V : Type 0) (step : Tree-F V → V) where
  abbrev of : Tree → V
  of = fold-Tree V step

  pub of-number : (millionths : ℤ) → of (trees.Number millionths) ≡ step (Tree-F.Number millionths)
  of-number millionths = ap of (sym (rolls-Number millionths)) ∙ fold-roll-Tree V step (Tree-F.Number millionths)

  pub of-text : (bytes : List ℕ) → of (trees.Text bytes) ≡ step (Tree-F.Text bytes)
  of-text bytes = ap of (sym (rolls-Text bytes)) ∙ fold-roll-Tree V step (Tree-F.Text bytes)

  pub of-current : (dim : List ℕ) → of (trees.Current dim) ≡ step (Tree-F.Current dim)
  of-current dim = ap of (sym (rolls-Current dim)) ∙ fold-roll-Tree V step (Tree-F.Current dim)

  pub of-bracket : (simples : List SimpleText) → of (trees.Bracket simples) ≡ step (Tree-F.Bracket simples)
  of-bracket simples = ap of (sym (rolls-Bracket simples)) ∙ fold-roll-Tree V step (Tree-F.Bracket simples)

  pub of-stet : of trees.Stet ≡ step Tree-F.Stet
  of-stet = ap of (sym rolls-Stet) ∙ fold-roll-Tree V step Tree-F.Stet

  pub of-continue : of trees.Continue ≡ step Tree-F.Continue
  of-continue = ap of (sym rolls-Continue) ∙ fold-roll-Tree V step Tree-F.Continue

  pub of-call : (function : List ℕ) (arguments : List Tree) → of (trees.Call function arguments) ≡ step (Tree-F.Call function (map of arguments))
  of-call function arguments = ap of (sym (rolls-Call function arguments)) ∙ fold-roll-Tree V step (Tree-F.Call function arguments)

  pub of-minus : (e : Tree) → of (trees.Minus e) ≡ step (Tree-F.Minus (of e))
  of-minus e = ap of (sym (rolls-Minus e)) ∙ fold-roll-Tree V step (Tree-F.Minus e)

  pub of-not : (e : Tree) → of (trees.Not e) ≡ step (Tree-F.Not (of e))
  of-not e = ap of (sym (rolls-Not e)) ∙ fold-roll-Tree V step (Tree-F.Not e)

  pub of-binary : (op : TreeOp) (left right : Tree) → of (trees.Binary op left right) ≡ step (Tree-F.Binary op (of left) (of right))
  of-binary op left right = ap of (sym (rolls-Binary op left right)) ∙ fold-roll-Tree V step (Tree-F.Binary op left right)
