-- What each formula means, by its parts.
use Rattle.std.proofs.Common.{◌≡◌, ℕ, ℤ, List, [], ◌∷◌, map, Result, Ok, Err, refl, sym, ap, ◌∙◌}
use Rattle.cube_space.specs.Layout.{Layout}
use Rattle.rule_tree.specs.declared.tree.SimpleText.{SimpleText}
use Rattle.rule_tree.specs.declared.tree.Tree.{Tree, roll-Tree}
use Rattle.rule_tree.specs.declared.tree.Tree.TheFolds.{para-roll-Tree, map-Tree}
use Rattle.rule_tree.specs.declared.tree.Tree.TheOpen.{Tree-F}
use Rattle.rule_tree.specs.declared.tree.Tree.TheVariants as trees
use Rattle.rule_tree.specs.declared.tree.Tree.TheVariants.{rolls-Number, rolls-Text, rolls-Current, rolls-Bracket, rolls-Stet, rolls-Continue, rolls-Call, rolls-Minus, rolls-Not, rolls-Binary}
use Rattle.rule_tree.specs.declared.tree.TreeOp.{TreeOp}
use Rattle.rule_laws.specs.declared.formula.Formula.{Formula}
use Rattle.rule_laws.specs.declared.formula.Formula.TheVariants as formulas
use Rattle.rule_laws.specs.declared.formula.Truth.{Truth}
use Rattle.rule_laws.specs.declared.formula.Truth.TheVariants as truths
use Rattle.rule_laws.specs.declared.operation.Op.{Op}
use Rattle.bind_areas.specs.declared.cause.BindCause.{BindCause}
use Rattle.bind_areas.specs.Meaning.{Answers, ◌>>=◌}
use Rattle.bind_areas.proofs.Meanings.{stops}
use Rattle.rule_bind.specs.declared.function.Function.{Function}
use Rattle.rule_bind.specs.declared.operator.Operator.{Operator}
use Rattle.rule_bind.specs.declared.operator.Operator.TheVariants as operators
use Rattle.rule_bind.specs.declared.standing.Standing.{Standing}
use Rattle.rule_bind.specs.declared.standing.Standing.TheVariants.{Within}
use Rattle.rule_bind.specs.Functions.{function_of, operator_of}
use Rattle.rule_bind.specs.Formulas.{Meanings, Meant, meanings, meanings_step, meant, value_of, truth_of, call_value, binary, operator_value, operator_truth}
use Rattle.rule_bind.specs.Sureness.{Sets}

module _ (space : Layout) (cube : ℕ) (sets : Sets) where
  pub by_layer : (layer : Tree-F Tree) → meanings space cube sets (roll-Tree layer) ≡ meanings_step space cube sets (map-Tree Tree Meant (meant space cube sets) layer)
  unfolding meanings
  by_layer layer = para-roll-Tree Meanings (meanings_step space cube sets) layer

  pub means_number : (k : ℤ) → meanings space cube sets (trees.Number k) ≡ meanings_step space cube sets (Tree-F.Number k)
  means_number k = ap (meanings space cube sets) (sym (rolls-Number k)) ∙ by_layer (Tree-F.Number k)

  pub means_text : (bytes : List ℕ) → meanings space cube sets (trees.Text bytes) ≡ meanings_step space cube sets (Tree-F.Text bytes)
  means_text bytes = ap (meanings space cube sets) (sym (rolls-Text bytes)) ∙ by_layer (Tree-F.Text bytes)

  pub means_current : (dim : List ℕ) → meanings space cube sets (trees.Current dim) ≡ meanings_step space cube sets (Tree-F.Current dim)
  means_current dim = ap (meanings space cube sets) (sym (rolls-Current dim)) ∙ by_layer (Tree-F.Current dim)

  pub means_bracket : (simples : List SimpleText) → meanings space cube sets (trees.Bracket simples) ≡ meanings_step space cube sets (Tree-F.Bracket simples)
  means_bracket simples = ap (meanings space cube sets) (sym (rolls-Bracket simples)) ∙ by_layer (Tree-F.Bracket simples)

  pub means_stet : meanings space cube sets trees.Stet ≡ meanings_step space cube sets Tree-F.Stet
  means_stet = ap (meanings space cube sets) (sym rolls-Stet) ∙ by_layer Tree-F.Stet

  pub means_continue : meanings space cube sets trees.Continue ≡ meanings_step space cube sets Tree-F.Continue
  means_continue = ap (meanings space cube sets) (sym rolls-Continue) ∙ by_layer Tree-F.Continue

  pub means_call : (word : List ℕ) (arguments : List Tree) → meanings space cube sets (trees.Call word arguments) ≡ meanings_step space cube sets (Tree-F.Call word (map (meant space cube sets) arguments))
  means_call word arguments = ap (meanings space cube sets) (sym (rolls-Call word arguments)) ∙ by_layer (Tree-F.Call word arguments)

  pub means_minus : (e : Tree) → meanings space cube sets (trees.Minus e) ≡ meanings_step space cube sets (Tree-F.Minus (meant space cube sets e))
  means_minus e = ap (meanings space cube sets) (sym (rolls-Minus e)) ∙ by_layer (Tree-F.Minus e)

  pub means_not : (e : Tree) → meanings space cube sets (trees.Not e) ≡ meanings_step space cube sets (Tree-F.Not (meant space cube sets e))
  means_not e = ap (meanings space cube sets) (sym (rolls-Not e)) ∙ by_layer (Tree-F.Not e)

  pub means_binary : (op : TreeOp) (left right : Tree) → meanings space cube sets (trees.Binary op left right) ≡ meanings_step space cube sets (Tree-F.Binary op (meant space cube sets left) (meant space cube sets right))
  means_binary op left right = ap (meanings space cube sets) (sym (rolls-Binary op left right)) ∙ by_layer (Tree-F.Binary op left right)

  -- the arguments of a call are its trees
  pub trees_again : (arguments : List Tree) → map (λ m. m.0) (map (meant space cube sets) arguments) ≡ arguments
  trees_again [] = refl
  trees_again (tree ∷ arguments) = ap (λ l. tree ∷ l) (trees_again arguments)

  -- a call, whose parts the code has taken out
  pub call_is : (at : Standing) (tree : Tree) (word w : List ℕ) (arguments given : List Tree) (f : Function) (answer : Result Formula BindCause) → tree ≡ trees.Call word arguments → w ≡ word → given ≡ arguments → f ≡ function_of w
      → Answers (call_value space cube at f (map (meant space cube sets) given)) answer → Answers (value_of space cube sets at tree) answer
  call_is at tree word w arguments given f answer is same_word same function h =
      let whole = ap (λ m. m.value at) (ap (meanings space cube sets) is ∙ means_call word arguments) in
      let parts = ap (λ g. call_value space cube at g (map (meant space cube sets) arguments)) (function ∙ ap function_of same_word) in
      rw (whole, sym parts, sym same) h

  -- an operator between two formulas, the same way: as a value and as a truth
  pub operation_is : (at : Standing) (tree left right l r : Tree) (sign : TreeOp) (o : Operator) (answer : Result Formula BindCause) → tree ≡ trees.Binary sign left right → o ≡ operator_of sign → l ≡ left → r ≡ right
      → Answers (operator_value o (meant space cube sets l) (meant space cube sets r)) answer → Answers (value_of space cube sets at tree) answer
  operation_is at tree left right l r sign o answer is told same_left same_right h =
      let whole = ap (λ m. m.value at) (ap (meanings space cube sets) is ∙ means_binary sign left right) in
      rw (whole, sym told, sym same_left, sym same_right) h

  pub condition_is : (tree left right l r : Tree) (sign : TreeOp) (o : Operator) (answer : Result Truth BindCause) → tree ≡ trees.Binary sign left right → o ≡ operator_of sign → l ≡ left → r ≡ right
      → Answers (operator_truth space cube sets o (meant space cube sets l) (meant space cube sets r)) answer → Answers (truth_of space cube sets tree) answer
  condition_is tree left right l r sign o answer is told same_left same_right h =
      let whole = ap (λ m. m.truth) (ap (meanings space cube sets) is ∙ means_binary sign left right) in
      rw (whole, sym told, sym same_left, sym same_right) h

pub ruleset means = (means_number, means_text, means_current, means_bracket, means_stet, means_continue, means_call, means_minus, means_not, means_binary, trees_again)
