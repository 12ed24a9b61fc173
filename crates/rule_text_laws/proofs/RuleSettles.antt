-- The readers of areas and brackets settle, and that of formulas does on lists that are shorter than the depth that it was given.
use Rattle.std.proofs.Common.{ℕ, suc, List, codes}
use Rattle.std.specs.Str.{bytes_eq}
use Rattle.grammar.specs.Lists.{read_names}
use Rattle.grammar.specs.Tokens.{name, capital_word, is_sign, is_text, is_number}
use Rattle.expression_grammar.specs.Readers.Reading.{read_expression, tree_of}
use Rattle.expression_grammar.specs.declared.sort.Want.TheVariants as wants
use Rattle.rule_tree.specs.Counting.{count}
use Rattle.rule_tree.specs.Formula.{is_if, rules_language}
use Rattle.rule_tree.specs.declared.tree.Tree.{Tree}
use Rattle.rule_tree.specs.declared.tree.Tree.TheVariants as trees
use Rattle.rule_reader.specs.Readers.Reading.{Plan, read_behind_first, read_simple, read_up_to_bracket, read_in_brackets, read_bracket, read_number, read_quoted, read_dimension, read_current, read_reference, read_first_argument, read_arguments, read_call, read_alone, read_behind_word, read_worded, read_primary}
use Rattle.rule_reader.specs.Readers.TextReading as text
use Rattle.rule_text_laws.proofs.SettlesBelow.{SettlesBelow, below_gives, below_one, below_both, below_behind_one, below_if, below_choose, below_further, below_listed}
use Rattle.rule_text_laws.proofs.ExpressionSettles.{below_tree, below_expression}

module _ (k : ℕ) where
  below_simple : SettlesBelow k read_simple
  unfolding read_simple read_behind_first
  below_simple = below_both (below_one _ _) (λ first. below_choose _ (below_both (below_one _ _) (λ _. below_both (below_one _ _) (λ element. below_gives _))) (below_gives _))

  below_in_brackets : {A : Type 0} {read_item : Plan A} → SettlesBelow k read_item → SettlesBelow k (read_in_brackets read_item)
  unfolding read_in_brackets read_up_to_bracket
  below_in_brackets item = below_both (below_one _ _) (λ _. below_both (below_choose _ (below_gives _) (below_listed count item)) (λ items. below_both (below_one _ _) (λ _. below_gives _)))

  pub below_bracket : SettlesBelow k read_bracket
  below_bracket = below_in_brackets below_simple

  below_braced : SettlesBelow k text.read_braced
  unfolding text.read_braced read_names
  below_braced = below_both (below_one _ _) (λ _. below_both (below_listed count (below_one count name)) (λ all. below_both (below_one _ _) (λ _. below_gives _)))

  below_elements : SettlesBelow k text.read_elements
  unfolding text.read_elements text.read_alone
  below_elements = below_choose _ below_braced (below_both (below_one _ _) (λ element. below_gives _))

  below_entry : SettlesBelow k text.read_entry
  unfolding text.read_entry text.read_behind_first
  below_entry = below_choose _ (below_both below_braced (λ all. below_gives _)) (below_both (below_one _ _) (λ first. below_choose _ (below_both (below_one _ _) (λ _. below_both below_elements (λ all. below_gives _))) (below_gives _)))

  pub below_area : SettlesBelow k text.read_area
  below_area = below_in_brackets below_entry

  module _ (P Q : Plan Tree) (value : SettlesBelow k P) (truth : SettlesBelow k Q) where
    below_call : (function : List ℕ) → SettlesBelow k (read_call P Q function)
    unfolding read_call read_arguments read_first_argument
    below_call function = below_both (below_one _ _) (λ _. below_both (below_choose _ (below_gives _) (below_both (below_if (is_if function) truth value) (λ first. below_further count value first))) (λ arguments. below_both (below_one _ _) (λ _. below_gives _)))

    below_alone : (function : List ℕ) (tree : Tree) → SettlesBelow k (read_alone P Q function tree)
    unfolding read_alone
    below_alone function tree = below_choose _ (below_call function) (below_gives _)

    below_behind_word : (function : List ℕ) → SettlesBelow k (read_behind_word P Q function)
    unfolding read_behind_word
    below_behind_word function = below_if (bytes_eq function (codes "STET")) (below_alone function trees.Stet) (below_if (bytes_eq function (codes "CONTINUE")) (below_alone function trees.Continue) (below_call function))

    below_worded : SettlesBelow (suc k) (read_worded P Q)
    unfolding read_worded
    below_worded = below_behind_one count capital_word below_behind_word

module _ (k : ℕ) (P Q : Plan Tree) (value : SettlesBelow k P) (truth : SettlesBelow k Q) where
  below_number : SettlesBelow (suc k) read_number
  unfolding read_number
  below_number = below_both (below_one _ _) (λ value. below_gives _)

  below_quoted : SettlesBelow (suc k) read_quoted
  unfolding read_quoted
  below_quoted = below_both (below_one _ _) (λ bytes. below_gives _)

  below_current : SettlesBelow (suc k) read_current
  unfolding read_current read_dimension
  below_current = below_both (below_one _ _) (λ _. below_both (below_choose _ (below_one _ _) (below_one _ _)) (λ dim. below_gives _))

  below_reference : SettlesBelow (suc k) read_reference
  unfolding read_reference
  below_reference = below_both (below_bracket (suc k)) (λ simples. below_gives _)

  below_primary : SettlesBelow (suc k) (read_primary P Q)
  unfolding read_primary
  below_primary = below_choose is_number below_number (below_choose is_text below_quoted (below_choose (is_sign (codes "!")) below_current (below_choose (is_sign (codes "[")) below_reference (below_worded k P Q value truth))))

pub below_formula : (k : ℕ) → SettlesBelow k (tree_of (read_expression count rules_language read_primary k wants.Value))
below_formula k = below_tree (below_expression count rules_language read_primary below_primary k wants.Value)
