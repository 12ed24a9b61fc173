-- The reader of expressions settles on lists that are shorter than the depth that it was given: what stands in parentheses is shorter.
use Rattle.std.proofs.Common.{ℕ, zero, suc, codes}
use Rattle.grammar.specs.Tokens.{sign, is_sign}
use Rattle.expression_grammar.specs.Language.{Table, operator, is_operator, Language}
use Rattle.expression_grammar.specs.Levels.{table, joins}
use Rattle.expression_grammar.specs.Readers.Reading.{Scanner, Reads, Sorted, PrimaryReader, read_operation, read_behind, behind_value, behind_truth, read_behind_sort, only, read_level, inside_parentheses, tree_of, read_primary, read_signed, read_product, read_sum, read_compared, behind_left, read_compare, read_opposite, may_be_truth, read_not, read_and, read_or, read_expression}
use Rattle.expression_grammar.specs.declared.level.Level.{Level}
use Rattle.expression_grammar.specs.declared.level.Level.TheVariants as levels
use Rattle.expression_grammar.specs.declared.sort.Sort.{Sort}
use Rattle.expression_grammar.specs.declared.sort.Sort.TheVariants as sorts
use Rattle.expression_grammar.specs.declared.sort.Want.{Want}
use Rattle.expression_grammar.specs.declared.sort.Want.TheVariants as wants
use Rattle.rule_text_laws.proofs.SettlesBelow.{SettlesBelow, nothing_below, below_gives, below_one, below_both, below_behind_one, below_if, below_choose, below_all}

pub below_tree : {A R C : Type 0} {k : ℕ} {P : Reads R C (A × Sort)} → SettlesBelow k P → SettlesBelow k (tree_of P)
below_tree e = below_both e (λ x. below_gives x.0)

module _ {A O R C : Type 0} (scan : Scanner R C) where
  below_operations : {k : ℕ} (joined : O → A → A → A) (table : Table O) {P : Reads R C (A × Sort)} → SettlesBelow k P → (head : A × Sort) → SettlesBelow k (read_behind scan joined table P head)
  unfolding read_behind read_operation
  below_operations joined table e head = below_both (below_all (is_operator table) (below_both (below_one scan (operator table)) (λ o. below_both e (λ right. below_gives (o, right.0))))) (λ rest. below_gives _)

  below_sort : {k : ℕ} (joined : O → A → A → A) (table : Table O) {P : Reads R C (A × Sort)} → SettlesBelow k P → (s : Sort) (head : A × Sort) → SettlesBelow k (read_behind_sort scan joined table s P head)
  unfolding behind_value behind_truth
  below_sort joined table e sorts.Value (x, sorts.Value) = below_operations joined table e (x, sorts.Value)
  below_sort joined table e sorts.Value (x, sorts.Truth) = below_gives (x, sorts.Truth)
  below_sort joined table e sorts.Truth (x, sorts.Value) = below_gives (x, sorts.Value)
  below_sort joined table e sorts.Truth (x, sorts.Truth) = below_operations joined table e (x, sorts.Truth)

  below_level : {k : ℕ} (L : Language A O) (level : Level) {operand : Sorted R C A} → ((want : Want) → SettlesBelow k (operand want)) → (want : Want) → SettlesBelow k (read_level scan L level operand want)
  unfolding read_level
  below_level L level e want = below_both (e want) (λ head. below_sort L.joined (table L level) (e (only (joins level))) (joins level) head)

module _ {A O R C : Type 0} (scan : Scanner R C) (L : Language A O) (primary : PrimaryReader R C A) (primaries : (k : ℕ) (P Q : Reads R C A) → SettlesBelow k P → SettlesBelow k Q → SettlesBelow (suc k) (primary P Q)) where
  module _ (k : ℕ) (inner : Sorted R C A) (e : (want : Want) → SettlesBelow k (inner want)) where
    below_operand : (want : Want) → SettlesBelow (suc k) (read_primary scan primary inner want)
    unfolding read_primary
    below_operand want = below_choose (is_sign (codes "(")) (below_behind_one scan (sign (codes "(")) (λ _. below_both (e (inside_parentheses want)) (λ x. below_both (below_one scan (sign (codes ")"))) (λ _. below_gives x))))
        (below_both (primaries k (tree_of (inner wants.Value)) (tree_of (inner wants.Truth)) (below_tree (e wants.Value)) (below_tree (e wants.Truth))) (λ x. below_gives (x, sorts.Value)))

    below_signed : (want : Want) → SettlesBelow (suc k) (read_signed scan L primary inner want)
    unfolding read_signed
    below_signed want = below_choose (is_sign (codes "-")) (below_both (below_one scan (sign (codes "-"))) (λ _. below_both (below_operand wants.Value) (λ x. below_gives (L.negated x.0, sorts.Value)))) (below_operand want)

    below_product : (want : Want) → SettlesBelow (suc k) (read_product scan L primary inner want)
    below_product = below_level scan L levels.Product below_signed

    below_sum : (want : Want) → SettlesBelow (suc k) (read_sum scan L primary inner want)
    below_sum = below_level scan L levels.Sum below_product

    below_compared : (left : A) → SettlesBelow (suc k) (read_compared scan L primary inner left)
    unfolding read_compared
    below_compared left = below_both (below_one scan (operator L.relation)) (λ o. below_both (below_sum wants.Value) (λ right. below_gives (L.joined o left right.0, sorts.Truth)))

    below_left : (want : Want) (head : A × Sort) → SettlesBelow (suc k) (behind_left scan L primary inner want head)
    unfolding behind_left
    below_left wants.Value (x, sorts.Truth) = below_gives (x, sorts.Truth)
    below_left wants.Truth (x, sorts.Truth) = below_gives (x, sorts.Truth)
    below_left wants.Any (x, sorts.Truth) = below_gives (x, sorts.Truth)
    below_left wants.Value (x, sorts.Value) = below_gives (x, sorts.Value)
    below_left wants.Truth (x, sorts.Value) = below_compared x
    below_left wants.Any (x, sorts.Value) = below_choose (is_operator L.relation) (below_compared x) (below_gives (x, sorts.Value))

    below_compare : (want : Want) → SettlesBelow (suc k) (read_compare scan L primary inner want)
    unfolding read_compare
    below_compare want = below_both (below_sum want) (λ head. below_left want head)

    below_not : (want : Want) → SettlesBelow (suc k) (read_not scan L primary inner want)
    unfolding read_not read_opposite
    below_not want = below_if (may_be_truth want) (below_choose (is_sign (codes "~")) (below_both (below_one scan (sign (codes "~"))) (λ _. below_both (below_compare wants.Truth) (λ x. below_gives (L.opposite x.0, sorts.Truth)))) (below_compare want)) (below_compare want)

    below_and : (want : Want) → SettlesBelow (suc k) (read_and scan L primary inner want)
    below_and = below_level scan L levels.And below_not

    below_or : (want : Want) → SettlesBelow (suc k) (read_or scan L primary inner want)
    below_or = below_level scan L levels.Or below_and

  pub below_expression : (k : ℕ) (want : Want) → SettlesBelow k (read_expression scan L primary k want)
  unfolding read_expression
  below_expression zero want = nothing_below _
  below_expression (suc k) want = below_or k (read_expression scan L primary k) (below_expression k) want
