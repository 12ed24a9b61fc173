-- The levels of expressions, each with a grammar for values and one for truths, and what they begin with.
use Rattle.std.proofs.Common.{Bool, codes}
use Rattle.cube_lex.specs.Lexeme.{Lexeme}
use Rattle.grammar.specs.Grammar.{Grammar, one, either}
use Rattle.grammar.specs.Tokens.{sign}
use Rattle.grammar.proofs.Begins.{Begins, begins_both, begins_either}
use Rattle.expression_grammar.specs.Language.{Language}
use Rattle.expression_grammar.specs.Expression.{Primaries, chain, prefixed, enclosed, comparison}
use Rattle.expression_grammar.specs.declared.sort.Sort.{Sort}
use Rattle.expression_grammar.specs.declared.sort.Sort.TheVariants as sorts
use Rattle.expression_grammar.proofs.Levels.{Sorts, by_sort, changed}

module _ {A O : Type 0} (L : Language A O) (primary : Primaries A) (F : Sorts A) where
  abbrev pub operands : Sorts A
  operands = by_sort (either (enclosed (F sorts.Value)) (primary (F sorts.Value) (F sorts.Truth))) (enclosed (F sorts.Truth))

  abbrev pub signed : Sorts A
  signed = changed sorts.Value (prefixed (codes "-") L.negated) operands

  abbrev pub products : Sorts A
  products = changed sorts.Value (chain L.joined L.product) signed

  abbrev pub sums : Sorts A
  sums = changed sorts.Value (chain L.joined L.sum) products

-- a level above one of values and truths in parentheses
abbrev pub compared : {A O : Type 0} → Language A O → Sorts A → Sorts A
compared L F = by_sort (F sorts.Value) (either (F sorts.Truth) (comparison L (F sorts.Value)))

module _ {A O : Type 0} (L : Language A O) (primary : Primaries A) (F : Sorts A) where
  abbrev pub comparisons : Sorts A
  comparisons = compared L (sums L primary F)

  abbrev pub opposites : Sorts A
  opposites = changed sorts.Truth (prefixed (codes "~") L.opposite) comparisons

  abbrev pub conjunctions : Sorts A
  conjunctions = changed sorts.Truth (chain L.joined L.and) opposites

  abbrev pub disjunctions : Sorts A
  disjunctions = changed sorts.Truth (chain L.joined L.or) conjunctions

  module _ {p : Lexeme → Bool} {b : Bool} (parenthesis : Begins (one (sign (codes "("))) p b) (primaries : (V T : Grammar Lexeme A) → Begins (primary V T) p b) where
    pub operands_begin : (sort : Sort) → Begins (operands L primary F sort) p b
    operands_begin sorts.Value = begins_either (begins_both parenthesis) (primaries (F sorts.Value) (F sorts.Truth))
    operands_begin sorts.Truth = begins_both parenthesis

    module _ (minus : Begins (one (sign (codes "-"))) p b) where
      sums_begin : (sort : Sort) → Begins (sums L primary F sort) p b
      sums_begin sorts.Value = begins_both (begins_both (begins_either (begins_both minus) (operands_begin sorts.Value)))
      sums_begin sorts.Truth = operands_begin sorts.Truth

      pub comparisons_begin : (sort : Sort) → Begins (comparisons sort) p b
      comparisons_begin sorts.Value = sums_begin sorts.Value
      comparisons_begin sorts.Truth = begins_either (sums_begin sorts.Truth) (begins_both (sums_begin sorts.Value))

      pub disjunctions_begin : Begins (one (sign (codes "~"))) p b → (sort : Sort) → Begins (disjunctions sort) p b
      disjunctions_begin tilde sorts.Value = comparisons_begin sorts.Value
      disjunctions_begin tilde sorts.Truth = begins_both (begins_both (begins_either (begins_both tilde) (comparisons_begin sorts.Truth)))
