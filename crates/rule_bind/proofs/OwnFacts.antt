-- A function of the cell's own element means a table, a comparison of its texts one of a table with a number, and DIMSIZ
-- a number in a TRUNC.
use Rattle.std.proofs.Common.{◌≡◌, ◌*◌, ℕ, ℤ, pos, Bool, true, false, List, [], ◌∷◌, Ok, sym}
use Rattle.cube_fixed.specs.Range.{unit}
use Rattle.cube_space.specs.Layout.{Layout}
use Rattle.rule_laws.specs.declared.formula.Formula.{Formula}
use Rattle.rule_laws.specs.declared.formula.Formula.TheVariants as formulas
use Rattle.rule_laws.specs.declared.formula.Truth.{Truth}
use Rattle.rule_laws.specs.declared.operation.Fun.TheVariants as funs
use Rattle.rule_laws.specs.declared.operation.Rel.{Rel}
use Rattle.rule_tree.specs.declared.tree.Tree.{Tree}
use Rattle.bind_areas.specs.Meaning.{Meaning, ◌>>=◌}
use Rattle.bind_arguments.specs.Numbers.{numbers_at, is_within_at}
use Rattle.bind_arguments.specs.declared.element_function.ElementFunction.{ElementFunction}
use Rattle.bind_arguments.specs.declared.element_function.ElementFunction.TheVariants as functions
use Rattle.rule_bind.specs.OwnNumbers.{axis_named, own_place, own_axis, plain_place, element_at, attribute_at, table_at, under, plain_call, upper_call, component_call, attribute_call, own_call}
use Rattle.rule_bind.specs.Texts.{Side, side_of, shared_place, compared, texts_truth}
use Rattle.rule_bind.specs.Sureness.{Sets, comparison}
use Rattle.rule_bind.specs.DimensionSize.{size_named, counted, size_call}
use Rattle.rule_bind.specs.declared.function.OwnFunction.{OwnFunction}
use Rattle.rule_bind.specs.declared.function.OwnFunction.TheVariants as own
use Rattle.rule_bind.proofs.Got.{got, answer}

-- a function of an element that is of the dimension, both ways
pub under_within : (space : Layout) (cube place above : ℕ) (deep : Bool) → is_within_at space cube place (functions.ComponentOf above) → is_within_at space cube place (under deep above)
under_within space cube place above true within = within
under_within space cube place above false within = within

abbrev pub IsTable : Formula → Type 0
IsTable f = (place : ℕ) × (table : List ℤ) × (f ≡ formulas.Table place table)

abbrev pub IsTableTruth : Layout → ℕ → Sets → Truth → Type 0
IsTableTruth space cube sets q = (rel : Rel) × (place : ℕ) × (table : List ℤ) × (k : ℤ) × (q ≡ comparison space cube sets rel (formulas.Table place table) (formulas.Number k))

abbrev pub IsCounted : Formula → Type 0
IsCounted f = (k : ℤ) × (f ≡ formulas.Unary funs.Trunc (formulas.Number k))

module _ (space : Layout) (cube : ℕ) where
  made : (place : ℕ) (function : ElementFunction) (f : Formula) → answer (table_at space cube place function) ≡ Ok f → IsTable f
  made place function f is =
      let same : table_at space cube place function ≡ f = cc is in
      (place, numbers_at space cube place function, sym same)

  plain : (function : ElementFunction) (trees : List Tree) (f : Formula) → plain_call space cube function trees ≡ Ok f → IsTable f
  plain function trees f is =
      let (own, first, rest) = got (plain_place space cube trees) (λ own. Ok (table_at space cube own function)) f is in
      made own function f rest

  upper : (deep : Bool) (trees : List Tree) (f : Formula) → upper_call space cube deep trees ≡ Ok f → IsTable f
  upper deep (dim ∷ element ∷ of ∷ []) f is =
      let (place, first, many) = got (axis_named space cube dim) (λ place. element_at space cube place element >>= (λ above. own_place space cube place of >>= (λ own. Ok (table_at space cube own (under deep above))))) f is in
      let (above, second, more) = got (element_at space cube place element) (λ above. own_place space cube place of >>= (λ own. Ok (table_at space cube own (under deep above)))) f many in
      let (own, third, rest) = got (own_place space cube place of) (λ own. Ok (table_at space cube own (under deep above))) f more in
      made own (under deep above) f rest
  upper deep _ f is = absurd (cc is)

  component : (trees : List Tree) (f : Formula) → component_call space cube trees ≡ Ok f → IsTable f
  component (dim ∷ of ∷ element ∷ []) f is =
      let (own, first, more) = got (own_axis space cube dim of) (λ own. element_at space cube own element >>= (λ above. Ok (table_at space cube own (functions.ComponentOf above)))) f is in
      let (above, second, rest) = got (element_at space cube own element) (λ above. Ok (table_at space cube own (functions.ComponentOf above))) f more in
      made own (functions.ComponentOf above) f rest
  component _ f is = absurd (cc is)

  attribute : (trees : List Tree) (f : Formula) → attribute_call space cube trees ≡ Ok f → IsTable f
  attribute (dim ∷ of ∷ name ∷ []) f is =
      let (own, first, more) = got (own_axis space cube dim of) (λ own. attribute_at space cube own name >>= (λ found. Ok (table_at space cube own (functions.Attribute found)))) f is in
      let (found, second, rest) = got (attribute_at space cube own name) (λ found. Ok (table_at space cube own (functions.Attribute found))) f more in
      made own (functions.Attribute found) f rest
  attribute _ f is = absurd (cc is)

  pub call_table : (function : OwnFunction) (trees : List Tree) (f : Formula) → own_call space cube function trees ≡ Ok f → IsTable f
  unfolding own_call
  call_table own.Place trees f is = plain functions.Place trees f is
  call_table own.Level trees f is = plain functions.Level trees f is
  call_table own.HasParent trees f is = upper false trees f is
  call_table own.HasAncestor trees f is = upper true trees f is
  call_table own.IsComponent trees f is = component trees f is
  call_table own.Attribute trees f is = attribute trees f is
  call_table own.ComponentCount trees f is = plain functions.ComponentCount trees f is
  call_table own.ParentCount trees f is = plain functions.ParentCount trees f is

  -- the rest of what a comparison of texts means, behind both of them, and behind the first
  abbrev placed_truth : Sets → Rel → Side → Side → Meaning Truth
  placed_truth sets rel text other = shared_place text.0 other.0 >>= (λ place. answer (compared space cube sets rel place (functions.Same text.1 other.1)))

  abbrev other_truth : Sets → Rel → Tree → Side → Meaning Truth
  other_truth sets rel right text = side_of space cube right >>= placed_truth sets rel text

  pub texts_table : (sets : Sets) (rel : Rel) (left right : Tree) (q : Truth) → texts_truth space cube sets rel left right ≡ Ok q → IsTableTruth space cube sets q
  unfolding texts_truth
  texts_table sets rel left right q is =
      let (text, first, many) = got (side_of space cube left) (other_truth sets rel right) q is in
      let (other, second, more) = got (side_of space cube right) (placed_truth sets rel text) q many in
      let (place, third, rest) = got (shared_place text.0 other.0) (λ place. answer (compared space cube sets rel place (functions.Same text.1 other.1))) q more in
      let same : compared space cube sets rel place (functions.Same text.1 other.1) ≡ q = cc rest in
      (rel, place, numbers_at space cube place (functions.Same text.1 other.1), pos unit, sym same)

pub call_counted : (space : Layout) (trees : List Tree) (f : Formula) → size_call space trees ≡ Ok f → IsCounted f
unfolding size_call
call_counted space (dim ∷ []) f is =
    let (size, first, rest) = got (size_named space dim) (λ size. answer (counted size)) f is in
    let same : counted size ≡ f = cc rest in
    (pos (size * unit), sym same)
call_counted space _ f is = absurd (cc is)
