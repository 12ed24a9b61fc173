-- What a formula reads, by its parts.
use Rattle.std.proofs.Common.{◌≡◌, ℕ, ℤ, List, [], ◌∷◌, ◌++◌}
use Rattle.rule_laws.specs.declared.reference.Reference.{Reference}
use Rattle.rule_laws.specs.declared.operation.Op.{Op}
use Rattle.rule_laws.specs.declared.operation.Fun.{Fun}
use Rattle.rule_laws.specs.declared.operation.Rel.{Rel}
use Rattle.rule_laws.specs.declared.formula.Formula.{Formula}
use Rattle.rule_laws.specs.declared.formula.Formula.TheVariants as formulas
use Rattle.rule_laws.specs.declared.formula.Truth.{Truth}
use Rattle.rule_laws.specs.declared.formula.Truth.TheVariants as truths
use Rattle.rule_laws.proofs.FormulaFolds.{of-number, of-stet, of-continue, of-children, of-ref, of-table, of-binary, of-unary, of-if, of-compare, of-and, of-or, of-not}
use Rattle.rule_laws.specs.Meaning.{Precedent, Named, Components, precedents_step, truth_precedents_step, precedents, truth_precedents}

pub number_reads : (k : ℤ) → precedents (formulas.Number k) ≡ []
number_reads k = of-number (List Precedent) (List Precedent) precedents_step truth_precedents_step k

pub stet_reads : precedents formulas.Stet ≡ []
stet_reads = of-stet (List Precedent) (List Precedent) precedents_step truth_precedents_step

pub continue_reads : precedents formulas.Continue ≡ []
continue_reads = of-continue (List Precedent) (List Precedent) precedents_step truth_precedents_step

pub children_reads : (dim : ℕ) → precedents (formulas.Children dim) ≡ Components dim ∷ []
children_reads dim = of-children (List Precedent) (List Precedent) precedents_step truth_precedents_step dim

pub reference_reads : (r : Reference) → precedents (formulas.Ref r) ≡ Named r ∷ []
reference_reads r = of-ref (List Precedent) (List Precedent) precedents_step truth_precedents_step r

pub table_reads : (dim : ℕ) (table : List ℤ) → precedents (formulas.Table dim table) ≡ []
table_reads dim table = of-table (List Precedent) (List Precedent) precedents_step truth_precedents_step dim table

pub binary_reads : (op : Op) (a b : Formula) → precedents (formulas.Binary op a b) ≡ precedents a ++ precedents b
binary_reads op a b = of-binary (List Precedent) (List Precedent) precedents_step truth_precedents_step op a b

pub unary_reads : (function : Fun) (a : Formula) → precedents (formulas.Unary function a) ≡ precedents a
unary_reads function a = of-unary (List Precedent) (List Precedent) precedents_step truth_precedents_step function a

pub if_reads : (q : Truth) (a b : Formula) → precedents (formulas.If q a b) ≡ (truth_precedents q ++ precedents a) ++ precedents b
if_reads q a b = of-if (List Precedent) (List Precedent) precedents_step truth_precedents_step q a b

pub compare_reads : (rel : Rel) (a b : Formula) → truth_precedents (truths.Compare rel a b) ≡ precedents a ++ precedents b
compare_reads rel a b = of-compare (List Precedent) (List Precedent) precedents_step truth_precedents_step rel a b

pub and_reads : (p q : Truth) → truth_precedents (truths.And p q) ≡ truth_precedents p ++ truth_precedents q
and_reads p q = of-and (List Precedent) (List Precedent) precedents_step truth_precedents_step p q

pub or_reads : (p q : Truth) → truth_precedents (truths.Or p q) ≡ truth_precedents p ++ truth_precedents q
or_reads p q = of-or (List Precedent) (List Precedent) precedents_step truth_precedents_step p q

pub not_reads : (q : Truth) → truth_precedents (truths.Not q) ≡ truth_precedents q
not_reads q = of-not (List Precedent) (List Precedent) precedents_step truth_precedents_step q
