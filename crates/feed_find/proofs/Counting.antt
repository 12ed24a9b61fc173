-- What is needed of a formula counts its operands and its references.
use Rattle.std.proofs.Common.{◌≡◌, ap, sym, ◌∙◌, ℕ, ◌+◌, ◌++◌, ◌&&◌, Bool, true, List, arith, length, Result, Ok, Err, IfOk}
use Rattle.std.proofs.lemmas.Bool.{and_parts}
use Rattle.std.proofs.lemmas.List.{length-append}
use Rattle.rule_laws.specs.declared.reference.Reference.{Reference}
use Rattle.rule_laws.specs.declared.operation.Op.{Op}
use Rattle.rule_laws.specs.declared.formula.Formula.{Formula}
use Rattle.rule_laws.specs.declared.formula.Formula.TheVariants.{Binary, If}
use Rattle.rule_laws.specs.declared.formula.Truth.{Truth}
use Rattle.rule_laws.specs.declared.formula.Truth.TheVariants.{And, Or}
use Rattle.rule_laws.specs.Meaning.{Precedent, precedents, truth_precedents, precedents_step, truth_precedents_step, each_reference, each_reference_of_truth, each_reference_step, each_reference_truth_step}
use Rattle.rule_laws.specs.ZeroTest.{operands, operands_of_truth, operands_step, truth_operands_step}
use Rattle.rule_laws.proofs.FormulaFolds.{of-binary, of-if, of-and, of-or}
use Rattle.feed_find.specs.declared.need.Need.{Need}
use Rattle.feed_find.specs.declared.need.TruthNeed.{TruthNeed}
use Rattle.feed_find.specs.Choosing.{of_binary, of_if, of_both, of_either}
use Rattle.feed_find.specs.Views.{IsCounted, IsCountedTruth, IsBlamedWithin}

-- ---- an operation

binary-operands : (f l r : Formula) (op : Op) → f ≡ Binary op l r → operands f ≡ operands l + operands r
binary-operands f l r op is = ap operands is ∙ of-binary ℕ ℕ operands_step truth_operands_step op l r

binary-long : (f l r : Formula) (op : Op) → f ≡ Binary op l r → length (precedents f) ≡ length (precedents l) + length (precedents r)
binary-long f l r op is =
    ap (λ (ps : List Precedent). length ps) (ap precedents is ∙ of-binary (List Precedent) (List Precedent) precedents_step truth_precedents_step op l r)
    ∙ length-append (precedents l) (precedents r)

pub counted-binary : (f l r : Formula) (op : Op) (before : ℕ) (a b found : Need) → f ≡ Binary op l r → IsCounted l before a → IsCounted r a.behind b
    → found ≡ of_binary op a b → IsBlamedWithin found → IsCounted f before found
counted-binary f l r op before a b found is left right so within = record {
  written = omega (arith, ap (λ (n : Need). n.by_written.operands) so, left.written, right.written, binary-operands f l r op is);
  all = omega (arith, ap (λ (n : Need). n.by_all.operands) so, left.all, right.all, binary-operands f l r op is);
  blamed = within;
  behind = omega (arith, ap (λ (n : Need). n.behind) so, left.behind, right.behind, binary-long f l r op is);
}

-- ---- an IF

pub if-operands : (f l r : Formula) (t : Truth) → f ≡ If t l r → operands f ≡ operands_of_truth t + operands l + operands r
if-operands f l r t is = ap operands is ∙ of-if ℕ ℕ operands_step truth_operands_step t l r

pub if-long : (f l r : Formula) (t : Truth) → f ≡ If t l r → length (precedents f) ≡ length (truth_precedents t) + length (precedents l) + length (precedents r)
if-long f l r t is =
    ap (λ (ps : List Precedent). length ps) (ap precedents is ∙ of-if (List Precedent) (List Precedent) precedents_step truth_precedents_step t l r)
    ∙ omega (arith, length-append (truth_precedents t ++ precedents l) (precedents r), length-append (truth_precedents t) (precedents l))

pub counted-if : (f l r : Formula) (t : Truth) (before : ℕ) (truth : TruthNeed) (a b found : Need) → f ≡ If t l r → IsCountedTruth t before truth
    → IsCounted l truth.behind a → IsCounted r a.behind b → found ≡ of_if truth a b → IsBlamedWithin found → IsCounted f before found
counted-if f l r t before truth a b found is by left right so within = record {
  written = omega (arith, ap (λ (n : Need). n.by_written.operands) so, by.written, left.written, right.written, if-operands f l r t is);
  all = omega (arith, ap (λ (n : Need). n.by_all.operands) so, by.all, left.all, right.all, if-operands f l r t is);
  blamed = within;
  behind = omega (arith, ap (λ (n : Need). n.behind) so, by.behind, left.behind, right.behind, if-long f l r t is);
}

-- ---- `%`

or-operands : (f l r : Truth) → f ≡ Or l r → operands_of_truth f ≡ operands_of_truth l + operands_of_truth r
or-operands f l r is = ap operands_of_truth is ∙ of-or ℕ ℕ operands_step truth_operands_step l r

or-long : (f l r : Truth) → f ≡ Or l r → length (truth_precedents f) ≡ length (truth_precedents l) + length (truth_precedents r)
or-long f l r is =
    ap (λ (ps : List Precedent). length ps) (ap truth_precedents is ∙ of-or (List Precedent) (List Precedent) precedents_step truth_precedents_step l r)
    ∙ length-append (truth_precedents l) (truth_precedents r)

pub counted-or : (f l r : Truth) (before : ℕ) (a b found : TruthNeed) → f ≡ Or l r → IsCountedTruth l before a → IsCountedTruth r a.behind b
    → found ≡ of_either a b → IsCountedTruth f before found
counted-or f l r before a b found is left right so = record {
  written = omega (arith, ap (λ (n : TruthNeed). n.by_written.operands) so, left.written, right.written, or-operands f l r is);
  all = omega (arith, ap (λ (n : TruthNeed). n.by_all.operands) so, left.all, right.all, or-operands f l r is);
  behind = omega (arith, ap (λ (n : TruthNeed). n.behind) so, left.behind, right.behind, or-long f l r is);
}

and-operands : (f l r : Truth) → f ≡ And l r → operands_of_truth f ≡ operands_of_truth l + operands_of_truth r
and-operands f l r is = ap operands_of_truth is ∙ of-and ℕ ℕ operands_step truth_operands_step l r

and-long : (f l r : Truth) → f ≡ And l r → length (truth_precedents f) ≡ length (truth_precedents l) + length (truth_precedents r)
and-long f l r is =
    ap (λ (ps : List Precedent). length ps) (ap truth_precedents is ∙ of-and (List Precedent) (List Precedent) precedents_step truth_precedents_step l r)
    ∙ length-append (truth_precedents l) (truth_precedents r)

pub counted-and : (f l r : Truth) (before : ℕ) (a b found : TruthNeed) → f ≡ And l r → IsCountedTruth l before a → IsCountedTruth r a.behind b
    → found ≡ of_both a b → IsCountedTruth f before found
counted-and f l r before a b found is left right so = record {
  written = omega (arith, ap (λ (n : TruthNeed). n.by_written.operands) so, left.written, right.written, and-operands f l r is);
  all = omega (arith, ap (λ (n : TruthNeed). n.by_all.operands) so, left.all, right.all, and-operands f l r is);
  behind = omega (arith, ap (λ (n : TruthNeed). n.behind) so, left.behind, right.behind, and-long f l r is);
}

-- what holds of a value in two ways holds in both
pub both-ok : {A E : Type 0} (r : Result A E) (P Q : A → Type 0) → IfOk r P → IfOk r Q → IfOk r (λ a. P a × Q a)
both-ok (Ok a) P Q one other = (one, other)
both-ok (Err e) P Q one other = tt

-- the references of the second branch of an IF
pub each-right : (test : Reference → Bool) (f l r : Formula) (t : Truth) → f ≡ If t l r → each_reference test f ≡ true → each_reference test r ≡ true
each-right test f l r t is all =
    (and_parts (each_reference_of_truth test t && each_reference test l) (each_reference test r)
    (sym (ap (each_reference test) is ∙ of-if Bool Bool (each_reference_step test) each_reference_truth_step t l r) ∙ all)).1
