-- The rules of the system are covered by its feeder, and what is fed.
use Rattle.std.proofs.Common.{◌≡◌, refl, sym, ◌∙◌, ap, subst, lit<, ℕ, Bool, true, false, [], ◌∷◌}
use Rattle.std.specs.List.{Contains}
use Rattle.std.proofs.lemmas.List.Elements.{All-cons, All-nil, All-contains}
use Rattle.cube_fixed.specs.Arithmetic.{order_of}
use Rattle.rule_laws.specs.declared.finding.Finding.{Finding}
use Rattle.rule_laws.specs.declared.finding.TruthFinding.{TruthFinding}
use Rattle.rule_laws.specs.declared.reference.Reference.{Reference}
use Rattle.rule_laws.specs.declared.formula.Formula.{Formula}
use Rattle.rule_laws.specs.Meaning.{Named}
use Rattle.rule_laws.specs.RuleSystem.{Rule}
use Rattle.rule_laws.specs.Feeding.{FeedsBy, leaves_of}
use Rattle.rule_laws.specs.ZeroTest.{finding_step, truth_finding_step, zero_test}
use Rattle.rule_laws.specs.Cover.{CoversBy, NamesNoGovernedTotal, IsCoveredReference, TellsCover, IsCoveredRule, IsCovered}
use Rattle.rule_witness.specs.Replenishment.{replenishment, closing, opening, to, opening_formula, opening_rule, passing_rule, summing_rule, purchase_rule, stock_feed}
use Rattle.rule_witness.proofs.FormulaFolds.{of-opening}
use Rattle.rule_witness.proofs.Ordered.{opening-reads, opening-cell, closing-named}
use Rattle.rule_laws.proofs.FindingFacts.{Contains-push_only as alone}

-- by the feeder, the closing cell feeds the opening cell
pub feeds-opening : FeedsBy replenishment stock_feed closing opening
feeds-opening = ((lit< tt, refl), refl, (opening, refl, (0, lit< tt, refl)))

both_are : {X : Type 0} (x y : X) → Contains (x ∷ x ∷ []) y → x ≡ y
both_are {X} x y has =
    let P : X → Type 0 = λ z. x ≡ z in
    All-contains P (x ∷ x ∷ []) y (All-cons P x (x ∷ []) refl (All-cons P x [] refl (All-nil P))) has

closing-feeds : CoversBy replenishment opening_rule (to closing) stock_feed
closing-feeds c t x here names among =
    let at : c ≡ opening = opening-cell true c here in
    let is : t ≡ closing = closing-named t names in
    let listed : Contains (closing ∷ []) x = subst (λ (k : ℕ). Contains (leaves_of replenishment k) x) is among in
    let feeder : closing ≡ x = alone closing x listed in
    rw at (subst (λ (k : ℕ). FeedsBy replenishment stock_feed k opening) feeder feeds-opening)

closing-no_total : NamesNoGovernedTotal replenishment opening_rule (to closing)
closing-no_total c t here names consolidated =
    let is : t ≡ closing = closing-named t names in
    let no : true ≡ false = ap replenishment.is_leaf (sym is) ∙ consolidated in
    cc

closing-covered : IsCoveredReference replenishment opening_rule (to closing)
closing-covered = (closing-no_total, (0, stock_feed, lit< tt, refl, closing-feeds))

-- where the closing is 0, the condition is surely false, and STET is 0
opening-zero : zero_test (λ r. true) opening_formula ≡ true
unfolding order_of
opening-zero = ap (λ (a : Finding). a.is_zero) (of-opening Finding TruthFinding (finding_step (λ r. true)) truth_finding_step)

abbrev Covers : Rule → Formula → Type 0
Covers rule f = (covers : Reference → Bool) × TellsCover replenishment rule f covers × (zero_test covers f ≡ true)

opening-covers : Covers opening_rule opening_formula
opening-covers = ((λ r. true), tells, opening-zero)
  where
    tells : TellsCover replenishment opening_rule opening_formula (λ r. true)
    tells r has =
        let listed : Contains (Named (to closing) ∷ Named (to closing) ∷ []) (Named r) = rw opening-reads at has in
        let same : Named (to closing) ≡ Named r = both_are (Named (to closing)) (Named r) listed in
        let is : to closing ≡ r = cc in
        ((λ yes'. subst (IsCoveredReference replenishment opening_rule) is closing-covered), (λ covered. refl))

pub covered : IsCovered replenishment
covered =
    All-cons (IsCoveredRule replenishment) passing_rule (opening_rule ∷ summing_rule ∷ purchase_rule ∷ []) (λ f checked e. cc)
    (All-cons (IsCoveredRule replenishment) opening_rule (summing_rule ∷ purchase_rule ∷ []) carrying
    (All-cons (IsCoveredRule replenishment) summing_rule (purchase_rule ∷ []) (λ f checked e. cc)
    (All-cons (IsCoveredRule replenishment) purchase_rule [] purchasing (All-nil (IsCoveredRule replenishment)))))
  where
    carrying : IsCoveredRule replenishment opening_rule
    carrying f checked e = let same : opening_formula ≡ f = cc in subst (Covers opening_rule) same opening-covers

    purchasing : IsCoveredRule replenishment purchase_rule
    purchasing f checked e = let no : false ≡ true = checked in cc
