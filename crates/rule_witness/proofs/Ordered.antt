-- Each rule of the system reads less deep cells alone.
use Rattle.std.proofs.Common.{◌≡◌, sym, ◌∙◌, ap, subst, lit<, ℕ, ◌<◌, ℤ, Bool, true, false, Some, List, [], ◌∷◌}
use Rattle.std.specs.Prelude.{◌==◌}
use Rattle.std.specs.List.{All, Contains}
use Rattle.std.proofs.lemmas.Bool.Decides.{Decides-eqb}
use Rattle.std.proofs.lemmas.List.Elements.{All-cons, All-nil, All-contains}
use Rattle.rule_laws.specs.declared.formula.Formula.{Formula}
use Rattle.rule_laws.specs.declared.formula.Formula.TheVariants.{Continue, Children}
use Rattle.rule_laws.specs.Meaning.{Precedent, Named, Components, precedents_step, truth_precedents_step, precedents}
use Rattle.rule_laws.specs.RuleSystem.{Rule, depth}
use Rattle.rule_laws.specs.Ordered.{IsCellOf, Throughout, IsOrderedRule, IsOrdered}
use Rattle.rule_laws.proofs.SystemFacts.{both}
use Rattle.rule_laws.proofs.PrecedentFacts.{continue_reads, children_reads}
use Rattle.rule_witness.specs.Replenishment.{replenishment, closing, opening, available, purchase, available_cells, named_cell, cube_of_cell, stock_cube, purchase_cube, to, opening_formula, purchase_formula, opening_rule, passing_rule, summing_rule, purchase_rule}
use Rattle.rule_witness.proofs.FormulaFolds.{of-opening, of-purchase}

-- ---- what each formula reads

pub opening-reads : precedents opening_formula ≡ Named (to closing) ∷ Named (to closing) ∷ []
opening-reads = of-opening (List Precedent) (List Precedent) precedents_step truth_precedents_step

purchase-reads : precedents purchase_formula ≡ Named (to available) ∷ []
purchase-reads = of-purchase (List Precedent) (List Precedent) precedents_step truth_precedents_step

-- ---- the cells of each rule

pub opening-cell : (kind : Bool) (c : ℕ) → IsCellOf replenishment opening_rule kind c → c ≡ opening
opening-cell kind c here = (Decides-eqb c opening).0 (both (stock_cube == cube_of_cell c) (c == opening) here.applied).1

summing-cell : (kind : Bool) (c : ℕ) → IsCellOf replenishment summing_rule kind c → c ≡ available
summing-cell kind c here = (Decides-eqb c available).0 (both (stock_cube == cube_of_cell c) (c == available) here.applied).1

purchase-cell : (kind : Bool) (c : ℕ) → IsCellOf replenishment purchase_rule kind c → c ≡ purchase
purchase-cell kind c here = (Decides-eqb c purchase).0 (both (purchase_cube == cube_of_cell c) (c == purchase) here.applied).1

pub closing-named : (t : ℕ) → named_cell stock_cube (to closing).args ≡ Some t → t ≡ closing
closing-named t e = let same : Some closing ≡ Some t = e in cc

available-named : (t : ℕ) → named_cell stock_cube (to available).args ≡ Some t → t ≡ available
available-named t e = let same : Some available ≡ Some t = e in cc

-- ---- what is read lies less deep

abbrev Sooner : Rule → Bool → Precedent → Type 0
Sooner rule kind p = Throughout replenishment rule kind p (λ c t. depth replenishment t < depth replenishment c)

abbrev Earlier : Rule → Bool → Formula → Type 0
Earlier rule kind f = All (Sooner rule kind) (precedents f)

closing-sooner : Sooner opening_rule true (Named (to closing))
closing-sooner c t here names =
    let at : c ≡ opening = opening-cell true c here in
    let is : t ≡ closing = closing-named t names in
    rw (at, is) (lit< tt)

available-sooner : Sooner purchase_rule true (Named (to available))
available-sooner c t here names =
    let at : c ≡ purchase = purchase-cell true c here in
    let is : t ≡ available = available-named t names in
    rw (at, is) (lit< tt)

in_pair : {X : Type 0} (P : X → Type 0) (x y z : X) → P x → P y → Contains (x ∷ y ∷ []) z → P z
in_pair P x y z first second has = All-contains P (x ∷ y ∷ []) z (All-cons P x (y ∷ []) first (All-cons P y [] second (All-nil P))) has

components-sooner : Sooner summing_rule false (Components 0)
components-sooner c t here (pairs, is, (weight, has, counted)) =
    let at : c ≡ available = summing-cell false c here in
    let some : replenishment.components available 0 ≡ Some pairs = ap (λ (x : ℕ). replenishment.components x 0) (sym at) ∙ is in
    let listed : Some available_cells ≡ Some pairs = some in
    let cells : available_cells ≡ pairs = cc in
    let among : Contains available_cells (t, weight) = subst (λ (ps : List (ℕ × ℤ)). Contains ps (t, weight)) (sym cells) has in
    let less : depth replenishment t < depth replenishment available = in_pair (λ pair. depth replenishment pair.0 < depth replenishment available) _ _ (t, weight) (lit< tt) (lit< tt) among in
    rw at less

pub ordered : IsOrdered replenishment
ordered =
    All-cons (IsOrderedRule replenishment) passing_rule (opening_rule ∷ summing_rule ∷ purchase_rule ∷ []) passing
    (All-cons (IsOrderedRule replenishment) opening_rule (summing_rule ∷ purchase_rule ∷ []) carrying
    (All-cons (IsOrderedRule replenishment) summing_rule (purchase_rule ∷ []) summing
    (All-cons (IsOrderedRule replenishment) purchase_rule [] purchasing (All-nil (IsOrderedRule replenishment)))))
  where
    passing : IsOrderedRule replenishment passing_rule
    passing true f e = cc
    passing false f e =
        let same : Continue ≡ f = cc in
        subst (Earlier passing_rule false) same (rw continue_reads (All-nil (Sooner passing_rule false)))

    carrying : IsOrderedRule replenishment opening_rule
    carrying true f e =
        let same : opening_formula ≡ f = cc in
        let P : Precedent → Type 0 = Sooner opening_rule true in
        subst (Earlier opening_rule true) same
        (rw opening-reads (All-cons P (Named (to closing)) (Named (to closing) ∷ []) closing-sooner (All-cons P (Named (to closing)) [] closing-sooner (All-nil P))))
    carrying false f e = cc

    summing : IsOrderedRule replenishment summing_rule
    summing true f e = cc
    summing false f e =
        let same : Children 0 ≡ f = cc in
        subst (Earlier summing_rule false) same
        (rw (children_reads 0) (All-cons (Sooner summing_rule false) (Components 0) [] components-sooner (All-nil (Sooner summing_rule false))))

    purchasing : IsOrderedRule replenishment purchase_rule
    purchasing true f e =
        let same : purchase_formula ≡ f = cc in
        subst (Earlier purchase_rule true) same
        (rw purchase-reads (All-cons (Sooner purchase_rule true) (Named (to available)) [] available-sooner (All-nil (Sooner purchase_rule true))))
    purchasing false f e = cc
