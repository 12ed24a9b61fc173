-- In an ordered and covered system a leaf cell that is neither stored nor fed has the value 0.
use Rattle.std.proofs.Common.{◌≡◌, refl, sym, ◌∙◌, ap, arith, ℕ, zero, suc, ◌<◌, ℤ, Bool, true, false, List, [], ◌∷◌, map, Option, None, Some, inl, inr, pos, ◌+ℤ◌, ◌*ℤ◌}
use Rattle.std.proofs.lemmas.Int.{ints}
use Rattle.std.specs.Prelude.{◌==◌, fold, is_some}
use Rattle.std.specs.List.{All, Contains, list_any}
use Rattle.std.proofs.lemmas.List.Elements.{All-contains, All-head, All-tail, Contains-push}
use Rattle.std.proofs.Math.ListN.{get_or-map}
use Rattle.std.proofs.lemmas.List.{length-map}
use Rattle.std.proofs.lemmas.List.Folds.{list_any_at}
use Rattle.std.proofs.lemmas.Bool.Decides.{Decides-eqb}
use Rattle.cube_fixed.specs.declared.value.Value.{Value}
use Rattle.cube_fixed.specs.Arithmetic.{zero_value}
use Rattle.cube_fixed.specs.Total.{Total, no_terms, with_term}
use Rattle.rule_laws.specs.declared.reference.Reference.{Reference}
use Rattle.rule_laws.specs.declared.formula.Formula.{Formula}
use Rattle.rule_laws.specs.Meaning.{Named, precedents}
use Rattle.rule_laws.specs.RuleSystem.{RuleSystem, Rule, Stored, IsCell, IsLeafCell, applies, part_of, part_at, governing, weighted_sum, base, named, others, value_at, value_by, depth, dense_value}
use Rattle.rule_laws.specs.Ordered.{IsWellFormed, IsCellOf, Throughout, IsOrderedRule, IsOrdered}
use Rattle.rule_laws.specs.Feeding.{leaves_of, IsDenseCell, Feeds, IsStart, IsFed}
use Rattle.rule_laws.specs.Cover.{IsCoveredReference, IsCoveredRule, IsCovered}
use Rattle.rule_laws.proofs.SystemFacts.{each, both, weighted_sum-agree, add_pair, CountsAlike, part_at-given, below-depth, dense_value-solves}
use Rattle.rule_laws.proofs.StatementFacts.{value_by-ungoverned}
use Rattle.rule_laws.proofs.ZeroFacts.{zero_test-is}

-- ---- lists

Contains-map : {X Y : Type 0} (f : X → Y) (xs : List X) (x : X) → Contains xs x → Contains (map f xs) (f x)
Contains-map f xs x has = (has.0, omega (arith, has.1, length-map xs f), get_or-map f xs has.0 x ∙ ap f has.2)

pub Contains-here : {X : Type 0} (x : X) (xs : List X) → Contains (x ∷ xs) x
Contains-here x xs = (0, omega arith, refl)

Contains-later : {X : Type 0} (x y : X) (xs : List X) → Contains xs x → Contains (y ∷ xs) x
Contains-later x y xs (k, less, is) = (suc k, omega (arith, less), is)

-- ---- a sum of zeros

term_zero : (sum weight : ℤ) → sum ≡ pos 0 → (sum +ℤ (weight *ℤ pos 0)) ≡ pos 0
term_zero sum weight none = omega (arith, ints)

fold-zero : (pairs : List (ℕ × ℤ)) (total : Total) → (total.exact ≡ pos 0) × (total.over ≡ false)
    → ((fold (add_pair (λ _. zero_value)) total pairs).exact ≡ pos 0) × ((fold (add_pair (λ _. zero_value)) total pairs).over ≡ false)
fold-zero [] total h = h
fold-zero (pair ∷ pairs) total h =
    fold-zero pairs (with_term total pair.1 zero_value) (term_zero total.exact pair.1 h.0, rw h.1 refl)

weighted_sum-zero : (table : ℕ → Value) (pairs : List (ℕ × ℤ)) → All (λ pair. table pair.0 ≡ zero_value) pairs → weighted_sum table pairs ≡ zero_value
weighted_sum-zero table pairs zeros =
    let sum = fold-zero pairs no_terms (refl, refl) in
    let alike : All (CountsAlike table (λ _. zero_value)) pairs =
    each pairs (CountsAlike table (λ _. zero_value)) (λ pair has. inr (All-contains (λ pair. table pair.0 ≡ zero_value) pairs pair zeros has)) in
    weighted_sum-agree table (λ _. zero_value) pairs alike ∙ rw (sum.1, sum.0) refl

-- ---- feeding

-- what feeds a cell that is not fed is no start
start-feeds : (w : RuleSystem) (stored : Stored) (x c : ℕ) → IsStart w stored x → Feeds w x c → IsFed w stored c
start-feeds w stored x c start feeds = inr (0, x, start, (x, refl, feeds))

-- nor fed
fed-feeds : (w : RuleSystem) (stored : Stored) (x c : ℕ) → IsFed w stored x → Feeds w x c → IsFed w stored c
fed-feeds w stored x c (inl dense) feeds = start-feeds w stored x c (inr dense) feeds
fed-feeds w stored x c (inr chain) feeds = inr (suc chain.0, chain.1, chain.2, (x, chain.3, feeds))

-- ---- the law

-- the leaf cells less deep than n that are neither stored nor fed are 0
abbrev pub AreZeroBelow : RuleSystem → Stored → ℕ → Type 0
AreZeroBelow w stored n =
    (c : ℕ) → IsLeafCell w c → depth w c < n → stored c ≡ None → (IsFed w stored c → ⊥) → dense_value w stored c ≡ zero_value

module _ (w : RuleSystem) (stored : Stored) (formed : IsWellFormed w) (ordered : IsOrdered w) where
  abbrev values : ℕ → Value
  values = dense_value w stored

  base-empty : (c : ℕ) → w.is_leaf c ≡ true → stored c ≡ None → base w stored values c ≡ zero_value
  base-empty c leaf none = rw (leaf, none) refl

  -- a leaf cell that feeds a cell which is not fed is 0
  feeder-zero : (n x c : ℕ) → AreZeroBelow w stored n → depth w x < n → IsLeafCell w x → Feeds w x c → (IsFed w stored c → ⊥) → values x ≡ zero_value
  feeder-zero n x c zeros less leaf feeds unfed =
      zeros x leaf less
      (not_stored (stored x) refl)
      (λ fed. unfed (fed-feeds w stored x c fed feeds))
    where
      not_stored : (o : Option ℤ) → stored x ≡ o → stored x ≡ None
      not_stored None none = none
      not_stored (Some k) some = absurd (unfed (start-feeds w stored x c (inl (leaf.0, ap is_some some)) feeds))

  -- a cell whose leaf cells all feed a leaf cell that is not fed is 0, unless a rule governs its total
  target-zero : (n t c : ℕ) → AreZeroBelow w stored n → depth w t < n → IsCell w t → (w.is_leaf t ≡ false → governing w t ≡ None)
      → ((x : ℕ) → Contains (leaves_of w t) x → Feeds w x c) → (IsFed w stored c → ⊥) → values t ≡ zero_value
  target-zero n t c zeros less cell ungoverned feeds unfed = by_kind (w.is_leaf t) refl
    where
      by_kind : (kind : Bool) → w.is_leaf t ≡ kind → values t ≡ zero_value
      by_kind true leaf =
          let itself : Contains (leaves_of w t) t = rw leaf (Contains-push [] t) in
          feeder-zero n t c zeros less (cell, leaf) (feeds t itself) unfed
      by_kind false total =
          let P : ℕ × ℤ → Type 0 = λ pair. IsLeafCell w pair.0 × (depth w pair.0 < depth w t) in
          let Q : ℕ × ℤ → Type 0 = λ pair. values pair.0 ≡ zero_value in
          let below : All Q (w.below t) =
          each (w.below t) Q (λ pair has.
          let h : P pair = All-contains P (w.below t) pair (below-depth w formed t cell total) has in
          let among : Contains (leaves_of w t) pair.0 = rw total (Contains-map (λ pair. pair.0) (w.below t) pair has) in
          feeder-zero n pair.0 c zeros (omega arith) h.0 (feeds pair.0 among) unfed) in
          dense_value-solves w formed stored ordered t cell
          ∙ value_by-ungoverned w stored values t (ungoverned total)
          ∙ rw total (weighted_sum-zero values (w.below t) below)

  -- a covered reference of a rule's formula is 0 at a leaf cell of the rule that is not fed
  reference-zero : (n c : ℕ) (rule : Rule) (f : Formula) (r : Reference) → AreZeroBelow w stored n → depth w c < suc n → IsCellOf w rule true c
      → All (λ p. Throughout w rule true p (λ c t. depth w t < depth w c)) (precedents f) → Contains (precedents f) (Named r)
      → IsCoveredReference w rule r → (IsFed w stored c → ⊥) → named w values c r ≡ zero_value
  reference-zero n c rule f r zeros less here earlier has covered unfed = by_target (w.target r c) refl
    where
      by_target : (o : Option ℕ) → w.target r c ≡ o → named w values c r ≡ zero_value
      by_target None none = rw none refl
      by_target (Some t) some =
          let sooner : depth w t < depth w c =
          All-contains (λ p. Throughout w rule true p (λ c t. depth w t < depth w c)) (precedents f) (Named r) earlier has c t here some in
          rw some
          (target-zero n t c zeros (omega arith) (formed.target_cell r c t here.cell some) (λ total. covered.0 c t here some total)
          (λ x among. (covered.1.0, covered.1.1, covered.1.2, covered.1.3, covered.1.4 c t x here some among))
          unfed)

  -- a leaf cell of a rule is of a dense cube, or its cube says SKIPCHECK
  dense-cell : (c : ℕ) (rule : Rule) → IsLeafCell w c → Contains w.rules rule → applies w c rule ≡ true → w.skips_check rule.cube ≡ false → IsDenseCell w c
  dense-cell c rule leaf among applied unchecked =
      let in_cube : (rule.cube == w.cube_of c) ≡ true = (both (rule.cube == w.cube_of c) (rule.area c) applied).0 in
      let same : rule.cube ≡ w.cube_of c = (Decides-eqb rule.cube (w.cube_of c)).0 in_cube in
      let off : w.skips_check (w.cube_of c) ≡ false = ap w.skips_check (sym same) ∙ unchecked in
      let some : list_any (λ other. other.cube == w.cube_of c) w.rules ≡ true =
      list_any_at (λ other. other.cube == w.cube_of c) w.rules among.0 rule among.1
      (ap (λ (other : Rule). other.cube == w.cube_of c) among.2 ∙ in_cube) in
      (leaf, rw (off, some) refl)

  -- the statements give 0, one after the other
  module _ (n c : ℕ) (zeros : AreZeroBelow w stored n) (less : depth w c < suc n) (leaf : IsLeafCell w c) (none : stored c ≡ None) (unfed : IsFed w stored c → ⊥) where
    formula-zero : (rule : Rule) (f : Formula) (rest : Value) → rest ≡ zero_value → Contains w.rules rule → IsOrderedRule w rule → IsCoveredRule w rule
        → part_at w c rule ≡ Some f → value_at w stored values c rest f ≡ zero_value
    formula-zero rule f rest rest_zero among ordered_rule covered some = by_check (w.skips_check rule.cube) refl
      where
        by_check : (b : Bool) → w.skips_check rule.cube ≡ b → value_at w stored values c rest f ≡ zero_value
        by_check false unchecked = absurd (unfed (inl (dense-cell c rule leaf among (part_at-given w c rule f some).0 unchecked)))
        by_check true checked =
            let given = part_at-given w c rule f some in
            let part : part_of rule true ≡ Some f = ap (part_of rule) (sym leaf.1) ∙ given.1 in
            let cover = covered f checked part in
            let here : IsCellOf w rule true c = record { cell = leaf.0; kind_is = leaf.1; applied = given.0 } in
            zero_test-is cover.0 (named w values c) (others w stored values c rest) (base-empty c leaf.1 none) rest_zero f
            (λ r has covers. reference-zero n c rule f r zeros less here (ordered_rule true f part) has ((cover.1 r has).0 covers) unfed)
            cover.2

    statements-zero : (rules : List Rule) → ((rule : Rule) → Contains rules rule → Contains w.rules rule) → All (IsOrderedRule w) rules → All (IsCoveredRule w) rules
        → value_by w stored values c rules ≡ zero_value
    statements-zero [] among ordered_rules covered = base-empty c leaf.1 none
    statements-zero (rule ∷ rules) among ordered_rules covered =
        by_part
        (statements-zero rules (λ x has. among x (Contains-later x rule rules has)) (All-tail (IsOrderedRule w) rule rules ordered_rules) (All-tail (IsCoveredRule w) rule rules covered))
        (part_at w c rule) refl
      where
        by_part : value_by w stored values c rules ≡ zero_value → (o : Option Formula) → part_at w c rule ≡ o → value_by w stored values c (rule ∷ rules) ≡ zero_value
        by_part later None off = rw off later
        by_part later (Some f) some =
            rw some
            (formula-zero rule f (value_by w stored values c rules) later (among rule (Contains-here rule rules)) (All-head (IsOrderedRule w) rule rules ordered_rules)
            (All-head (IsCoveredRule w) rule rules covered) some)

  all-zero : IsCovered w → (n : ℕ) → AreZeroBelow w stored n
  all-zero covered zero = λ c leaf less none unfed. absurd (omega arith)
  all-zero covered (suc n) =
      λ c leaf less none unfed. dense_value-solves w formed stored ordered c leaf.0
      ∙ statements-zero n c (all-zero covered n) less leaf none unfed w.rules (λ rule has. has) ordered covered

  pub unfed-zero : IsCovered w → (c : ℕ) → IsLeafCell w c → stored c ≡ None → (IsFed w stored c → ⊥) → values c ≡ zero_value
  unfed-zero covered c leaf none unfed = all-zero covered (suc (depth w c)) c leaf (omega arith) none unfed
