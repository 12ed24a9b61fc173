-- Of a bound model one thing is found or refused.
use Rattle.std.proofs.Common.{◌≡◌, inl, inr, refl, sym, ap, ◌∙◌, arith, subst, ℕ, zero, suc, ◌<◌, ◌≤◌, Bool, true, false, not, Option, Some, None, List, [], ◌∷◌, map}
use Rattle.std.specs.Prelude.{slice_get}
use Rattle.std.proofs.lemmas.Bool.{cases_lt, and_parts}
use Rattle.rule_laws.specs.declared.reference.Reference.{Reference}
use Rattle.rule_laws.specs.declared.formula.Formula.{Formula}
use Rattle.rule_laws.specs.declared.finding.Finding.{Finding}
use Rattle.rule_laws.specs.RuleSystem.{RuleSystem, Rule}
use Rattle.rule_laws.specs.Feeding.{is_dense, IsFed}
use Rattle.rule_laws.specs.Cover.{IsCoveredRule, TellsCover}
use Rattle.rule_laws.specs.ZeroTest.{blamed}
use Rattle.rule_laws.proofs.FindingFacts.{finding-same}
use Rattle.rule_model.specs.declared.rules.Statement.{Statement}
use Rattle.rule_model.specs.BoundModel.{BoundModel, rules_of}
use Rattle.rule_model.specs.System.{system_of, positions_of, rule_of, cube_rules}
use Rattle.cover_laws.proofs.Counted.{contained}
use Rattle.cube_space.specs.Radix.{product}
use Rattle.rule_laws.specs.OrderByPlace.{IsOrderedByPlace}
use Rattle.rule_model.specs.Order.{most_height, position_sizes}
use Rattle.check_order.specs.declared.fault.OrderFault.{OrderFault}
use Rattle.check_order.specs.declared.fault.OrderFault.TheVariants.{TooHigh, NotEarlier}
use Rattle.check_order.specs.FirstLate.{IsEarlier}
use Rattle.check_order.specs.Verdict.{IsOrderFault}
use Rattle.check_order.proofs.HeightFacts.{low-none}
use Rattle.check_order.proofs.Counted.{ordered-statement}
use Rattle.feed_check.specs.declared.fault.FeedCheckFault.{FeedCheckFault}
use Rattle.feed_check.specs.declared.fault.FeedCheckFault.TheVariants.{NotFed, DenseTooLarge}
use Rattle.feed_check.specs.Verdict.{IsBlamed, IsFirstBlamed, IsSound, IsFaultOf, IsFirstFault}
use Rattle.feed_check.proofs.Verdicts.{fault-refused}
use Rattle.feed_map.specs.FedCells.{HasFewFed, HasManyFed}
use Rattle.feed_map.proofs.Counts.{within-counts}
use Rattle.stored_laws.specs.Stored.{stored_in}
use Rattle.model_bind.specs.Files.{RuleFile}
use Rattle.model_deploy.specs.Deployment.{order_refusal, feeders_refusal, ordered_stage, feeders_stage, fed_stage}
use Rattle.deploy_laws.specs.OneAnswer.{HasOneAnswer}
use Rattle.lists.proofs.Found.{same_truth as both-true}
use Rattle.deploy_laws.proofs.FirstReferences.{there-holds, taken-holds, none-of-all, one-reference}

-- ---- the operand that is blamed

module _ (w : RuleSystem) (rule : Rule) where
  agreed : (f : Formula) (covers other : Reference → Bool) → TellsCover w rule f covers → TellsCover w rule f other → blamed covers f ≡ blamed other f
  agreed f covers other tells told =
      ap (λ (a : Finding). a.blamed)
      (finding-same covers other f (λ r c. both-true (covers r) (other r) (λ e. (told r c).1 ((tells r c).0 e)) (λ e. (tells r c).1 ((told r c).0 e))))

  one-operand : (m n : ℕ) → IsBlamed w rule m → IsBlamed w rule n → m ≡ n
  one-operand m n b d =
      let parts : Some b.formula ≡ Some d.formula = sym b.leaf_part ∙ d.leaf_part in
      let same : b.formula ≡ d.formula = cc in
      let tells : TellsCover w rule d.formula b.covers = subst (λ f. TellsCover w rule f b.covers) same b.tells in
      b.operand_is ∙ ap (blamed b.covers) same ∙ agreed d.formula b.covers d.covers tells d.tells ∙ sym d.operand_is

-- ---- the feeders of a cube

module _ (m : BoundModel) (cube : ℕ) where
  own-rule : (place : ℕ) (rule : Rule) → slice_get (cube_rules m cube) place ≡ Some rule → rule.cube ≡ cube
  own-rule place rule here = by (rules_of m cube).statements place here
    where
      by : (ss : List Statement) (n : ℕ) → slice_get (map (rule_of m.space cube) ss) n ≡ Some rule → rule.cube ≡ cube
      by [] n at = let clash : None ≡ Some rule = at in absurd (cc)
      by (s ∷ ss) zero at = let same : rule_of m.space cube s ≡ rule = cc in ap (λ (r : Rule). r.cube) (sym same)
      by (s ∷ ss) (suc n) at = by ss n at

  unsound : (fault : FeedCheckFault) → IsFaultOf m cube fault → IsSound m cube → ⊥
  unsound (DenseTooLarge own count) (is, dense, counted, large) sound = (let few = sound.small dense in omega (arith, few, large, counted))
  unsound (NotFed own statement operand) (is, (place, at, first)) sound =
      first.is_blamed.fails (there-holds (IsCoveredRule (system_of m)) (cube_rules m cube) place first.rule sound.covered first.here)

  -- no rule of a dense cube has to be covered
  dense-covered : is_dense (system_of m) cube ≡ true → (place operand : ℕ) → IsFirstBlamed m cube place operand → ⊥
  dense-covered dense place operand first =
      first.is_blamed.fails (λ f skips leaf.
      let own : (system_of m).skips_check cube ≡ true = subst (λ k. (system_of m).skips_check k ≡ true) (own-rule place first.rule first.here) skips in
      let clash : false ≡ true = sym (ap not own) ∙ (and_parts _ _ dense).0 in
      absurd (cc))

  one-place : (p q m-operand n-operand : ℕ) → IsFirstBlamed m cube p m-operand → IsFirstBlamed m cube q n-operand → p < q → ⊥
  one-place p q o n x y less =
      x.is_blamed.fails (taken-holds (IsCoveredRule (system_of m)) (cube_rules m cube) q p x.rule y.before less x.here)

  same-operand : (p q o n : ℕ) → IsFirstBlamed m cube p o → IsFirstBlamed m cube q n → p ≡ q → o ≡ n
  same-operand p q o n x y same =
      let rules : Some x.rule ≡ Some y.rule = sym x.here ∙ ap (slice_get (cube_rules m cube)) same ∙ y.here in
      let rule : x.rule ≡ y.rule = cc in
      one-operand (system_of m) y.rule o n (subst (λ r. IsBlamed (system_of m) r o) rule x.is_blamed) y.is_blamed

  -- the place and the operand of the first rule that isn't covered
  one-blamed : (p q o n : ℕ) → IsFirstBlamed m cube p o → IsFirstBlamed m cube q n → (p ≡ q) × (o ≡ n)
  one-blamed p q o n x y = elim (cases_lt p q) [
    | inl less ↦ absurd (one-place p q o n x y less)
    | inr high ↦ elim (cases_lt q p) [
      | inl less ↦ absurd (one-place q p n o y x less)
      | inr also ↦ let same : p ≡ q = omega (arith, high, also) in (same, same-operand p q o n x y same)
    ]
  ]

  one-of-cube : (a b : FeedCheckFault) → IsFaultOf m cube a → IsFaultOf m cube b → a ≡ b
  one-of-cube (DenseTooLarge own count) (DenseTooLarge other number) (is, dense, counted, large) (also, thick, told, great) =
      ap (λ k. DenseTooLarge k count) (is ∙ sym also) ∙ ap (λ n. DenseTooLarge other n) (counted ∙ sym told)
  one-of-cube (DenseTooLarge own count) (NotFed other statement operand) (is, dense, counted, large) (also, (place, at, first)) = absurd (dense-covered dense place operand first)
  one-of-cube (NotFed own statement operand) (DenseTooLarge other count) (is, (place, at, first)) (also, dense, counted, large) = absurd (dense-covered dense place operand first)
  one-of-cube (NotFed own statement operand) (NotFed other number blame) (is, (p, at, x)) (also, (q, here, y)) =
      let both = one-blamed p q operand blame x y in
      ap (λ k. NotFed k statement operand) (is ∙ sym also)
      ∙ ap (λ s. NotFed other s operand) (at ∙ ap suc both.0 ∙ sym here)
      ∙ ap (λ o. NotFed other number o) both.1

-- ---- the model

module _ (m : BoundModel) where
  one-first : (a b : FeedCheckFault) → IsFirstFault m a → IsFirstFault m b → a ≡ b
  one-first a b (c, low, fault, before) (d, less, other, earlier) = elim (cases_lt c d) [
    | inl under ↦ absurd (unsound m c a fault (earlier c under))
    | inr high ↦ elim (cases_lt d c) [
      | inl under ↦ absurd (unsound m d b other (before d under))
      | inr also ↦ let same : c ≡ d = omega (arith, high, also) in one-of-cube m d a b (subst (λ k. IsFaultOf m k a) same fault) other
    ]
  ]

  pub single-feeders : (files : List (Option RuleFile)) → HasOneAnswer (feeders_stage files m)
  single-feeders files = record {
    one_found = λ a b h k. refl;
    one_refusal = λ e f h k. inl (h.2 ∙ ap (feeders_refusal files) (one-first h.0 k.0 h.1 k.1) ∙ sym k.2);
    not_both = λ a e h k. fault-refused m k.0 k.1 h.0 h.1;
  }

  few-or-many : HasFewFed m [] → HasManyFed m [] → ⊥
  few-or-many (cells, are, few) (others, rising, many, fed) =
      let counts = within-counts cells others are.rising rising (λ c has. (are.fed c).1 (contained (IsFed (system_of m) (stored_in [])) others c fed has)) in
      omega (arith, counts, few, many)

  pub single-fed : HasOneAnswer (fed_stage m)
  single-fed = record {
    one_found = λ a b h k. refl;
    one_refusal = λ e f h k. inl (h.1 ∙ sym k.1);
    not_both = λ a e h k. few-or-many h k.0;
  }

-- ---- the order

module _ (m : BoundModel) where
  one-order-fault : (a b : OrderFault) → IsOrderFault m a → IsOrderFault m b → a ≡ b
  one-order-fault (TooHigh height) (TooHigh other) x y = let same : Some height ≡ Some other = sym x ∙ y in ap TooHigh (cc same)
  one-order-fault (TooHigh height) (NotEarlier cube st r) x y = absurd (let wrong : Some height ≡ None = sym x ∙ y.0 in cc wrong)
  one-order-fault (NotEarlier cube st r) (TooHigh height) x y = absurd (let wrong : None ≡ Some height = sym x.0 ∙ y in cc wrong)
  one-order-fault (NotEarlier cube st r) (NotEarlier other tt q) x y = one-reference (IsEarlier m) m NotEarlier cube other st r tt q x.1 y.1

  ordered-not-late : IsOrderedByPlace (system_of m) (positions_of m) → product (position_sizes m) ≤ most_height → (a : OrderFault) → IsOrderFault m a → ⊥
  ordered-not-late ordered low (TooHigh height) x = let wrong : Some height ≡ None = sym x ∙ low-none m low in absurd (cc wrong)
  ordered-not-late ordered low (NotEarlier cube st r) x =
      none-of-all (IsEarlier m cube x.1.it) x.1.it r x.1.first (ordered-statement m ordered cube x.1.inside x.1.place x.1.it x.1.here)

  pub single-ordered : (files : List (Option RuleFile)) → HasOneAnswer (ordered_stage files m)
  single-ordered files = record {
    one_found = λ a b h k. refl;
    one_refusal = λ e f h k. inl (h.2 ∙ ap (order_refusal files) (one-order-fault h.0 k.0 h.1 k.1) ∙ sym k.2);
    not_both = λ a e h k. ordered-not-late h.0 h.1 k.0 k.1;
  }
