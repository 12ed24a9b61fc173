-- When feeders cover the rules, so that a leaf cell that is neither stored nor fed is 0.
use Rattle.std.specs.Prelude.{◌≡◌, ℕ, Bool, true, false, None, Some, IsTrue, All, Any, Contains, ◌↔◌}
use Rattle.rule_laws.specs.declared.reference.Reference.{Reference}
use Rattle.rule_laws.specs.declared.formula.Formula.{Formula}
use Rattle.rule_laws.specs.Meaning.{Named, precedents}
use Rattle.rule_laws.specs.RuleSystem.{RuleSystem, Rule, Feed, governing}
use Rattle.rule_laws.specs.Ordered.{IsCellOf}
use Rattle.rule_laws.specs.Feeding.{leaves_of, FeedsBy}
use Rattle.rule_laws.specs.ZeroTest.{zero_test}

-- the feeder covers the reference: from each leaf cell of the rule where it names a cell, each leaf cell of that cell
-- feeds it
abbrev pub CoversBy : RuleSystem → Rule → Reference → Feed → Type 0
CoversBy w rule r feed =
    (c t x : ℕ) → IsCellOf w rule true c → w.target r c ≡ Some t → Contains (leaves_of w t) x → FeedsBy w feed x c

-- from no leaf cell of the rule does the reference name a consolidated cell that a rule governs
abbrev pub NamesNoGovernedTotal : RuleSystem → Rule → Reference → Type 0
NamesNoGovernedTotal w rule r =
    (c t : ℕ) → IsCellOf w rule true c → w.target r c ≡ Some t → w.is_leaf t ≡ false → governing w t ≡ None

-- the reference of a rule is covered
abbrev pub IsCoveredReference : RuleSystem → Rule → Reference → Type 0
IsCoveredReference w rule r = NamesNoGovernedTotal w rule r × Any (CoversBy w rule r) w.feeds

-- the test tells which references of the rule's formula are covered
abbrev pub TellsCover : RuleSystem → Rule → Formula → (Reference → Bool) → Type 0
TellsCover w rule f covers =
    (r : Reference) → Contains (precedents f) (Named r) → IsTrue (covers r) ↔ IsCoveredReference w rule r

-- the N part of the rule passes the zero test, by what tells which of its references are covered, if its cube says
-- SKIPCHECK
abbrev pub IsCoveredRule : RuleSystem → Rule → Type 0
IsCoveredRule w rule =
    (f : Formula) → w.skips_check rule.cube ≡ true → rule.leaf_part ≡ Some f
    → (covers : Reference → Bool) × TellsCover w rule f covers × (zero_test covers f ≡ true)

abbrev pub IsCovered : RuleSystem → Type 0
IsCovered w = All (IsCoveredRule w) w.rules
