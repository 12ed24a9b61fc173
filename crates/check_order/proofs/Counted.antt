-- In a model that is ordered cell by cell each counted reference is earlier.
use Rattle.std.proofs.Common.{◌≡◌, ◌⊎◌, refl, subst, arith, ℕ, ◌<◌, Bool, true, false, Option, Some, None, List, length, All}
use Rattle.std.specs.Prelude.{slice_get}
use Rattle.std.proofs.lemmas.Option.{slice_get_within, get_or_from_slice_get}
use Rattle.rule_laws.specs.declared.formula.Formula.{Formula}
use Rattle.rule_laws.specs.Meaning.{Precedent, precedents}
use Rattle.rule_laws.specs.RuleSystem.{Rule, part_of}
use Rattle.rule_laws.specs.OrderByPlace.{IsDecidedByPosition, IsDecidedByLevel, IsOrderedByPlace}
use Rattle.rule_model.specs.declared.rules.Statement.{Statement}
use Rattle.rule_model.specs.BoundModel.{BoundModel, rules_of}
use Rattle.rule_model.specs.System.{system_of, positions_of, rule_of, cube_rules}
use Rattle.order_laws.proofs.Ordered.{flat-parts, map-parts}
use Rattle.ref_order.specs.Counted.{counted_of, reads}
use Rattle.check_order.specs.FirstLate.{IsEarlierFor, AreEarlier}
use Rattle.check_order.proofs.LateFacts.{Has, all-nothing, has-parts}

-- what holds of all that the parts of a statement read holds of its references as they are counted
module _ (P : Bool → Precedent → Type 0) where
  all-reads : (kind : Bool) (part : Option Formula) → ((f : Formula) → part ≡ Some f → All (P kind) (precedents f)) → All (P kind) (reads part)
  all-reads kind None each = all-nothing (P kind)
  all-reads kind (Some f) each = each f refl

  pub counted-hold : (s : Statement) → ((f : Formula) → s.leaf ≡ Some f → All (P true) (precedents f)) → ((f : Formula) → s.cons ≡ Some f → All (P false) (precedents f)) → All (Has P) (counted_of s)
  counted-hold s leaf cons = has-parts P s (all-reads true s.leaf leaf) (all-reads false s.cons cons)

statement-earlier : (m : BoundModel) (cube : ℕ) (s : Statement) → ((kind : Bool) (f : Formula) → part_of (rule_of m.space cube s) kind ≡ Some f → All (IsEarlierFor m cube s kind) (precedents f)) → AreEarlier m cube s
statement-earlier m cube s each = counted-hold (IsEarlierFor m cube s) s (each true) (each false)

abbrev IsOrderedRule : BoundModel → Rule → Type 0
IsOrderedRule m rule =
    (kind : Bool) (f : Formula) → part_of rule kind ≡ Some f
    → All (λ p. IsDecidedByPosition (system_of m) (positions_of m) rule kind p ⊎ IsDecidedByLevel (system_of m) (positions_of m) rule kind p) (precedents f)

pub ordered-statement : (m : BoundModel) → IsOrderedByPlace (system_of m) (positions_of m) → (cube : ℕ) → cube < length m.space.cubes
    → (place : ℕ) (s : Statement) → slice_get (rules_of m cube).statements place ≡ Some s → AreEarlier m cube s
unfolding system_of
ordered-statement m ordered cube there place s here =
    let ss = (rules_of m cube).statements in
    let rules = map-parts (IsOrderedRule m) (rule_of m.space cube) ss (flat-parts (IsOrderedRule m) (cube_rules m) 0 (length m.space.cubes) ordered cube (omega arith) (omega (arith, there))) in
    let it = get_or_from_slice_get ss place s s here in
    statement-earlier m cube s
    (subst (λ x. (kind : Bool) (f : Formula) → part_of (rule_of m.space cube x) kind ≡ Some f → All (IsEarlierFor m cube x kind) (precedents f)) it
    (rules place s (slice_get_within ss place s here)))
