-- When a system is well formed and ordered, so that no cell rests on itself.
use Rattle.std.specs.Prelude.{◌≡◌, ℕ, ◌<◌, ◌≤◌, ℤ, pos, Bool, true, false, List, Some, All, Contains}
use Rattle.rule_laws.specs.declared.reference.Reference.{Reference}
use Rattle.rule_laws.specs.declared.formula.Formula.{Formula}
use Rattle.rule_laws.specs.Meaning.{Precedent, Named, Components, precedents}
use Rattle.rule_laws.specs.RuleSystem.{RuleSystem, Rule, IsCell, IsLeafCell, part_of, applies, depth}

-- what each bound model shows of itself
pub record IsWellFormed (w : RuleSystem) : Type 0 where
  -- what lies below a cell are leaf cells that rank no higher
  pub leaves_below : (c : ℕ) → IsCell w c → All (λ pair. IsLeafCell w pair.0 × (w.rank pair.0 ≤ w.rank c)) (w.below c)
  -- what a reference names from a cell is a cell
  pub target_cell : (r : Reference) (c t : ℕ) → IsCell w c → w.target r c ≡ Some t → IsCell w t
  -- the components are cells of a smaller level
  pub component_cells : (c dim : ℕ) (pairs : List (ℕ × ℤ)) → IsCell w c → w.components c dim ≡ Some pairs
      → All (λ pair. IsCell w pair.0 × (w.level pair.0 < w.level c)) pairs
  -- just the leaf cells have level 0
  pub leaf_level : (c : ℕ) → IsLeafCell w c → w.level c ≡ 0
  pub total_level : (c : ℕ) → IsCell w c → w.is_leaf c ≡ false → 0 < w.level c

-- a cell of this kind that the rule applies to
pub record IsCellOf (w : RuleSystem) (rule : Rule) (kind : Bool) (c : ℕ) : Type 0 where
  pub cell : IsCell w c
  pub kind_is : w.is_leaf c ≡ kind
  pub applied : applies w c rule ≡ true

-- from a cell, the precedent has this cell: the one that a reference names, or a component of a weight other than 0
abbrev pub HasPrecedent : RuleSystem → Precedent → ℕ → ℕ → Type 0
HasPrecedent w (Named r) c t = w.target r c ≡ Some t
HasPrecedent w (Components dim) c t =
    (pairs : List (ℕ × ℤ)) × (w.components c dim ≡ Some pairs)
    × ((weight : ℤ) × Contains pairs (t, weight) × (weight ≡ pos 0 → ⊥))

-- it holds between each cell of this kind that the rule applies to and each cell that the precedent has from there
abbrev pub Throughout : RuleSystem → Rule → Bool → Precedent → (ℕ → ℕ → Type 0) → Type 0
Throughout w rule kind p Holds = (c t : ℕ) → IsCellOf w rule kind c → HasPrecedent w p c t → Holds c t

-- what a rule's formula reads lies less deep
abbrev pub IsOrderedRule : RuleSystem → Rule → Type 0
IsOrderedRule w rule =
    (kind : Bool) (f : Formula) → part_of rule kind ≡ Some f
    → All (λ p. Throughout w rule kind p (λ c t. depth w t < depth w c)) (precedents f)

-- each rule reads less deep cells alone
abbrev pub IsOrdered : RuleSystem → Type 0
IsOrdered w = All (IsOrderedRule w) w.rules
