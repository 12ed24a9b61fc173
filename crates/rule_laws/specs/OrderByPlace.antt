-- The order that is checked before a model is accepted. A cell has a number at each position of the declared order, and
-- its level decides last.
use Rattle.std.specs.Prelude.{◌≡◌, ℕ, ◌<◌, ◌≤◌, Bool, Some, All, ◌⊎◌}
use Rattle.rule_laws.specs.declared.formula.Formula.{Formula}
use Rattle.rule_laws.specs.Meaning.{Precedent, precedents}
use Rattle.rule_laws.specs.RuleSystem.{RuleSystem, Rule, IsCell, part_of}
use Rattle.rule_laws.specs.Ordered.{Throughout}

-- how many positions there are, and the number of a cell at each
pub record Positions : Type 0 where
  pub count : ℕ
  pub at : ℕ → ℕ → ℕ

-- at no position before this one is a cell that the precedent has greater
abbrev pub IsNoneGreaterBefore : RuleSystem → Positions → Rule → Bool → Precedent → ℕ → Type 0
IsNoneGreaterBefore w ps rule kind p last =
    (q : ℕ) → q < last → Throughout w rule kind p (λ c t. ps.at q t ≤ ps.at q c)

-- every cell that the precedent has is smaller at one and the same position, and none is greater before it
abbrev pub IsDecidedByPosition : RuleSystem → Positions → Rule → Bool → Precedent → Type 0
IsDecidedByPosition w ps rule kind p =
    (q : ℕ) × (q < ps.count) × Throughout w rule kind p (λ c t. ps.at q t < ps.at q c)
    × IsNoneGreaterBefore w ps rule kind p q

-- every cell that the precedent has is of a smaller level, and none is greater at any position
abbrev pub IsDecidedByLevel : RuleSystem → Positions → Rule → Bool → Precedent → Type 0
IsDecidedByLevel w ps rule kind p =
    Throughout w rule kind p (λ c t. w.level t < w.level c) × IsNoneGreaterBefore w ps rule kind p ps.count

abbrev pub IsOrderedByPlace : RuleSystem → Positions → Type 0
IsOrderedByPlace w ps =
    All (λ rule. (kind : Bool) (f : Formula) → part_of rule kind ≡ Some f
    → All (λ p. IsDecidedByPosition w ps rule kind p ⊎ IsDecidedByLevel w ps rule kind p) (precedents f)) w.rules

-- the ranks are the numbers at the positions, the first position first
pub record IsRankedBy (w : RuleSystem) (ps : Positions) : Type 0 where
  pub smaller : (x c q : ℕ) → IsCell w x → IsCell w c → q < ps.count → ps.at q x < ps.at q c
      → ((p : ℕ) → p < q → ps.at p x ≤ ps.at p c) → w.rank x < w.rank c
  pub at_most : (x c : ℕ) → IsCell w x → IsCell w c → ((q : ℕ) → q < ps.count → ps.at q x ≤ ps.at q c)
      → w.rank x ≤ w.rank c
  -- a cell's level is below the number of levels
  pub level_within : (c : ℕ) → IsCell w c → w.level c < w.levels
