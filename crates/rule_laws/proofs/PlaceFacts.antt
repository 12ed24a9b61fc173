-- What is ordered by position and level reads less deep cells alone.
use Rattle.std.proofs.Common.{◌≡◌, arith, ℕ, ◌+◌, ◌*◌, ◌<◌, ◌≤◌, Bool, Some, inl, inr, ◌⊎◌}
use Rattle.std.specs.List.{All}
use Rattle.std.proofs.lemmas.List.Elements.{All-weaker}
use Rattle.rule_laws.specs.declared.formula.Formula.{Formula}
use Rattle.rule_laws.specs.Meaning.{Precedent, Named, Components, precedents}
use Rattle.rule_laws.specs.RuleSystem.{RuleSystem, Rule, IsCell, part_of, depth}
use Rattle.rule_laws.specs.Ordered.{IsWellFormed, HasPrecedent, Throughout, IsOrderedRule, IsOrdered}
use Rattle.rule_laws.specs.OrderByPlace.{Positions, IsDecidedByPosition, IsDecidedByLevel, IsOrderedByPlace, IsRankedBy}
use Rattle.std.proofs.lemmas.List.Elements.{All-contains}

by_rank : (n a b l m : ℕ) → a < b → l < n → n * a + l < n * b + m
by_rank n a b l m less within = grind arith

by_level : (n a b l m : ℕ) → a ≤ b → l < m → n * a + l < n * b + m
by_level n a b l m at_most less = grind arith

module _ (w : RuleSystem) (ps : Positions) (formed : IsWellFormed w) (ranked : IsRankedBy w ps) where
  precedent-cell : (p : Precedent) (c t : ℕ) → IsCell w c → HasPrecedent w p c t → IsCell w t
  precedent-cell (Named r) c t cell names = formed.target_cell r c t cell names
  precedent-cell (Components dim) c t cell (pairs, some, (weight, has, counted)) =
      (All-contains (λ pair. IsCell w pair.0 × (w.level pair.0 < w.level c)) pairs (t, weight) (formed.component_cells c dim pairs cell some) has).0

  decided-less_deep : (rule : Rule) (kind : Bool) (p : Precedent) → IsDecidedByPosition w ps rule kind p ⊎ IsDecidedByLevel w ps rule kind p
      → Throughout w rule kind p (λ c t. depth w t < depth w c)
  decided-less_deep rule kind p (inl (q, within, smaller, before)) c t here has =
      let cell = precedent-cell p c t here.cell has in
      let ranks : w.rank t < w.rank c = ranked.smaller t c q cell here.cell within (smaller c t here has) (λ o less. before o less c t here has) in
      by_rank w.levels (w.rank t) (w.rank c) (w.level t) (w.level c) ranks (ranked.level_within t cell)
  decided-less_deep rule kind p (inr (smaller, before)) c t here has =
      let cell = precedent-cell p c t here.cell has in
      let ranks : w.rank t ≤ w.rank c = ranked.at_most t c cell here.cell (λ o less. before o less c t here has) in
      by_level w.levels (w.rank t) (w.rank c) (w.level t) (w.level c) ranks (smaller c t here has)

  pub ordered-by_place : IsOrderedByPlace w ps → IsOrdered w
  ordered-by_place by_place =
      All-weaker
      (λ rule. (kind : Bool) (f : Formula) → part_of rule kind ≡ Some f
      → All (λ p. IsDecidedByPosition w ps rule kind p ⊎ IsDecidedByLevel w ps rule kind p) (precedents f))
      (IsOrderedRule w)
      (λ rule h kind f part.
      All-weaker (λ p. IsDecidedByPosition w ps rule kind p ⊎ IsDecidedByLevel w ps rule kind p)
      (λ p. Throughout w rule kind p (λ c t. depth w t < depth w c)) (λ p. decided-less_deep rule kind p) (precedents f) (h kind f part))
      w.rules by_place
