-- Which cells are fed.
use Rattle.std.specs.Prelude.{◌≡◌, ℕ, zero, suc, ◌==◌, Bool, true, not, ◌&&◌, List, [], ◌∷◌, map, Some, IsSome, Any}
use Rattle.std.specs.Prelude.{Contains, ◌⊎◌, if◌then◌else◌}
use Rattle.std.specs.List.{list_any}
use Rattle.rule_laws.specs.RuleSystem.{RuleSystem, Feed, Stored, IsCell, IsLeafCell}

-- the leaf cells that a cell means: a leaf cell for itself, a consolidated cell for those below it
abbrev pub leaves_of : RuleSystem → ℕ → List ℕ
leaves_of w t = if w.is_leaf t then t ∷ [] else map (λ pair. pair.0) (w.below t)

-- whether a cube is dense: it has rules and does not say SKIPCHECK
abbrev pub is_dense : RuleSystem → ℕ → Bool
is_dense w cube = not (w.skips_check cube) && list_any (λ rule. rule.cube == cube) w.rules

-- a leaf cell of a dense cube
abbrev pub IsDenseCell : RuleSystem → ℕ → Type 0
IsDenseCell w c = IsLeafCell w c × (is_dense w (w.cube_of c) ≡ true)

-- by this feeder, x feeds c: x is a leaf cell among its sources, and c is among the leaf cells of the cell that it
-- targets from x
abbrev pub FeedsBy : RuleSystem → Feed → ℕ → ℕ → Type 0
FeedsBy w feed x c =
    IsLeafCell w x × (feed.source x ≡ true) × ((t : ℕ) × (w.target feed.target x ≡ Some t) × Contains (leaves_of w t) c)

-- by some feeder, x feeds c
abbrev pub Feeds : RuleSystem → ℕ → ℕ → Type 0
Feeds w x c = Any (λ feed. FeedsBy w feed x c) w.feeds

-- where chains begin: the stored cells and the leaf cells of dense cubes
abbrev pub IsStart : RuleSystem → Stored → ℕ → Type 0
IsStart w stored x = (IsCell w x × IsSome (stored x)) ⊎ IsDenseCell w x

-- a chain of so many feeds leads from a to c
abbrev pub Leads : RuleSystem → ℕ → ℕ → ℕ → Type 0
Leads w zero a c = a ≡ c
Leads w (suc n) a c = (x : ℕ) × Leads w n a x × Feeds w x c

-- the fed cells: the leaf cells of dense cubes, and the ends of all chains of one feed or more that begin at a start
abbrev pub IsFed : RuleSystem → Stored → ℕ → Type 0
IsFed w stored c = IsDenseCell w c ⊎ ((n a : ℕ) × IsStart w stored a × Leads w (suc n) a c)
