-- A change of what is stored, and the cells that are surely fed after it.
use Rattle.std.specs.Prelude.{ℕ, zero, suc, ◌⊎◌, ◌↔◌, List, Contains, IsSome}
use Rattle.rule_laws.specs.RuleSystem.{RuleSystem, Stored}
use Rattle.rule_laws.specs.Feeding.{IsDenseCell, Feeds, IsFed}

-- these are all cells that went, and these are those that came: stored now, and maybe not before
pub record IsChange (before after : Stored) (went came : List ℕ) : Type 0 where
  pub gone : (x : ℕ) → IsSome (before x) → IsSome (after x) ⊎ Contains went x
  pub new : (x : ℕ) → IsSome (after x) → IsSome (before x) ⊎ Contains came x
  pub stored : (x : ℕ) → Contains came x → IsSome (after x)

-- these are the fed cells
abbrev pub AreFed : RuleSystem → Stored → List ℕ → Type 0
AreFed w stored cells = (c : ℕ) → Contains cells c ↔ IsFed w stored c

-- each of these is fed, and they have the leaf cells of dense cubes
pub record AreSure (w : RuleSystem) (stored : Stored) (sure : List ℕ) : Type 0 where
  pub fed : (c : ℕ) → Contains sure c → IsFed w stored c
  pub dense : (c : ℕ) → IsDenseCell w c → Contains sure c

-- so many looks backwards find it fed: it is a leaf cell of a dense cube, or a stored one feeds it, or one that fewer
-- looks find fed
abbrev pub IsSureBy : RuleSystem → Stored → ℕ → ℕ → Type 0
IsSureBy w stored zero c = IsDenseCell w c ⊎ ((x : ℕ) × IsSome (stored x) × Feeds w x c)
IsSureBy w stored (suc looks) c = IsSureBy w stored looks c ⊎ ((x : ℕ) × IsSureBy w stored looks x × Feeds w x c)
