-- Which fed cells a change puts at risk, which of these come again, and what grows from there.
use Rattle.std.specs.Prelude.{ℕ, suc, ◌==◌, not, ◌⊎◌, List, filter, Contains, IsSome}
use Rattle.std.specs.List.{list_any}
use Rattle.rule_laws.specs.RuleSystem.{RuleSystem, Stored}
use Rattle.rule_laws.specs.Feeding.{IsDenseCell, Feeds, IsFed, Leads}

-- at risk is what a cell that went feeds, and what a cell at risk feeds, unless that one is stored; but no cell that is
-- sure. More cells may be at risk
pub record AreAtRisk (w : RuleSystem) (after : Stored) (went sure risk : List ℕ) : Type 0 where
  pub first : (x c : ℕ) → Contains went x → Feeds w x c → Contains sure c ⊎ Contains risk c
  pub next : (x c : ℕ) → Contains risk x → Feeds w x c → IsSome (after x) ⊎ Contains sure c ⊎ Contains risk c
  pub others : (c : ℕ) → Contains risk c → Contains sure c → ⊥

-- the fed cells that are not at risk
abbrev pub kept_of : List ℕ → List ℕ → List ℕ
kept_of fed risk = filter (λ c. not (list_any (λ r. r == c) risk)) fed

-- a stored or kept cell feeds it
abbrev pub IsStillFed : RuleSystem → Stored → List ℕ → ℕ → Type 0
IsStillFed w after kept c = (x : ℕ) × (IsSome (after x) ⊎ Contains kept x) × Feeds w x c

-- of the cells at risk those come again that are still fed
pub record AreAgain (w : RuleSystem) (after : Stored) (kept risk again : List ℕ) : Type 0 where
  pub fed : (c : ℕ) → Contains again c → IsStillFed w after kept c
  pub each : (c : ℕ) → Contains risk c → IsStillFed w after kept c → Contains again c

-- the kept cells and those that come again are fed; and all that is left to follow are the cells that came and those
-- that come again
pub record IsRegrowth (w : RuleSystem) (after : Stored) (came kept again : List ℕ) : Type 0 where
  pub kept_fed : (c : ℕ) → Contains kept c → IsFed w after c
  pub again_fed : (c : ℕ) → Contains again c → IsFed w after c
  pub came_stored : (x : ℕ) → Contains came x → IsSome (after x)
  pub dense : (c : ℕ) → IsDenseCell w c → Contains kept c
  pub stored : (x c : ℕ) → IsSome (after x) → Feeds w x c → Contains came x ⊎ Contains kept c ⊎ Contains again c
  pub next : (x c : ℕ) → Contains kept x → Feeds w x c → Contains kept c ⊎ Contains again c

-- chains begin at it: a cell that came or comes again, or a kept one
abbrev pub IsRoot : List ℕ → List ℕ → List ℕ → ℕ → Type 0
IsRoot came kept again x = Contains came x ⊎ Contains kept x ⊎ Contains again x

-- the kept cells, those that come again, and the ends of all chains from these and from the cells that came
pub record HaveGrown (w : RuleSystem) (came kept again cells : List ℕ) : Type 0 where
  pub kept_there : (c : ℕ) → Contains kept c → Contains cells c
  pub again_there : (c : ℕ) → Contains again c → Contains cells c
  pub fed : (x c : ℕ) → Contains came x → Feeds w x c → Contains cells c
  pub next : (x c : ℕ) → Contains cells x → Feeds w x c → Contains cells c
  pub only : (c : ℕ) → Contains cells c
      → Contains kept c ⊎ Contains again c ⊎ ((n x : ℕ) × IsRoot came kept again x × Leads w (suc n) x c)
