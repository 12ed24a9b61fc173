-- How the cells that are known to be fed grow.
use Rattle.std.specs.Prelude.{◌≡◌, ℕ, suc, ◌+◌, ◌<◌, ◌≤◌, ◌⊎◌, ⊤, List, ◌++◌, length, Contains}
use Rattle.std.specs.List.Sorted.{IsStrictlyIncreasing}
use Rattle.feed_map.specs.declared.fault.FedFault.{FedFault}
use Rattle.feed_map.specs.declared.fault.FedFault.TheVariants.{FedLimit, Memory}
use Rattle.feed_map.specs.declared.growth.Growth.{Growth}
use Rattle.feed_map.specs.FedCells.{most_fed}

-- a cell is known, or was found and waits to be put to those known
abbrev pub HasCell : Growth → ℕ → Type 0
HasCell growth cell = Contains growth.known cell ⊎ Contains growth.found.items cell

-- these came to the known cells since: each is known now, and there are as many known cells more
pub record Came (before after more : List ℕ) : Type 0 where
  pub kept : (cell : ℕ) → Contains before cell → Contains after cell
  pub only : (cell : ℕ) → Contains after cell → Contains before cell ⊎ Contains more cell
  pub there : (cell : ℕ) → Contains more cell → Contains after cell
  pub counted : length more + length before ≤ length after

-- from one moment to a later nothing is lost, and what is known since stands at the end of what is to be followed
pub record Grows (before after : Growth) : Type 0 where
  pub rising : IsStrictlyIncreasing before.known → IsStrictlyIncreasing after.known
  pub few : length before.known ≤ most_fed → length after.known ≤ most_fed
  pub kept : (cell : ℕ) → HasCell before cell → HasCell after cell
  pub opened : (more : List ℕ) × (after.opened.items ≡ before.opened.items ++ more) × Came before.known after.known more

-- no others came than those with this property
abbrev pub GainsOnly : (ℕ → Type 0) → Growth → Growth → Type 0
GainsOnly P before after = (cell : ℕ) → HasCell after cell → HasCell before cell ⊎ P cell

-- all cells with this property came, and no others
pub record Gains (P : ℕ → Type 0) (before after : Growth) : Type 0 where
  pub grows : Grows before after
  pub only : GainsOnly P before after
  pub each : (cell : ℕ) → P cell → HasCell after cell

-- these are the found cells that aren't known, each once
pub record AreFresh (known found fresh : List ℕ) : Type 0 where
  pub rising : IsStrictlyIncreasing fresh
  pub listed : (cell : ℕ) → Contains fresh cell → Contains found cell
  pub new : (cell : ℕ) → Contains fresh cell → Contains known cell → ⊥
  pub each : (cell : ℕ) → Contains found cell → Contains known cell ⊎ Contains fresh cell

-- no cell
abbrev pub NoCell : ℕ → Type 0
NoCell cell = ⊥

-- where it stops past the limit, more cells than that are known, which were there or have this property
abbrev pub StopsBy : (ℕ → Type 0) → Growth → Growth → FedFault → Type 0
StopsBy P before after Memory = ⊤
StopsBy P before after (FedLimit count) =
    (count ≡ suc most_fed) × IsStrictlyIncreasing after.known × (most_fed < length after.known)
    × ((cell : ℕ) → Contains after.known cell → HasCell before cell ⊎ P cell)

-- the most totals that are kept as opened, and how many leaf cells are too few for one to be kept
abbrev pub most_totals : ℕ
most_totals = 1000000

abbrev pub few_leaves : ℕ
few_leaves = 64
