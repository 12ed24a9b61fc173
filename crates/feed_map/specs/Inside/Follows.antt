-- Chains of feeds from the cells that are known or found.
use Rattle.std.specs.Prelude.{◌≡◌, ℕ, suc, ◌<◌, ◌≤◌, ◌⊎◌, true, ⊤}
use Rattle.std.specs.Prelude.{Some, Result, Ok, Err, List, length, Contains, slice_get}
use Rattle.cube_space.specs.Cells.{cube_of}
use Rattle.cell_store.specs.declared.entry.Entry.{Entry}
use Rattle.rule_laws.specs.Feeding.{leaves_of, is_dense, IsDenseCell, Feeds, Leads}
use Rattle.rule_model.specs.BoundModel.{BoundModel}
use Rattle.rule_model.specs.System.{system_of}
use Rattle.feed_map.specs.declared.fault.FedFault.{FedFault}
use Rattle.feed_map.specs.declared.fault.FedFault.TheVariants.{FedLimit, Memory}
use Rattle.feed_map.specs.declared.growth.Growth.{Growth}
use Rattle.feed_map.specs.declared.reached.Reached.{Reached}
use Rattle.feed_map.specs.FedCells.{AreFedCells, HasManyFed, HaveLeaves, most_fed}
use Rattle.feed_map.specs.Inside.Gains.{HasCell}
use Rattle.feed_map.specs.Inside.Leaves.{IsLeafCellOf}

-- one of these cells feeds it
abbrev pub FeedsFrom : BoundModel → List ℕ → ℕ → Type 0
FeedsFrom model sources c = (x : ℕ) × Contains sources x × Feeds (system_of model) x c

-- one of these cells below a number feeds it
abbrev pub FeedsBelow : BoundModel → List ℕ → ℕ → ℕ → Type 0
FeedsBelow model sources from c =
    (x : ℕ) × Contains sources x × (x < from) × Feeds (system_of model) x c

-- a chain leads to it from a cell that is known or found, or it is one
abbrev pub EndsChain : BoundModel → Growth → ℕ → Type 0
EndsChain model growth c = (n x : ℕ) × HasCell growth x × Leads (system_of model) n x c

-- what the first so many of those to be followed feed was found
abbrev pub AreFollowed : BoundModel → Growth → ℕ → Type 0
AreFollowed model growth places =
    (place x : ℕ) → place < places → slice_get growth.opened.items place ≡ Some x
    → (c : ℕ) → Feeds (system_of model) x c → HasCell growth c

-- what is to be followed is known, and of each other known cell all that it feeds was found
pub record AreOpen (model : BoundModel) (growth : Growth) : Type 0 where
  pub known : (x : ℕ) → Contains growth.opened.items x → Contains growth.known x
  pub others : (x : ℕ) → Contains growth.known x
      → Contains growth.opened.items x ⊎ ((c : ℕ) → Feeds (system_of model) x c → HasCell growth c)

-- the leaf cells of these totals are known or found
abbrev pub AreOpened : BoundModel → List ℕ → Growth → Type 0
AreOpened model totals growth =
    (total cell : ℕ) → Contains totals total → Contains (leaves_of (system_of model) total) cell → HasCell growth cell

-- a leaf cell of one of the first so many cubes, where that is dense
abbrev pub IsDenseBelow : BoundModel → ℕ → ℕ → Type 0
IsDenseBelow model cubes cell = IsDenseCell (system_of model) cell × (cube_of model.space cell < cubes)

-- a leaf cell of this cube, where it is dense
abbrev pub IsDenseOf : BoundModel → ℕ → ℕ → Type 0
IsDenseOf model cube cell = IsLeafCellOf model.space cube cell × (is_dense (system_of model) cube ≡ true)

-- what finding the fed cells answers: these, if they are not too many
abbrev pub IsVerdict : BoundModel → List Entry → Result (List ℕ) FedFault → Type 0
IsVerdict model entries (Ok cells) = AreFedCells model entries cells × (length cells ≤ most_fed)
IsVerdict model entries (Err Memory) = ⊤
IsVerdict model entries (Err (FedLimit count)) = (count ≡ suc most_fed) × HasManyFed model entries

-- what is reached in the end, if it isn't too much: the fed cells, and totals all of whose leaf cells are fed
abbrev pub IsReach : BoundModel → List Entry → Result Reached FedFault → Type 0
IsReach model entries (Ok reached) =
    IsVerdict model entries (Ok reached.growth.known) × HaveLeaves model reached.totals reached.growth.known
IsReach model entries (Err fault) = IsVerdict model entries (Err fault)
