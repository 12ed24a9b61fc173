-- The cells at risk where some stored ones went.
use Rattle.std.specs.Prelude.{◌≡◌, ℕ, ◌⊎◌, List, Contains}
use Rattle.cell_store.specs.declared.entry.Entry.{Entry}
use Rattle.cell_store.specs.Entries.{cells_of}
use Rattle.rule_laws.specs.Feeding.{Feeds}
use Rattle.rule_model.specs.BoundModel.{BoundModel}
use Rattle.rule_model.specs.System.{system_of}
use Rattle.feed_map.specs.declared.growth.Growth.{Growth}
use Rattle.feed_map.specs.Inside.Gains.{HasCell}
use Rattle.feed_map.specs.Inside.Follows.{FeedsFrom}

-- it is fed over nothing, or a stored cell feeds it
abbrev pub IsSure : BoundModel → List ℕ → List Entry → ℕ → Type 0
IsSure model base stored c = Contains base c ⊎ FeedsFrom model (cells_of stored) c

-- at risk is what a cell that went feeds, and what a cell at risk feeds, unless that is sure
pub record AreAtRisk (model : BoundModel) (base : List ℕ) (stored : List Entry) (went risk : List ℕ) : Type 0 where
  pub first : (x c : ℕ) → Contains went x → Feeds (system_of model) x c → IsSure model base stored c ⊎ Contains risk c
  pub next : (x c : ℕ) → Contains risk x → Feeds (system_of model) x c → IsSure model base stored c ⊎ Contains risk c
  pub unsure : (c : ℕ) → Contains risk c → IsSure model base stored c → ⊥

-- the same, where the cells that are known or found are those that may be at risk at first
pub record HaveRisk (model : BoundModel) (base : List ℕ) (stored : List Entry) (growth : Growth) (risk : List ℕ)
    : Type 0 where
  pub first : (c : ℕ) → HasCell growth c → IsSure model base stored c ⊎ Contains risk c
  pub next : (x c : ℕ) → Contains risk x → Feeds (system_of model) x c → IsSure model base stored c ⊎ Contains risk c
  pub unsure : (c : ℕ) → Contains risk c → IsSure model base stored c → ⊥

-- of those at risk so far none is sure, and what each feeds was found
pub record AreOutside (model : BoundModel) (base : List ℕ) (stored : List Entry) (growth : Growth) (risk : List ℕ)
    : Type 0 where
  pub unsure : (c : ℕ) → Contains risk c → IsSure model base stored c → ⊥
  pub followed : (x c : ℕ) → Contains risk x → Feeds (system_of model) x c → HasCell growth c

-- it is at risk, and a kept cell feeds it
abbrev pub IsAgain : BoundModel → List ℕ → List ℕ → ℕ → Type 0
IsAgain model kept risk c = Contains risk c × FeedsFrom model kept c

-- it is this cell, and a kept cell feeds it
abbrev pub IsAgainOne : BoundModel → List ℕ → ℕ → ℕ → Type 0
IsAgainOne model kept cell c = (cell ≡ c) × FeedsFrom model kept c
