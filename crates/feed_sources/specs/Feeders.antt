-- What one feeder feeds from a cell, and what those of a cube do.
use Rattle.std.specs.Prelude.{◌≡◌, ℕ, Some, List, Contains, Any}
use Rattle.rule_laws.specs.declared.reference.Reference.{Reference}
use Rattle.rule_laws.specs.Feeding.{leaves_of, FeedsBy}
use Rattle.rule_model.specs.declared.rules.Feeder.{Feeder}
use Rattle.rule_model.specs.BoundModel.{BoundModel}
use Rattle.rule_model.specs.System.{system_of, feed_of}
use Rattle.rule_model.specs.Targets.{target}

-- by one of these feeders of a cube the cell is fed from this one
abbrev pub FeedsByOne : BoundModel → ℕ → List Feeder → ℕ → ℕ → Type 0
FeedsByOne model cube feeders x c =
    Any (λ feeder. FeedsBy (system_of model) (feed_of model.space cube feeder) x c) feeders

-- it is among the leaf cells of the cell that the reference names from this one
abbrev pub StandsFor : BoundModel → Reference → ℕ → ℕ → Type 0
StandsFor model reference x c =
    (t : ℕ) × (target model.space reference x ≡ Some t) × Contains (leaves_of (system_of model) t) c
