-- Feeders that stand in a row and have the same area, as those of one statement do.
use Rattle.std.specs.Prelude.{◌≡◌, ℕ, ◌<◌, ◌≤◌, Option, List, length, option_map, slice_get}
use Rattle.rule_model.specs.declared.rules.Feeder.{Feeder}

-- the sets of the area of the feeder at a place
abbrev pub sets_at : List Feeder → ℕ → Option (List (Option (List ℕ)))
sets_at feeders place = option_map (λ feeder. feeder.area.sets) (slice_get feeders place)

-- all of these have the same area
abbrev pub AreAlike : List Feeder → Type 0
AreAlike feeders =
    (one other : ℕ) → one < length feeders → other < length feeders → sets_at feeders one ≡ sets_at feeders other

-- from a place up to this end there are some, and each has the area of the first
pub record IsSpan (feeders : List Feeder) (place end : ℕ) : Type 0 where
  pub some : place < end
  pub within : end ≤ length feeders
  pub alike : (other : ℕ) → place ≤ other → other < end → sets_at feeders other ≡ sets_at feeders place
