-- How found feeders are filed, so that one is compared with few others.
use Rattle.std.specs.Prelude.{◌≡◌, ◌<◌, ℕ, suc, ◌+◌, ◌*◌, ◌%◌, Option, Some, None, List, [], ◌∷◌, fold, map, length}
use Rattle.std.specs.Prelude.{slice_index_or, Contains, Vec}
use Rattle.std.specs.declared.alloc.Global.{Global}
use Rattle.feed_find.specs.declared.chosen.FoundFeeder.{FoundFeeder}

-- how many slots there are
abbrev pub slot_count : ℕ
slot_count = 16384

-- the first element that a set lists, from 1, or 0
abbrev pub head_of : Option (List ℕ) → ℕ
head_of None = 0
head_of (Some []) = 0
head_of (Some (element ∷ listed)) = suc element

abbrev pub mark_with : ℕ → Option (List ℕ) → ℕ
mark_with mark set = (mark * 31 + head_of set) % slot_count

-- feeders whose areas begin with the same elements have the same slot
abbrev pub slot_of : FoundFeeder → ℕ
slot_of found = fold mark_with 0 found.feeder.area.sets

abbrev pub places_of : List (Vec ℕ Global) → List (List ℕ)
places_of slots = map (λ places. places.items) slots

-- each feeder's place is in its slot
pub record AreFiled (feeders : List FoundFeeder) (slots : List (List ℕ)) : Type 0 where
  pub long : length slots ≡ slot_count
  pub filed : (place : ℕ) (one : FoundFeeder) → place < length feeders
      → Contains (slice_index_or slots (slot_of (slice_index_or feeders place one)) []) place
