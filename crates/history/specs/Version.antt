-- The versions of a history. Version p is the content after the first p entries; version 0 is the opening content.
-- Everywhere `after` is what writes make of a content, and `first` is the opening content.
use Rattle.std.specs.Prelude.{ℕ, ◌≡◌, ◌≢◌, ◌≤◌, ◌<◌, List, [], ◌∷◌, Some, slice_get, take}
use Rattle.history.specs.declared.entry.Entry.{Entry}

-- the content after the writes of these entries, one after another
abbrev pub content_after : {C T : Type 0} → (C → T → C) → C → List (Entry T) → C
content_after after first [] = first
content_after after first (entry ∷ log) = content_after after (after first entry.writes) log

-- the content after the first `place` entries of the history
abbrev pub version : {C T : Type 0} → (C → T → C) → C → List (Entry T) → ℕ → C
version after first log place = content_after after first (take place log)

-- no entry at or after this place is the user's
abbrev pub NoneFrom : {T : Type 0} → List (Entry T) → ℕ → ℕ → Type 0
NoneFrom {T} log low user = (p : ℕ) (entry : Entry T) → low ≤ p → slice_get log p ≡ Some entry → entry.user ≢ user

-- no entry from the first of these places up to the second, without it, is the user's
abbrev pub NoneWithin : {T : Type 0} → List (Entry T) → ℕ → ℕ → ℕ → Type 0
NoneWithin {T} log low high user =
    (p : ℕ) (entry : Entry T) → low ≤ p → p < high → slice_get log p ≡ Some entry → entry.user ≢ user
