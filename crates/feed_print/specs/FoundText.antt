-- The text of the feeders that are found for a model, cube by cube.
use Rattle.std.specs.Prelude.{◌≡◌, ℕ, zero, suc, ◌==◌, Bool, true, false, not, ◌&&◌, if◌then◌else◌}
use Rattle.std.specs.Prelude.{Option, Some, None, is_some, List, [], ◌∷◌, length, slice_index_or}
use Rattle.std.specs.List.{filter_map, list_any}
use Rattle.cube_space.specs.Layout.{Layout, cube_names}
use Rattle.rule_model.specs.BoundModel.{BoundModel}
use Rattle.rule_tree.specs.declared.rule.FeederText.{FeederText}
use Rattle.feed_find.specs.declared.chosen.FoundFeeder.{FoundFeeder}
use Rattle.feed_find.specs.declared.unturned.Unturned.{Unturned}
use Rattle.feed_find.specs.Found.{found_feeders, all_unturned}
use Rattle.feed_print.specs.declared.place.ReferencePlace.{ReferencePlace}
use Rattle.feed_print.specs.FeederTexts.{feeder_text}
use Rattle.feed_print.specs.Printed.{AddsCube}

-- of these references those of a cube
abbrev pub place_in : ℕ → Unturned → Option ReferencePlace
place_in cube one =
    if one.cube == cube then Some (record { statement = one.statement; reference = one.reference }) else None

abbrev pub places_in : ℕ → List Unturned → List ReferencePlace
places_in cube unturned = filter_map (place_in cube) unturned

-- of these feeders the texts of those of a cube, and whether one of them has none
abbrev pub text_in : Layout → ℕ → FoundFeeder → Option FeederText
text_in space cube one = if one.cube == cube then feeder_text space cube one.feeder else None

abbrev pub texts_in : Layout → ℕ → List FoundFeeder → List FeederText
texts_in space cube found = filter_map (text_in space cube) found

abbrev pub has_unsaid : Layout → ℕ → List FoundFeeder → Bool
has_unsaid space cube found =
    list_any (λ one. (one.cube == cube) && not (is_some (feeder_text space cube one.feeder))) found

-- what is printed of a cube: nothing where nothing is found for it and nothing is left
abbrev pub AddsFound : List ℕ → List ReferencePlace → Bool → List FeederText → List ℕ → List ℕ → Type 0
AddsFound name [] false [] old new = new ≡ old
AddsFound name [] false (feeder ∷ more) old new = AddsCube name [] false (feeder ∷ more) old new
AddsFound name [] true feeders old new = AddsCube name [] true feeders old new
AddsFound name (place ∷ places) unsaid feeders old new = AddsCube name (place ∷ places) unsaid feeders old new

abbrev pub AddsOf : Layout → List FoundFeeder → List Unturned → ℕ → List ℕ → List ℕ → Type 0
AddsOf space found unturned cube old new =
    AddsFound (slice_index_or (cube_names space) cube []) (places_in cube unturned) (has_unsaid space cube found)
    (texts_in space cube found) old new

-- the text of so many cubes
abbrev pub IsTextUpTo : Layout → List FoundFeeder → List Unturned → ℕ → List ℕ → Type 0
IsTextUpTo space found unturned zero text = text ≡ []
IsTextUpTo space found unturned (suc cube) text =
    (before : List ℕ) × IsTextUpTo space found unturned cube before × AddsOf space found unturned cube before text

-- and that of all cubes of a model, of which these ask for feeders
abbrev pub IsFoundText : BoundModel → List Bool → List ℕ → Type 0
IsFoundText m asking text =
    IsTextUpTo m.space (found_feeders m asking) (all_unturned m asking) (length m.space.cubes) text
