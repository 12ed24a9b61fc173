-- The numbers of the nodes of a model.
use Rattle.std.specs.Prelude.{◌≡◌, ℕ, ◌+◌, ◌<◌, ◌⊎◌, ◌^◌, Bool, IsTrue, Some, List, map, length}
use Rattle.std.specs.Prelude.{slice_get, slice_index_or, if◌then◌else◌}
use Rattle.std.specs.List.{range_with_len}
use Rattle.rule_model.specs.BoundModel.{BoundModel}
use Rattle.arrow_laws.specs.Nodes.{has_nodes}
pub use Rattle.read_sources.specs.Ways.{width}
use Rattle.order_find.specs.declared.numbering.Place.{Place}
use Rattle.order_find.specs.declared.numbering.Numbering.{Numbering}

-- a node
pub record IsPlace (m : BoundModel) (place : Place) : Type 0 where
  pub cube : place.cube < length m.space.cubes
  pub element : place.element < width m.space place.cube
  pub kind : IsTrue (has_nodes m place.cube place.kind)

-- how many nodes there are, of each cube the number of its first node of a kind, and the number of a node
abbrev pub count_of : Numbering → ℕ
count_of n = length n.places.items

abbrev pub firsts_of : Numbering → Bool → List ℕ
firsts_of n kind = if kind then n.firsts.items else n.totals.items

abbrev pub number_of : Numbering → Place → ℕ
number_of n place = slice_index_or (firsts_of n place.kind) place.cube 0 + place.element

-- how many nodes there may be
abbrev pub most_places : ℕ
most_places = 2 ^ 28

-- the nodes of a kind of so many elements of a cube's last dimension
abbrev pub place_at : ℕ → Bool → ℕ → Place
place_at cube kind element = record { cube = cube; element = element; kind = kind }

abbrev pub places_of : ℕ → Bool → ℕ → List Place
places_of cube kind count = map (place_at cube kind) (range_with_len 0 count)

-- how many nodes of a kind a cube has
abbrev pub width_of : BoundModel → Bool → ℕ → ℕ
width_of m kind cube = if has_nodes m cube kind then width m.space cube else 0

-- the nodes of a kind of the cubes below this one come after those of `old`, each with a number of its own
pub record AreNumbered (m : BoundModel) (kind : Bool) (old : List Place) (cubes : ℕ) (firsts : List ℕ)
    (places : List Place) : Type 0 where
  pub each : length firsts ≡ cubes
  pub keeps : (number : ℕ) (place : Place) → slice_get old number ≡ Some place → slice_get places number ≡ Some place
  pub there : (cube element : ℕ) → cube < cubes → element < width_of m kind cube
      → slice_get places (slice_index_or firsts cube 0 + element) ≡ Some (place_at cube kind element)
  pub back : (number : ℕ) (place : Place) → slice_get places number ≡ Some place
      → (slice_get old number ≡ Some place)
      ⊎ ((place.cube < cubes) × (place.element < width_of m kind place.cube) × (place.kind ≡ kind)
      × (slice_index_or firsts place.cube 0 + place.element ≡ number))

-- each node has a number of its own
pub record IsNumbering (m : BoundModel) (n : Numbering) : Type 0 where
  pub firsts : length n.firsts.items ≡ length m.space.cubes
  pub totals : length n.totals.items ≡ length m.space.cubes
  pub there : (place : Place) → IsPlace m place → slice_get n.places.items (number_of n place) ≡ Some place
  pub back : (number : ℕ) (place : Place) → slice_get n.places.items number ≡ Some place
      → IsPlace m place × (number_of n place ≡ number)
