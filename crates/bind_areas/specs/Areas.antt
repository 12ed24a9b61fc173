-- The cells that the entries of an area speak of, and the cell that a bracket names.
use Rattle.std.specs.Prelude.{ℕ, ◌+◌, ◌==◌, Bool, true, ◌&&◌, if◌then◌else◌, List}
use Rattle.std.specs.Prelude.{[], ◌∷◌, ◌++◌, length, map, filter, position, filter_map}
use Rattle.std.specs.Prelude.{Option, Some, None, option_map, option_and_then, is_some, slice_get, Ok, Err}
use Rattle.std.specs.List.{list_all, list_any, range_with_len}
use Rattle.dim_name.specs.Name.{is_same_name}
use Rattle.dim_core.specs.Outline.{Outline, index_of}
use Rattle.cube_space.specs.Layout.{Layout, axes}
use Rattle.rule_laws.specs.Maps.{identity}
use Rattle.rule_laws.specs.declared.reference.Reference.{Reference}
use Rattle.rule_laws.specs.declared.reference.Arg.{Arg}
use Rattle.rule_laws.specs.declared.reference.Arg.TheVariants.{Fixed, Moved}
use Rattle.rule_model.specs.declared.area.Area.{Area}
use Rattle.rule_tree.specs.declared.rule.EntryText.{EntryText}
use Rattle.rule_tree.specs.declared.tree.SimpleText.{SimpleText}
use Rattle.bind_areas.specs.declared.cause.BindCause.TheVariants.{UnknownName, Ambiguous, WrongCount}
use Rattle.bind_areas.specs.Meaning.{Meaning, done, ◌>>=◌}

-- whether a dimension has this name, where one is given
abbrev pub is_called : Option (List ℕ) → Outline → Bool
is_called None dimension = true
is_called (Some name) dimension = is_same_name name dimension.name

-- whether a dimension has an element of each of these names
abbrev pub has_all : List (List ℕ) → Outline → Bool
has_all names dimension = list_all (λ name. is_some (index_of dimension name)) names

-- whether an entry can belong to a dimension: it has all its elements, and the entry's name if it gives one
abbrev pub owns : EntryText → Outline → Bool
owns entry dimension = is_called entry.dim dimension && has_all entry.elements dimension

-- the places of the dimensions that pass a test, counted from `place` on
abbrev pub places_where : (Outline → Bool) → ℕ → List Outline → List ℕ
places_where test place [] = []
places_where test place (dimension ∷ dimensions) =
    if test dimension then place ∷ places_where test (place + 1) dimensions
    else places_where test (place + 1) dimensions

-- the one of these places
abbrev pub the_one : List ℕ → Meaning ℕ
the_one [] = Err UnknownName
the_one (place ∷ []) = Ok place
the_one (place ∷ other ∷ places) = Err Ambiguous

-- the place of the dimension of a cube that an entry belongs to: the one that has all its elements
abbrev pub place_of : List Outline → EntryText → Meaning ℕ
place_of dimensions entry = the_one (places_where (owns entry) 0 dimensions)

-- a place that isn't among those that entries before have taken
abbrev pub free : List ℕ → ℕ → Meaning ℕ
free taken place = if list_any (λ other. other == place) taken then Err WrongCount else Ok place

-- the same, where entries before belong to the dimensions at the places that are taken
abbrev pub free_place : List Outline → List ℕ → EntryText → Meaning ℕ
free_place dimensions taken entry = place_of dimensions entry >>= free taken

-- the places of the dimensions that entries belong to, in their order, behind those that are taken
abbrev pub placed : List Outline → List ℕ → List EntryText → Meaning (List ℕ)
placed dimensions taken [] = done taken
placed dimensions taken (entry ∷ entries) = do
  place ← free_place dimensions taken entry
  placed dimensions (taken ++ place ∷ []) entries

-- the entry that belongs to the dimension at a place, where the entries belong to those at these places
abbrev pub entry_for : {A : Type 0} → List A → List ℕ → ℕ → Option A
entry_for entries places place = option_and_then (slice_get entries) (position (λ other. other == place) places)

-- for each dimension, what there is by its place and itself, counted from `place` on
abbrev pub each_at : {A : Type 0} → (ℕ → Outline → A) → ℕ → List Outline → List A
each_at given place [] = []
each_at given place (dimension ∷ dimensions) = given place dimension ∷ each_at given (place + 1) dimensions

-- the elements of a dimension that have one of these names, rising
unfoldable pub elements_called : Outline → List (List ℕ) → List ℕ
elements_called dimension names =
    filter (λ element. list_any (λ found. found == element) (filter_map (index_of dimension) names))
    (range_with_len 0 (length dimension.elements))

-- the set of an area in the dimension at a place: the elements of the entry that belongs to it, or all
abbrev pub set_at : List EntryText → List ℕ → ℕ → Outline → Option (List ℕ)
set_at entries places place dimension =
    option_map (λ entry. elements_called dimension entry.elements) (entry_for entries places place)

abbrev pub sets_at : List EntryText → List ℕ → List Outline → List (Option (List ℕ))
sets_at entries places dimensions = each_at (set_at entries places) 0 dimensions

-- the area of entries
unfoldable pub area_of : Layout → ℕ → List EntryText → Meaning Area
area_of space cube entries = do
  places ← placed (axes space cube) [] entries
  done (record { sets = sets_at entries places (axes space cube) })

-- an element of a bracket as an entry of an area
abbrev pub alone : SimpleText → EntryText
alone simple = record { dim = simple.dim; elements = simple.element ∷ [] }

-- the element that a bracket puts into the dimension at a place
abbrev pub element_put : List SimpleText → List ℕ → ℕ → Outline → Option ℕ
element_put simples places place dimension =
    option_and_then (λ simple. index_of dimension simple.element) (entry_for simples places place)

-- a bracket names the element that it puts into a dimension, or the one that the cell at hand has
abbrev pub arg_by : ℕ → Outline → Option ℕ → Arg
arg_by place dimension (Some element) = Fixed element
arg_by place dimension None = Moved place (identity (length dimension.elements))

abbrev pub arg_at : List SimpleText → List ℕ → ℕ → Outline → Arg
arg_at simples places place dimension = arg_by place dimension (element_put simples places place dimension)

abbrev pub args_at : List SimpleText → List ℕ → List Outline → List Arg
args_at simples places dimensions = each_at (arg_at simples places) 0 dimensions

-- the cell of a bracket
unfoldable pub bracket_of : Layout → ℕ → List SimpleText → Meaning Reference
bracket_of space cube simples = do
  places ← placed (axes space cube) [] (map alone simples)
  done (record { cube = cube; args = args_at simples places (axes space cube) })
