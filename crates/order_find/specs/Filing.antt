-- Which sources are looked at for each element of a cube, and for one element.
use Rattle.std.specs.Prelude.{◌≡◌, ℕ, ◌<◌, ◌≤◌, ◌⊎◌, Bool, Some, None, List, [], ◌∷◌, ◌++◌, length, Contains}
use Rattle.std.specs.Prelude.{IsTrue, slice_get, slice_index_or, if◌then◌else◌}
use Rattle.rule_model.specs.Areas.{in_set}
use Rattle.rule_model.specs.BoundModel.{BoundModel}
use Rattle.arrow_laws.specs.Nodes.{last_of, node_kind}
use Rattle.order_find.specs.declared.numbering.Place.{Place}
use Rattle.order_find.specs.declared.numbering.Numbering.{Numbering}
use Rattle.read_sources.specs.declared.source.Source.{Source}
use Rattle.read_sources.specs.declared.parting.Parted.{Parted}
use Rattle.order_find.specs.declared.filing.Filing.{Filing}
use Rattle.order_find.specs.Numbers.{IsPlace, count_of, number_of}
use Rattle.order_find.specs.Slots.{Plan, IsSourceOf}

-- each row of which this holds has one more number at its end, and the others are the same
pub record Adds (holds : ℕ → Bool) (k : ℕ) (old new : List (List ℕ)) : Type 0 where
  pub rows : length new ≡ length old
  pub each : (n : ℕ) → slice_index_or new n [] ≡ slice_index_or old n [] ++ (if holds n then k ∷ [] else [])

-- which of these sources are looked at
pub record Looked : Type 0 where
  pub model : BoundModel
  pub numbering : Numbering
  pub sources : List Source
  pub of_cubes : List (List ℕ)
  pub of_nodes : List (List ℕ)

abbrev pub looked_by : BoundModel → Numbering → List Source → Filing → Looked
looked_by m numbering sources filing =
    record {
      model = m;
      numbering = numbering;
      sources = sources;
      of_cubes = filing.of_cubes.items;
      of_nodes = filing.of_nodes.items;
    }

-- the graph of these
abbrev pub plan_of : BoundModel → Numbering → Parted → Filing → Filing → Plan
plan_of m numbering parted filing grouped =
    record {
      model = m;
      numbering = numbering;
      sources = parted.singles.items;
      of_cubes = filing.of_cubes.items;
      of_nodes = filing.of_nodes.items;
      heads = parted.heads.items;
      groups = parted.groups.items;
      groups_of_cubes = grouped.of_cubes.items;
      groups_of_nodes = grouped.of_nodes.items;
    }

-- so many sources are looked at for the elements that their areas have in the last dimension
pub record AreFiled (p : Looked) (count : ℕ) : Type 0 where
  pub cubes : length p.of_cubes ≡ length p.model.space.cubes
  pub nodes : length p.of_nodes ≡ count_of p.numbering
  pub of_cubes : (cube k : ℕ) → Contains (slice_index_or p.of_cubes cube []) k → IsSourceOf p.sources cube k
  pub of_nodes : (n k : ℕ) (place : Place) → slice_get p.numbering.places.items n ≡ Some place
      → Contains (slice_index_or p.of_nodes n []) k → IsSourceOf p.sources place.cube k
  pub few_of_cubes : (cube : ℕ) → length (slice_index_or p.of_cubes cube []) ≤ count
  pub few_of_nodes : (n : ℕ) → length (slice_index_or p.of_nodes n []) ≤ count
  pub looked_at : (k : ℕ) (s : Source) (place : Place) → k < count → slice_get p.sources k ≡ Some s
      → IsPlace p.model place → place.cube ≡ s.cube → place.kind ≡ node_kind p.model s.cube s.kind
      → IsTrue (in_set (slice_index_or s.area.now.sets (last_of p.model.space s.cube) None) place.element)
      → Contains (slice_index_or p.of_cubes place.cube []) k
      ⊎ Contains (slice_index_or p.of_nodes (number_of p.numbering place) []) k
