-- When a plan is one of its model: its sources make all arrows of what statements read at the same lag.
use Rattle.std.specs.Prelude.{◌≡◌, ℕ, ◌<◌, ◌⊎◌, Bool, false, Some, None, List, [], length, Contains}
use Rattle.std.specs.Prelude.{IsTrue, slice_get, slice_index_or, slice_index}
use Rattle.rule_laws.specs.Meaning.{Precedent}
use Rattle.rule_model.specs.declared.rules.Statement.{Statement}
use Rattle.rule_model.specs.Areas.{in_set}
use Rattle.rule_model.specs.BoundModel.{rules_of}
use Rattle.arrow_laws.specs.Nodes.{Node, NodeRanks, last_of, node_kind, rank_of}
use Rattle.arrow_laws.specs.Arrows.{Reads}
use Rattle.arrow_laws.specs.ByDimension.{is_lagged, is_level, IsJoinedByDimension}
use Rattle.order_find.specs.declared.numbering.Place.{Place}
use Rattle.read_sources.specs.declared.source.Source.{Source}
use Rattle.order_find.specs.Numbers.{IsPlace, number_of}
use Rattle.read_sources.specs.Parts.{IsAlike, IsReadLike, IsReadIn}
use Rattle.order_find.specs.Slots.{Plan, IsPlan, IsSourceOf, members}
use Rattle.read_sources.specs.Sources.{IsRead}

-- the sources, single ones and those of groups, make all arrows of what the statements of the model read at the same
-- lag; and each single one and each group is looked at for the elements that its area has in the last dimension
pub record IsPlanOfAll (p : Plan) : Type 0 where
  pub plan : IsPlan p
  pub read : (k : ℕ) (s : Source) → slice_get p.sources k ≡ Some s → IsRead p.model s
  pub read_members : (g : ℕ) (s : Source) → Contains (members p g) s → IsRead p.model s
  pub alike : (g : ℕ) (head s : Source) → slice_get p.heads g ≡ Some head → Contains (members p g) s
      → IsAlike p.model head s
  pub all : (cube : ℕ) (statement : Statement) (kind : Bool) (read : Precedent) → cube < length p.model.space.cubes
      → Contains (rules_of p.model cube).statements statement → Reads p.model cube statement kind read
      → IsTrue (is_level p.model cube statement.area kind read)
      → is_lagged p.model cube statement.area kind read ≡ false
      → (from to : Node) → IsJoinedByDimension p.model cube statement.area kind read from to
      → IsReadLike p.model p.sources cube statement kind read from to
      ⊎ IsReadIn p.model p.heads p.groups cube statement kind read from to
  pub looked_at : (k : ℕ) (s : Source) (place : Place) → slice_get p.sources k ≡ Some s
      → IsPlace p.model place → place.cube ≡ s.cube → place.kind ≡ node_kind p.model s.cube s.kind
      → IsTrue (in_set (slice_index_or s.area.now.sets (last_of p.model.space s.cube) None) place.element)
      → Contains (slice_index_or p.of_cubes place.cube []) k
      ⊎ Contains (slice_index_or p.of_nodes (number_of p.numbering place) []) k
  pub of_cubes : (cube g : ℕ) → Contains (slice_index_or p.groups_of_cubes cube []) g → IsSourceOf p.heads cube g
  pub of_nodes : (n g : ℕ) (place : Place) → slice_get p.numbering.places.items n ≡ Some place
      → Contains (slice_index_or p.groups_of_nodes n []) g → IsSourceOf p.heads place.cube g
  pub heads_looked_at : (g : ℕ) (s : Source) (place : Place) → slice_get p.heads g ≡ Some s
      → IsPlace p.model place → place.cube ≡ s.cube → place.kind ≡ node_kind p.model s.cube s.kind
      → IsTrue (in_set (slice_index_or s.area.now.sets (last_of p.model.space s.cube) None) place.element)
      → Contains (slice_index_or p.groups_of_cubes place.cube []) g
      ⊎ Contains (slice_index_or p.groups_of_nodes (number_of p.numbering place) []) g

-- the ranks of the model's nodes are those of their numbers
abbrev pub AreRanksOf : Plan → List ℕ → NodeRanks → Type 0
AreRanksOf p numbered ranks =
    (place : Place) → IsPlace p.model place
    → rank_of ranks (record { cube = place.cube; element = place.element; kind = place.kind })
    ≡ slice_index numbered (number_of p.numbering place)
