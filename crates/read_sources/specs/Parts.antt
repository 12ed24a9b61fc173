-- What is read at the same lag, parted into single sources and groups.
use Rattle.std.specs.Prelude.{◌≡◌, ℕ, suc, ◌<◌, ◌≤◌, ◌⊎◌, ⊤, Bool, false, Option, Some, None, IsTrue}
use Rattle.std.specs.Prelude.{List, [], length, Contains, slice_get, slice_index_or}
use Rattle.rule_laws.specs.declared.reference.Arg.{Arg}
use Rattle.rule_laws.specs.declared.reference.Arg.TheVariants.{Fixed, Moved}
use Rattle.rule_laws.specs.Meaning.{Precedent, Named, Components}
use Rattle.rule_model.specs.declared.rules.Statement.{Statement}
use Rattle.rule_model.specs.BoundModel.{BoundModel, rules_of}
use Rattle.arrow_laws.specs.Nodes.{Node, last_of, node_kind, has_nodes, kind_in}
use Rattle.arrow_laws.specs.Arrows.{Reads}
use Rattle.arrow_laws.specs.ByDimension.{is_lagged, is_level, is_weak, IsJoinedByDimension}
use Rattle.read_sources.specs.declared.source.Source.{Source}
use Rattle.read_sources.specs.declared.parting.Parted.{Parted}
use Rattle.read_sources.specs.Ways.{Follows, Same, Component, Always, Sent, SentOver, precedent, way_of}
use Rattle.read_sources.specs.Ways.{reads_from, gives_total, serves_any, cube_read, IsNamedAs}
use Rattle.read_sources.specs.Sources.{IsRead, most_sources}

-- which dimension an argument follows, and by which map
abbrev pub followed : Arg → Option (ℕ × List (Option ℕ))
followed (Fixed target) = None
followed (Moved from to) = Some (from, to)

-- and the arguments of two references follow the same
pub record AreArgsAlike (one other : List Arg) : Type 0 where
  pub long : length one ≡ length other
  pub each : (j : ℕ) (x y : Arg) → slice_get one j ≡ Some x → slice_get other j ≡ Some y → followed x ≡ followed y

-- what two formulas read differs in the elements alone that it fixes, and in the cube that is read
abbrev pub AreReadsAlike : Precedent → Precedent → Type 0
AreReadsAlike (Named one) (Named other) = AreArgsAlike one.args other.args
AreReadsAlike (Named one) (Components dim) = ⊥
AreReadsAlike (Components dim) (Named other) = ⊥
AreReadsAlike (Components one) (Components other) = one ≡ other

-- two sources mean cells of one kind, and of one cube, or of cubes without kinds
abbrev pub DoMeanAlike : Source → Source → Type 0
DoMeanAlike one other = (one.its ≡ other.its) × ((one.its ≡ None) ⊎ (cube_read one ≡ cube_read other))

-- and ask for the same, which the other dimensions give alike
pub record DoAskAlike (one other : Source) : Type 0 where
  pub kind : one.kind ≡ other.kind
  pub asks : one.asks ≡ other.asks
  pub elsewhere : one.elsewhere ≡ other.elsewhere
  pub mean : DoMeanAlike one other

-- the areas of two sources have the same elements in a dimension
abbrev pub AreSetsSame : ℕ → Source → Source → Type 0
AreSetsSame dim one other = slice_index_or one.area.now.sets dim None ≡ slice_index_or other.area.now.sets dim None

-- two sources of one cube read, for cells of one kind, from the same elements of the last dimension, and of each other
-- dimension of which their areas have the same
pub record IsAlike (m : BoundModel) (one other : Source) : Type 0 where
  pub cube : one.cube ≡ other.cube
  pub kind : one.kind ≡ other.kind
  pub its : one.its ≡ other.its
  pub asks : one.asks ≡ other.asks
  pub elsewhere : one.elsewhere ≡ other.elsewhere
  pub reads : (e : ℕ) → reads_from m one (last_of m.space one.cube) e ≡ reads_from m other (last_of m.space one.cube) e
  pub gives : (dim e : ℕ) → gives_total m one dim e ≡ gives_total m other dim e
  pub serves : (e : ℕ) → serves_any m one e ≡ serves_any m other e
  pub reads_in : (dim e : ℕ) → AreSetsSame dim one other → reads_from m one dim e ≡ reads_from m other dim e

-- some cell of the one node reads a cell of the other, which is one of those that a source means
pub record Joins (m : BoundModel) (s : Source) (from to : Node) : Type 0 where
  pub meant : kind_in m to.cube to.kind ≡ s.its
  pub joined : IsJoinedByDimension m s.cube s.area.now s.kind (precedent s) from to

-- the same by single dimensions
pub record JoinsAs (m : BoundModel) (s : Source) (from to : Node) : Type 0 where
  pub source : from.cube ≡ s.cube
  pub source_kind : from.kind ≡ node_kind m s.cube s.kind
  pub target : to.cube ≡ cube_read s
  pub target_kind : IsTrue (has_nodes m to.cube to.kind)
  pub meant : kind_in m to.cube to.kind ≡ s.its
  pub own : IsTrue (reads_from m s (last_of m.space s.cube) from.element)
  pub named : IsNamedAs m s (way_of m s) from.element to.element

-- a source makes each arrow that another one makes
pub record MakesArrowsOf (m : BoundModel) (one other : Source) : Type 0 where
  pub weak : one.weak ≡ other.weak
  pub joins : (from to : Node) → Joins m other from to → Joins m one from to

-- and one of these sources does
pub record SomeMakesArrowsOf (m : BoundModel) (sources : List Source) (other : Source) : Type 0 where
  pub k : ℕ
  pub one : Source
  pub here : slice_get sources k ≡ Some one
  pub makes : MakesArrowsOf m one other

-- a source that always reads the node of one element
abbrev pub IsShared : Follows → Type 0
IsShared Same = ⊥
IsShared Component = ⊥
IsShared (Always target) = ⊤
IsShared (Sent to) = ⊥
IsShared (SentOver i to) = ⊥

-- the sources of a group
abbrev pub members_in : Parted → ℕ → List Source
members_in parted g = slice_index_or parted.groups.items g []

-- a source of a group, which always reads the node of one element
pub record IsMember (m : BoundModel) (heads : List Source) (groups : List (List Source)) (s : Source) : Type 0 where
  pub group : ℕ
  pub low : group < length heads
  pub has : Contains (slice_index_or groups group []) s
  pub shared : IsShared (way_of m s)

-- a single source makes the arrows of a source, or that is in a group
abbrev pub IsPlaced : BoundModel → Parted → Source → Type 0
IsPlaced m parted s = SomeMakesArrowsOf m parted.singles.items s ⊎ IsMember m parted.heads.items parted.groups.items s

-- all are read, and those of a group are like its head; there are at most so many
pub record AreParts (m : BoundModel) (count : ℕ) (parted : Parted) : Type 0 where
  pub singles : (k : ℕ) (s : Source) → slice_get parted.singles.items k ≡ Some s → IsRead m s
  pub heads : (g : ℕ) (s : Source) → slice_get parted.heads.items g ≡ Some s → IsRead m s
  pub members : (g : ℕ) (s : Source) → Contains (members_in parted g) s → IsRead m s
  pub alike : (g : ℕ) (head s : Source) → slice_get parted.heads.items g ≡ Some head → Contains (members_in parted g) s
      → IsAlike m head s
  pub whole : length parted.groups.items ≡ length parted.heads.items
  pub few_singles : length parted.singles.items ≤ count
  pub few_heads : length parted.heads.items ≤ count
  pub few_members : (g : ℕ) → length (members_in parted g) ≤ count

-- a source reads from the same elements as the head of a group
pub record IsOfGroup (m : BoundModel) (parted : Parted) (group : ℕ) (s : Source) : Type 0 where
  pub head : Source
  pub at : slice_get parted.heads.items group ≡ Some head
  pub alike : IsAlike m head s

-- one source more is placed
pub record IsPut (m : BoundModel) (s : Source) (old new : Parted) : Type 0 where
  pub parts : (count : ℕ) → AreParts m count old → AreParts m (suc count) new
  pub keeps : (other : Source) → IsPlaced m old other → IsPlaced m new other
  pub placed : IsPlaced m new s

-- one of the sources makes this arrow of what a statement of a cube reads for this kind of cell
pub record IsReadLike (m : BoundModel) (sources : List Source) (cube : ℕ) (statement : Statement) (kind : Bool)
    (read : Precedent) (from to : Node) : Type 0 where
  pub k : ℕ
  pub source : Source
  pub here : slice_get sources k ≡ Some source
  pub weak : source.weak ≡ is_weak m cube statement.area kind read
  pub joins : Joins m source from to

-- what a statement of a cube reads for this kind of cell is in a group, and makes this arrow
pub record IsReadIn (m : BoundModel) (heads : List Source) (groups : List (List Source)) (cube : ℕ)
    (statement : Statement) (kind : Bool) (read : Precedent) (from to : Node) : Type 0 where
  pub source : Source
  pub member : IsMember m heads groups source
  pub weak : source.weak ≡ is_weak m cube statement.area kind read
  pub joins : Joins m source from to

-- these make all arrows of what the statements of a model read at the same lag
pub record ArePartsOfAll (m : BoundModel) (parted : Parted) : Type 0 where
  pub parts : AreParts m most_sources parted
  pub all : (cube : ℕ) (statement : Statement) (kind : Bool) (read : Precedent) → cube < length m.space.cubes
      → Contains (rules_of m cube).statements statement → Reads m cube statement kind read
      → IsTrue (is_level m cube statement.area kind read) → is_lagged m cube statement.area kind read ≡ false
      → (from to : Node) → IsJoinedByDimension m cube statement.area kind read from to
      → IsReadLike m parted.singles.items cube statement kind read from to
      ⊎ IsReadIn m parted.heads.items parted.groups.items cube statement kind read from to
