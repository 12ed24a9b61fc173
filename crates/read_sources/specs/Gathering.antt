-- What is known while the sources of a model are gathered.
use Rattle.std.specs.Prelude.{◌≡◌, ℕ, suc, ◌+◌, ◌<◌, ◌≤◌, min, Bool, true, false, Option, Some, None, IsTrue}
use Rattle.std.specs.Prelude.{List, length, slice_get, take, All}
use Rattle.std.specs.List.Sorted.{IsNonDecreasingBy}
use Rattle.cube_space.specs.Cells.{IsSpace}
use Rattle.rule_laws.specs.Meaning.{Precedent}
use Rattle.rule_model.specs.declared.area.Area.{Area}
use Rattle.rule_model.specs.declared.rules.Form.{Form}
use Rattle.rule_model.specs.declared.rules.Form.TheVariants.{Both, LeafFirst, ConsFirst}
use Rattle.rule_model.specs.declared.rules.Statement.{Statement}
use Rattle.rule_model.specs.BoundModel.{BoundModel, rules_of}
use Rattle.rule_model.specs.Conditions.{AreRules}
use Rattle.ref_order.specs.Counted.{reads}
use Rattle.ref_order.specs.Reads.{precedent_of}
use Rattle.ref_order.specs.FirstReference.{HoldsOfEach, IsFirstOf}
use Rattle.arrow_laws.specs.Nodes.{Node, kind_in}
use Rattle.arrow_laws.specs.ByDimension.{is_lagged, is_level, is_weak, IsJoinedByDimension}
use Rattle.read_sources.specs.declared.fault.ReadFault.{ReadFault}
use Rattle.read_sources.specs.declared.fault.ReadFault.TheVariants.{Unlagged, Memory}
use Rattle.read_sources.specs.declared.part.Part.{Part}
use Rattle.read_sources.specs.declared.part.Seen.{Seen}
use Rattle.read_sources.specs.declared.part.Seen.TheVariants.{Greater, Smaller, Level}
use Rattle.read_sources.specs.declared.seek.Reading.{Reading}
use Rattle.read_sources.specs.declared.source.Source.{Source}
use Rattle.read_sources.specs.Ways.{precedent}
use Rattle.read_sources.specs.Sources.{IsRead, IsReadBy, IsReadWhole, most_sources}
use Rattle.read_sources.specs.Unlagged.{IsLevelReference, IsFirstUnlagged}

-- what a statement reads for this kind of cell, and how many of its references are counted before those
abbrev pub reads_for : Statement → Bool → List Precedent
reads_for s true = reads s.leaf
reads_for s false = reads s.cons

abbrev pub before_by : Form → Bool → ℕ → ℕ → ℕ
before_by Both kind leaf cons = 0
before_by LeafFirst true leaf cons = 0
before_by LeafFirst false leaf cons = leaf
before_by ConsFirst true leaf cons = cons
before_by ConsFirst false leaf cons = 0

abbrev pub counted_before : Statement → Bool → ℕ
counted_before s kind = before_by s.form kind (length (reads s.leaf)) (length (reads s.cons))

-- the statement of this number of a cube of a model, from 1
pub record IsStatementAt (m : BoundModel) (cube number : ℕ) (s : Statement) : Type 0 where
  pub valid : IsSpace m.space
  pub ruled : AreRules m.space m.rules
  pub within : cube < length m.space.cubes
  pub place : ℕ
  pub number_is : number ≡ suc place
  pub here : slice_get (rules_of m cube).statements place ≡ Some s

-- a part of such a statement
pub record IsPart (part : Part) : Type 0 where
  pub of : IsStatementAt part.model.now part.cube part.number part.statement.now
  pub before_is : part.before ≡ counted_before part.statement.now part.kind

-- whether what a part reads is never of a greater lag, or of a smaller one alone
abbrev pub is_level_in : Part → Precedent → Bool
is_level_in part p = is_level part.model.now part.cube part.statement.now.area part.kind p

abbrev pub is_lagged_in : Part → Precedent → Bool
is_lagged_in part p = is_lagged part.model.now part.cube part.statement.now.area part.kind p

abbrev pub is_weak_in : Part → Precedent → Bool
is_weak_in part p = is_weak part.model.now part.cube part.statement.now.area part.kind p

-- a source is what the part reads there, where these cells are meant
pub record IsSourceOf (part : Part) (p : Precedent) (its : Option Bool) (s : Source) : Type 0 where
  pub read : IsRead part.model.now s
  pub own : s.cube ≡ part.cube
  pub area : s.area.now ≡ part.statement.now.area
  pub same_kind : s.kind ≡ part.kind
  pub same_read : precedent s ≡ p
  pub same_its : s.its ≡ its

-- no cell that is meant is read for this kind of cell of an area of a cube
abbrev pub IsUnread : BoundModel → ℕ → Area → Bool → Precedent → Option Bool → Type 0
IsUnread m cube area kind p its =
    (from to : Node) → IsJoinedByDimension m cube area kind p from to → kind_in m to.cube to.kind ≡ its → ⊥

abbrev pub IsSought : Part → Precedent → Option Bool → Option Source → Type 0
IsSought part p its None = IsUnread part.model.now part.cube part.statement.now.area part.kind p its
IsSought part p its (Some s) = IsSourceOf part p its s

abbrev pub IsSeen : Part → Precedent → Seen → Type 0
IsSeen part p Greater = is_level_in part p ≡ false
IsSeen part p Smaller = IsTrue (is_level_in part p) × IsTrue (is_lagged_in part p)
IsSeen part p (Level weak) =
    IsTrue (is_level_in part p) × (is_lagged_in part p ≡ false) × (weak ≡ is_weak_in part p)

-- a reference of a part that reads at the same lag
pub record IsReading (reading : Reading) : Type 0 where
  pub part : IsPart reading.part
  pub here : slice_get (reads_for reading.part.statement.now reading.part.kind) reading.at
      ≡ Some (precedent_of reading.read)
  pub level : IsTrue (is_level_in reading.part (precedent_of reading.read))
  pub not_lagged : is_lagged_in reading.part (precedent_of reading.read) ≡ false
  pub weak : reading.weak ≡ is_weak_in reading.part (precedent_of reading.read)

-- ---- sources

-- the sources so far, of the cubes up to this one
pub record AreGathered (m : BoundModel) (cube : ℕ) (sources : List Source) : Type 0 where
  pub read : (k : ℕ) (s : Source) → slice_get sources k ≡ Some s → IsRead m s
  pub within : (k : ℕ) (s : Source) → slice_get sources k ≡ Some s → s.cube ≤ cube
  pub rising : IsNonDecreasingBy (λ (s : Source). s.cube) sources
  pub few : length sources ≤ most_sources

-- each source stays in its place
abbrev pub Stay : List Source → List Source → Type 0
Stay old new = (k : ℕ) (s : Source) → slice_get old k ≡ Some s → slice_get new k ≡ Some s

-- what a statement reads is never of a greater lag, and a source has it where it isn't of a smaller one alone
pub record IsTaken (m : BoundModel) (sources : List Source) (cube : ℕ) (s : Statement) (kind : Bool)
    (p : Precedent) : Type 0 where
  pub level : IsTrue (is_level m cube s.area kind p)
  pub source : is_lagged m cube s.area kind p ≡ false → IsReadWhole m sources cube s kind p

-- a source has what is read of the cells that are meant
abbrev pub IsTakenFor : Reading → List Source → Option Bool → Type 0
IsTakenFor reading sources its =
    (from to : Node)
    → IsJoinedByDimension reading.part.model.now reading.part.cube reading.part.statement.now.area reading.part.kind
    (precedent_of reading.read) from to
    → kind_in reading.part.model.now to.cube to.kind ≡ its
    → IsReadBy sources reading.part.cube reading.part.statement.now reading.part.kind (precedent_of reading.read) its

-- and of all cells that are read
abbrev pub IsTakenWhole : Reading → List Source → Type 0
IsTakenWhole reading sources =
    IsReadWhole reading.part.model.now sources reading.part.cube reading.part.statement.now reading.part.kind
    (precedent_of reading.read)

abbrev pub AreTaken : BoundModel → List Source → ℕ → Statement → Bool → Type 0
AreTaken m sources cube s kind =
    (k : ℕ) (p : Precedent) → slice_get (reads_for s kind) k ≡ Some p → IsTaken m sources cube s kind p

abbrev pub IsStatementTaken : BoundModel → List Source → ℕ → Statement → Type 0
IsStatementTaken m sources cube s = AreTaken m sources cube s true × AreTaken m sources cube s false

abbrev pub IsCubeTaken : BoundModel → List Source → ℕ → Type 0
IsCubeTaken m sources cube =
    (place : ℕ) (s : Statement) → slice_get (rules_of m cube).statements place ≡ Some s
    → IsStatementTaken m sources cube s

-- one read of a part is taken, or it may be of a greater lag
abbrev pub IsTakenIf : Part → List Source → Precedent → Bool → Type 0
IsTakenIf part sources p true = IsTaken part.model.now sources part.cube part.statement.now part.kind p
IsTakenIf part sources p false = is_level_in part p ≡ false

-- ---- the first reference that may read at a greater lag

-- of a part, by its number in the statement
pub record IsFirstIn (part : Part) (reference : ℕ) : Type 0 where
  pub at : ℕ
  pub number : reference ≡ suc (part.before + at)
  pub read : Precedent
  pub here : slice_get (reads_for part.statement.now part.kind) at ≡ Some read
  pub greater : is_level_in part read ≡ false
  pub before : (k : ℕ) (p : Precedent) → k < at → slice_get (reads_for part.statement.now part.kind) k ≡ Some p
      → IsTrue (is_level_in part p)

-- there is none, and all of the part is taken; or this is the first
abbrev pub IsPartDone : Part → List Source → Option ℕ → Type 0
IsPartDone part sources None =
    AreTaken part.model.now sources part.cube part.statement.now part.kind
IsPartDone part sources (Some reference) = IsFirstIn part reference

-- the first of two numbers, where both are there
abbrev pub earliest : Option ℕ → Option ℕ → Option ℕ
earliest None second = second
earliest (Some first) None = Some first
earliest (Some first) (Some second) = Some (min first second)

-- why the gathering ended: at the first of this statement, of this cube, or of the model; or there is no memory
abbrev pub IsStatementFault : BoundModel → ℕ → ℕ → Statement → ReadFault → Type 0
IsStatementFault m cube number s (Unlagged c n r) =
    (c ≡ cube) × (n ≡ number) × IsFirstOf (IsLevelReference m cube s) s r
IsStatementFault m cube number s Memory = Unit {0}

pub record IsFirstOfCube (m : BoundModel) (cube number reference : ℕ) : Type 0 where
  pub place : ℕ
  pub number_is : number ≡ suc place
  pub it : Statement
  pub here : slice_get (rules_of m cube).statements place ≡ Some it
  pub first : IsFirstOf (IsLevelReference m cube it) it reference
  pub before : All (λ s. HoldsOfEach (IsLevelReference m cube s) s) (take place (rules_of m cube).statements)

abbrev pub IsCubeFault : BoundModel → ℕ → ReadFault → Type 0
IsCubeFault m cube (Unlagged c n r) = (c ≡ cube) × IsFirstOfCube m cube n r
IsCubeFault m cube Memory = Unit {0}

abbrev pub IsUnlaggedFault : BoundModel → ReadFault → Type 0
IsUnlaggedFault m (Unlagged cube statement reference) = IsFirstUnlagged m cube statement reference
IsUnlaggedFault m Memory = Unit {0}
