-- What the statements of a model read at the same lag.
use Rattle.std.specs.Prelude.{◌≡◌, ℕ, suc, ◌<◌, ◌≤◌, ◌^◌, Bool, true, false, Some, List, length, Contains, ◌↔◌}
use Rattle.std.specs.Prelude.{Option, IsTrue, is_some, slice_get, if◌then◌else◌}
use Rattle.std.specs.List.Sorted.{IsNonDecreasingBy}
use Rattle.cube_space.specs.Layout.{axes}
use Rattle.rule_laws.specs.Meaning.{Precedent}
use Rattle.rule_model.specs.declared.rules.Statement.{Statement}
use Rattle.rule_model.specs.BoundModel.{BoundModel, rules_of}
use Rattle.order_laws.specs.Earlier.{kinds_before}
use Rattle.ref_order.specs.Counted.{Counted, counted_of}
use Rattle.arrow_laws.specs.Nodes.{Node, last_of, has_kinds, kind_in}
use Rattle.arrow_laws.specs.Arrows.{Reads}
use Rattle.arrow_laws.specs.ByDimension.{is_lagged, is_level, is_weak, admits, asks_total, HasEach}
use Rattle.arrow_laws.specs.ByDimension.{Asked, Choice, HasElsewhere, IsJoinedByDimension}
use Rattle.read_sources.specs.declared.source.Source.{Source}
use Rattle.read_sources.specs.declared.source.Given.{Given}
use Rattle.read_sources.specs.Ways.{Follows, Same, Component, Always, Sent, SentOver, precedent, way_of, reads_from}
use Rattle.read_sources.specs.Ways.{cube_read, choice, asked, meets}

-- what a reference reads for this kind of cell, `true` for leaf cells
abbrev pub read_for : Bool → Counted → Option Precedent
read_for kind reference = if kind then reference.leaf else reference.cons

-- the dimension by which the node that is read is found
abbrev pub found_in : ℕ → Follows → ℕ
found_in last Same = last
found_in last Component = last
found_in last (Always target) = last
found_in last (Sent to) = last
found_in last (SentOver i to) = i

-- no more is asked than there
pub record IsWithin (less more : Asked) : Type 0 where
  pub own : IsTrue less.own → IsTrue more.own
  pub its : IsTrue less.its → IsTrue more.its

-- the dimensions other than these two give just this of what is asked
abbrev pub IsGiven : Choice → ℕ → ℕ → Asked → Given → Type 0
IsGiven choice i k asked given =
    (want : Asked) → IsWithin want asked → IsTrue (meets given want) ↔ HasElsewhere choice i k want

-- a source is what a statement reads, level and not lagged
pub record IsRead (m : BoundModel) (s : Source) : Type 0 where
  pub statement : Statement
  pub stands : Contains (rules_of m s.cube).statements statement
  pub area : s.area.now ≡ statement.area
  pub place : ℕ
  pub number : s.statement ≡ suc place
  pub here : slice_get (rules_of m s.cube).statements place ≡ Some statement
  pub at : ℕ
  pub counted : s.reference ≡ suc at
  pub it : Counted
  pub there : slice_get (counted_of statement) at ≡ Some it
  pub own : read_for s.kind it ≡ Some (precedent s)
  pub reads : Reads m s.cube statement s.kind (precedent s)
  pub level : IsTrue (is_level m s.cube s.area.now s.kind (precedent s))
  pub not_lagged : is_lagged m s.cube s.area.now s.kind (precedent s) ≡ false
  pub weak : s.weak ≡ is_weak m s.cube s.area.now s.kind (precedent s)
  pub parts : way_of m s ≡ Component → s.weak ≡ true
  pub has_kind : is_some s.its ≡ has_kinds m (cube_read s)
  pub fixed : IsTrue (admits s.its (kinds_before m (precedent s)).its)
  pub asks : s.asks ≡ asks_total s.its (kinds_before m (precedent s)).its
  pub each : HasEach (reads_from m s) (length (axes m.space s.cube))
  pub elsewhere : IsGiven (choice m s) (last_of m.space s.cube) (found_in (last_of m.space s.cube) (way_of m s))
      (asked s) s.elsewhere

-- one of the sources is what this statement of a cube reads for this kind of cell, where these cells are meant
pub record IsReadBy (sources : List Source) (cube : ℕ) (statement : Statement) (kind : Bool) (read : Precedent)
    (its : Option Bool) : Type 0 where
  pub k : ℕ
  pub source : Source
  pub here : slice_get sources k ≡ Some source
  pub own : source.cube ≡ cube
  pub area : source.area.now ≡ statement.area
  pub same_kind : source.kind ≡ kind
  pub same_read : precedent source ≡ read
  pub same_its : source.its ≡ its

-- wherever some cell of one node so reads a cell of another
abbrev pub IsReadWhole : BoundModel → List Source → ℕ → Statement → Bool → Precedent → Type 0
IsReadWhole m sources cube statement kind read =
    (from to : Node) → IsJoinedByDimension m cube statement.area kind read from to
    → IsReadBy sources cube statement kind read (kind_in m to.cube to.kind)

-- how many sources there are at most
abbrev pub most_sources : ℕ
most_sources = 2 ^ 29

-- these are what the statements of a model read at the same lag, cube by cube
pub record AreSourcesOf (m : BoundModel) (sources : List Source) : Type 0 where
  pub read : (k : ℕ) (s : Source) → slice_get sources k ≡ Some s → IsRead m s
  pub all : (cube : ℕ) (statement : Statement) (kind : Bool) (read : Precedent) → cube < length m.space.cubes
      → Contains (rules_of m cube).statements statement → Reads m cube statement kind read
      → IsTrue (is_level m cube statement.area kind read) → is_lagged m cube statement.area kind read ≡ false
      → IsReadWhole m sources cube statement kind read
  pub rising : IsNonDecreasingBy (λ (s : Source). s.cube) sources
  pub few : length sources ≤ most_sources
