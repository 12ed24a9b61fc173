-- How the node that is read follows from its node, by what a formula reads.
use Rattle.std.specs.Prelude.{◌≡◌, ℕ, ◌<◌, ◌==◌, Bool, true, not, ◌&&◌, ◌||◌, ⊤, IsTrue, Option, Some, List, length}
use Rattle.std.specs.Prelude.{slice_index_or, if◌then◌else◌}
use Rattle.cube_space.specs.Layout.{Layout, axes, sizes}
use Rattle.rule_laws.specs.declared.reference.Arg.{Arg}
use Rattle.rule_laws.specs.declared.reference.Arg.TheVariants.{Fixed, Moved}
use Rattle.rule_laws.specs.Meaning.{Precedent, Named, Components}
use Rattle.rule_model.specs.BoundModel.{BoundModel}
use Rattle.rule_model.specs.Conditions.{IsArea, IsPrecedent}
use Rattle.order_laws.specs.Scales.{is_total, is_leaf_element}
use Rattle.order_laws.specs.Earlier.{kinds_before}
use Rattle.cover_laws.specs.Looking.{sent}
use Rattle.ref_order.specs.Reads.{precedent_of}
use Rattle.arrow_laws.specs.Nodes.{last_of}
use Rattle.arrow_laws.specs.ByDimension.{is_from, is_part, read_cube, admits, asks_total, names_total}
use Rattle.arrow_laws.specs.ByDimension.{Asked, Choice, choice_of, left}
use Rattle.read_sources.specs.declared.source.Source.{Source}
use Rattle.read_sources.specs.declared.source.Given.{Given}
use Rattle.read_sources.specs.declared.follows.Way.{Way}
use Rattle.read_sources.specs.declared.follows.Way.TheVariants.{Itself, Parts, To, By, Over}

-- how many elements the last dimension of a cube has
abbrev pub width : Layout → ℕ → ℕ
width space cube = slice_index_or (sizes space cube) (last_of space cube) 0

-- it is the same, that of each component, always that of one element, that to which a map sends the element, or that to
-- which it sends the element of a cell in another dimension
pub data Follows : Type 0 where
  Same : Follows
  Component : Follows
  Always : ℕ → Follows
  Sent : List (Option ℕ) → Follows
  SentOver : ℕ → List (Option ℕ) → Follows

abbrev pub follows_by : ℕ → Arg → Follows
follows_by last (Fixed target) = Always target
follows_by last (Moved i map) = if i == last then Sent map else SentOver i map

abbrev pub follows : BoundModel → ℕ → Precedent → Follows
follows m cube (Named r) =
    follows_by (last_of m.space cube) (slice_index_or r.args (last_of m.space r.cube) (Fixed 0))
follows m cube (Components dim) = if dim == last_of m.space cube then Component else Same

-- the same as the code has it
abbrev pub follows_of : Way → Follows
follows_of Itself = Same
follows_of Parts = Component
follows_of (To target) = Always target
follows_of (By map) = Sent map.now
follows_of (Over i map) = SentOver i map.now

-- what is named of another cube, whose last dimension has this size, is an element of that; where no reference names
-- it, it is of the same cube
abbrev pub Names : ℕ → ℕ → ℕ → Follows → Type 0
Names cube other size Same = other ≡ cube
Names cube other size Component = other ≡ cube
Names cube other size (Always target) = target < size
Names cube other size (Sent to) = (element target : ℕ) → sent to element ≡ Some target → target < size
Names cube other size (SentOver i to) = (element target : ℕ) → sent to element ≡ Some target → target < size

-- a dimension by which it is found is one of so many
abbrev pub IsIn : ℕ → Follows → Type 0
IsIn count Same = ⊤
IsIn count Component = ⊤
IsIn count (Always target) = ⊤
IsIn count (Sent to) = ⊤
IsIn count (SentOver i to) = i < count

-- what a source reads
abbrev pub precedent : Source → Precedent
precedent s = precedent_of s.read

pub record IsSource (m : BoundModel) (s : Source) : Type 0 where
  pub cube : s.cube < length m.space.cubes
  pub area : IsArea m.space s.cube s.area.now
  pub reads : IsPrecedent m.space s.cube (precedent s)
  pub asks : s.asks ≡ asks_total s.its (kinds_before m (precedent s)).its

abbrev pub way_of : BoundModel → Source → Follows
way_of m s = follows m s.cube (precedent s)

-- the cube of the node that is read
abbrev pub cube_read : Source → ℕ
cube_read s = read_cube s.cube (precedent s)

-- whether cells that read may have this element in a dimension, whether it is consolidated, and whether a consolidated
-- one that is asked for is named from it
abbrev pub reads_from : BoundModel → Source → ℕ → ℕ → Bool
reads_from m s = is_from m s.cube s.area.now s.kind (precedent s) s.its

abbrev pub is_consolidated : BoundModel → Source → ℕ → ℕ → Bool
is_consolidated m s = is_total (axes m.space s.cube)

abbrev pub gives_total : BoundModel → Source → ℕ → ℕ → Bool
gives_total m s dim element = s.asks && names_total m.space s.cube (precedent s) dim element

-- the elements of the cells that read, and what is asked of them
abbrev pub choice : BoundModel → Source → Choice
choice m s = choice_of m s.cube s.area.now s.kind (precedent s) s.its

abbrev pub asked : Source → Asked
asked s = record { own = not s.kind; its = s.asks }

-- whether this gives what is asked
abbrev pub meets : Given → Asked → Bool
meets given want = if want.own then (if want.its then given.both else given.own)
    else (if want.its then given.its else true)

-- whether elements that give, or don't give, a consolidated element, and one from which one is named, may be those of a
-- cell that reads: the other dimensions give what they leave
abbrev pub suits : Source → Bool → Bool → Bool
suits s own its = meets s.elsewhere (left (asked s) own its)

-- the same of an element in the last dimension, whatever the element is in the dimension by which the node that is read
-- is found
abbrev pub serves_any : BoundModel → Source → ℕ → Bool
serves_any m s element =
    suits s (is_consolidated m s (last_of m.space s.cube) element) (gives_total m s (last_of m.space s.cube) element)

-- and of that with this one in the dimension by which it is found
abbrev pub serves_with : BoundModel → Source → ℕ → ℕ → ℕ → Bool
serves_with m s element dim other =
    suits s (is_consolidated m s (last_of m.space s.cube) element || is_consolidated m s dim other)
    (gives_total m s (last_of m.space s.cube) element || gives_total m s dim other)

-- from cells with the one element in the last dimension the node of the other is read. A cell of which components are
-- read is consolidated
abbrev pub IsNamedAs : BoundModel → Source → Follows → ℕ → ℕ → Type 0
IsNamedAs m s Same from to =
    (from ≡ to) × IsTrue (suits s true (is_consolidated m s (last_of m.space s.cube) from))
IsNamedAs m s Component from to =
    IsTrue (is_part (axes m.space s.cube) (last_of m.space s.cube) from to)
    × IsTrue (admits s.its (is_leaf_element (axes m.space s.cube) (last_of m.space s.cube) to))
    × IsTrue (suits s true (is_consolidated m s (last_of m.space s.cube) to))
IsNamedAs m s (Always target) from to = (target ≡ to) × IsTrue (serves_any m s from)
IsNamedAs m s (Sent map) from to = (sent map from ≡ Some to) × IsTrue (serves_any m s from)
IsNamedAs m s (SentOver i map) from to =
    (element : ℕ) × IsTrue (reads_from m s i element) × (sent map element ≡ Some to)
    × IsTrue (serves_with m s from i element)
