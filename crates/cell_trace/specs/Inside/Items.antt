-- What evaluation reaches in a formula, one after another, and the lines of it.
use Rattle.std.specs.Prelude.{◌≡◌, ◌==◌, ◌+◌, ◌<◌, ◌≤◌, ◌^◌, ℕ, suc, ⊤, if◌then◌else◌, IfSome}
use Rattle.std.specs.Prelude.{List, [], ◌∷◌, All, Option, Some, None}
use Rattle.std.specs.List.{list_any}
use Rattle.cell_values.specs.Reading.{value_on}
use Rattle.cube_space.specs.Cells.{IsCell}
use Rattle.cell_trace.specs.declared.entered.Entered.{Entered}
use Rattle.cell_trace.specs.declared.item.Item.{Item}
use Rattle.cell_trace.specs.declared.item.Item.TheVariants.{Read, Children, Own, Rest}
use Rattle.cell_trace.specs.declared.line.Line.{Line}
use Rattle.cell_trace.specs.declared.line.Line.TheVariants as lines
use Rattle.cell_trace.specs.Trace.{item_lines}
use Rattle.cell_trace.specs.Inside.Entering.{entered_lines}
use Rattle.cell_trace.specs.Inside.Place.{Place, scene_at}
use Rattle.cell_trace.specs.Inside.Parts.{part_lines_at}

-- how many references they are of
abbrev pub numbered : List (Option Item) → ℕ
numbered [] = 0
numbered (None ∷ rest) = suc (numbered rest)
numbered (Some (Read target) ∷ rest) = suc (numbered rest)
numbered (Some (Children dim) ∷ rest) = suc (numbered rest)
numbered (Some Own ∷ rest) = numbered rest
numbered (Some Rest ∷ rest) = numbered rest

-- what a reference names is a cell
abbrev pub IsItem : Place → Option Item → Type 0
IsItem p None = ⊤
IsItem p (Some (Read target)) = IfSome target (IsCell p.version.model.space)
IsItem p (Some (Children dim)) = ⊤
IsItem p (Some Own) = ⊤
IsItem p (Some Rest) = ⊤

-- the line of a reference, and those of a ConsolidateChildren
abbrev pub read_line_at : Place → ℕ → Option ℕ → Line
read_line_at p number None = lines.ReadsNothing number
read_line_at p number (Some x) = lines.Reads number x (value_on p.version x)

abbrev pub children_lines_at : Place → List ℕ → ℕ → List Line
children_lines_at p seen dim =
    lines.Children dim ∷ (if list_any (λ d. d == dim) seen then [] else part_lines_at p dim)

-- of one item: its lines, the number of the reference after it, and the dimensions seen after it
abbrev pub lines_of : Place → List ℕ → ℕ → Option Item → List Line
lines_of p seen number None = []
lines_of p seen number (Some (Read target)) = read_line_at p number target ∷ []
lines_of p seen number (Some (Children dim)) = children_lines_at p seen dim
lines_of p seen number (Some Own) = []
lines_of p seen number (Some Rest) = []

abbrev pub number_after : ℕ → Option Item → ℕ
number_after number None = suc number
number_after number (Some (Read target)) = suc number
number_after number (Some (Children dim)) = suc number
number_after number (Some Own) = number
number_after number (Some Rest) = number

abbrev pub seen_after : List ℕ → Option Item → List ℕ
seen_after seen None = seen
seen_after seen (Some (Read target)) = seen
seen_after seen (Some (Children dim)) = dim ∷ seen
seen_after seen (Some Own) = seen
seen_after seen (Some Rest) = seen

-- the same dimensions, in whatever order
abbrev pub AreSameDimensions : List ℕ → List ℕ → Type 0
AreSameDimensions one two = (dim : ℕ) → list_any (λ d. d == dim) one ≡ list_any (λ d. d == dim) two

-- the lines of several items, and of several statements
unfoldable pub item_lines_at : Place → List ℕ → ℕ → List (Option Item) → List Line
item_lines_at p = item_lines (scene_at p)

unfoldable pub entered_lines_at : Place → List ℕ → List Entered → List Line
entered_lines_at p = entered_lines (scene_at p)

-- a statement's lines can be made: its numbers fit, and what its references name are cells
pub record IsListable (p : Place) (one : Entered) : Type 0 where
  pub place : one.place + 1 < 2 ^ 32
  pub references : one.first + numbered one.visited ≤ 2 ^ 32
  pub cells : All (IsItem p) one.visited
