-- Whether references name a cell, decided dimension by dimension.
use Rattle.std.specs.Prelude.{ℕ, suc, ◌+◌, Bool, true, false, not, ◌&&◌, ◌||◌, Option, Some, None, IfSome}
use Rattle.std.specs.Prelude.{is_some, option_map, List, [], ◌∷◌, length, slice_get, if◌then◌else◌}
use Rattle.std.specs.List.{flat_map, range_with_len}
use Rattle.std.specs.Option.{option_map_or}
use Rattle.cube_space.specs.Layout.{Layout, sizes}
use Rattle.rule_laws.specs.declared.reference.Reference.{Reference}
use Rattle.rule_laws.specs.declared.reference.Arg.{Arg}
use Rattle.rule_laws.specs.declared.reference.Arg.TheVariants.{Moved}
use Rattle.rule_laws.specs.Maps.{identity}
use Rattle.rule_laws.specs.Meaning.{Precedent, Named, Components}
use Rattle.rule_model.specs.declared.area.Area.{Area}
use Rattle.rule_model.specs.declared.rules.Statement.{Statement}
use Rattle.rule_model.specs.BoundModel.{BoundModel}
use Rattle.rule_model.specs.Conditions.{IsPrecedent}
use Rattle.rule_model.specs.Order.{most_positions}
use Rattle.order_laws.specs.Earlier.{most_excess}
use Rattle.ref_order.specs.Counted.{Counted, counted_of}
use Rattle.ref_order.specs.Reads.{precedent_of}
use Rattle.rule_notes.specs.declared.note.Note.{Note}
use Rattle.rule_notes.specs.declared.note.Note.TheVariants.{NamesNothing}
use Rattle.rule_notes.specs.declared.counted.CountedRead.{CountedRead}
use Rattle.rule_notes.specs.declared.named.HasCells.{HasCells}

-- the reference by which each cell of a cube names itself
abbrev pub own_args : ℕ → List ℕ → List Arg
own_args place [] = []
own_args place (size ∷ sizes) = Moved place (identity size) ∷ own_args (suc place) sizes

abbrev pub own_reference : Layout → ℕ → Reference
own_reference space cube = record { cube = cube; args = own_args 0 (sizes space cube) }

-- whether a reference names a cell from some cell of this kind of an area: then there is a most that such a cell has
-- more than its cell
abbrev pub names_some : BoundModel → ℕ → Area → Bool → Reference → Bool
names_some m cube area kind r = is_some (most_excess m cube area kind (Named r) most_positions)

-- whether the area has a cell of this kind
abbrev pub has_cells : BoundModel → ℕ → Area → Bool → Bool
has_cells m cube area kind = names_some m cube area kind (own_reference m.space cube)

abbrev pub are_cells : BoundModel → ℕ → Area → HasCells
are_cells m cube area = record { leaf = has_cells m cube area true; cons = has_cells m cube area false }

-- whether what is read for the cells is by a reference, and there are such cells
abbrev pub is_for : Bool → Option Precedent → Bool
is_for has None = false
is_for has (Some (Named r)) = has
is_for has (Some (Components dim)) = false

-- whether it names a cell from some of them
abbrev pub names : BoundModel → ℕ → Area → Bool → Option Precedent → Bool
names m cube area kind None = false
names m cube area kind (Some (Named r)) = names_some m cube area kind r
names m cube area kind (Some (Components dim)) = false

-- whether a reference is for some cells, and names a cell from none
abbrev pub names_nothing : BoundModel → ℕ → Area → Counted → Bool
names_nothing m cube area it =
    (is_for (has_cells m cube area true) it.leaf || is_for (has_cells m cube area false) it.cons)
    && not (names m cube area true it.leaf || names m cube area false it.cons)

-- the notes of it
abbrev pub nameless : BoundModel → ℕ → ℕ → Area → ℕ → Counted → List Note
nameless m cube place area k it =
    if names_nothing m cube area it then NamesNothing cube (place + 1) (k + 1) ∷ [] else []

abbrev pub nameless_at : BoundModel → ℕ → ℕ → Area → List Counted → ℕ → List Note
nameless_at m cube place area its k = option_map_or (nameless m cube place area k) (slice_get its k) []

-- and those of these references, or of all of a statement
abbrev pub nameless_among : BoundModel → ℕ → ℕ → Area → List Counted → List Note
nameless_among m cube place area its = flat_map (nameless_at m cube place area its) (range_with_len 0 (length its))

abbrev pub nameless_of : BoundModel → ℕ → ℕ → Statement → List Note
nameless_of m cube place s = nameless_among m cube place s.area (counted_of s)

-- ---- references, as the code has them

abbrev pub counted_view : CountedRead → Counted
counted_view read = record { leaf = option_map precedent_of read.leaf; cons = option_map precedent_of read.cons }

-- what the code has for a kind of cells, `true` for leaf cells
abbrev pub for_kind : Bool → Precedent → Counted
for_kind true p = record { leaf = Some p; cons = None }
for_kind false p = record { leaf = None; cons = Some p }

-- what a formula of a cube reads for cells of a kind, if it is for them; and a reference that does
abbrev pub IsReadFor : Layout → ℕ → Option Precedent → Type 0
IsReadFor space cube read = IfSome read (IsPrecedent space cube)

pub record IsReadOf (space : Layout) (cube : ℕ) (it : Counted) : Type 0 where
  pub leaf : IsReadFor space cube it.leaf
  pub cons : IsReadFor space cube it.cons
