-- The text of a bound feeder.
use Rattle.std.specs.Prelude.{ℕ, suc, ◌-◌, ◌*◌, ◌==◌, ◌&&◌, pos, Bool, nat_le, nat_lt, nat_eq, if◌then◌else◌, codes}
use Rattle.std.specs.Prelude.{List, [], ◌∷◌, length, map, slice_index_or}
use Rattle.std.specs.Prelude.{Option, Some, None, option_map, option_and_then}
use Rattle.std.specs.List.{list_all}
use Rattle.std.specs.Option.{option_eq}
use Rattle.std.specs.Cmp.Lexicographic.{pointwise}
use Rattle.cube_fixed.specs.Range.{unit}
use Rattle.dim_core.specs.Outline.{Outline, name_of}
use Rattle.cube_space.specs.Layout.{Layout, axes, dims_of, cube_names}
use Rattle.cube_lex.specs.Parts.{most_token_bytes}
use Rattle.cube_lex.specs.Quoted.{quoted}
use Rattle.rule_laws.specs.Maps.{behind, before}
use Rattle.rule_laws.specs.declared.reference.Reference.{Reference}
use Rattle.rule_laws.specs.declared.reference.Arg.{Arg}
use Rattle.rule_laws.specs.declared.reference.Arg.TheVariants.{Fixed, Moved}
use Rattle.rule_model.specs.declared.rules.Feeder.{Feeder}
use Rattle.rule_tree.specs.declared.rule.EntryText.{EntryText}
use Rattle.rule_tree.specs.declared.rule.FeederText.{FeederText}
use Rattle.rule_tree.specs.declared.rule.TargetText.{TargetText}
use Rattle.rule_tree.specs.declared.rule.TargetText.TheVariants as targets
use Rattle.rule_tree.specs.declared.tree.Tree.{Tree}
use Rattle.rule_tree.specs.declared.tree.Tree.TheVariants as trees
use Rattle.rule_tree.specs.declared.tree.TreeOp.{TreeOp}
use Rattle.rule_tree.specs.declared.tree.TreeOp.TheVariants as ops
use Rattle.bind_arguments.specs.Bound.{dimension_at}

-- whether a name fits in a token, with its quotes
abbrev pub fits : List ℕ → Bool
fits name = nat_le (length (quoted name)) most_token_bytes

-- ---- the area

-- the elements that a set of an area lists in a dimension, as an entry, which has at least one
abbrev pub entry_text : Outline → List ℕ → Option EntryText
entry_text d [] = None
entry_text d (element ∷ more) =
    if fits d.name && list_all (λ e. fits (name_of d e)) (element ∷ more)
    then Some (record { dim = Some d.name; elements = map (name_of d) (element ∷ more) }) else None

-- an entry for each of these dimensions in which the area hasn't all elements
abbrev pub entry_texts : List Outline → List (Option (List ℕ)) → Option (List EntryText)
entry_texts [] sets = Some []
entry_texts (d ∷ ds) [] = Some []
entry_texts (d ∷ ds) (None ∷ sets) = entry_texts ds sets
entry_texts (d ∷ ds) (Some listed ∷ sets) =
    option_and_then (λ entry. option_map (λ more. entry ∷ more) (entry_texts ds sets)) (entry_text d listed)

-- ---- the target

-- a name in quotes
abbrev pub name_text : List ℕ → Option Tree
name_text name = if fits name then Some (trees.Text name) else None

-- DIMIX('D', !D)
abbrev pub index_text : List ℕ → Tree
index_text dim = trees.Call (codes "DIMIX") (trees.Text dim ∷ trees.Current dim ∷ [])

-- DIMNM('D', DIMIX('D', !D) + n), or with -
abbrev pub shifted_text : List ℕ → TreeOp → ℕ → Tree
shifted_text dim op n = trees.Call (codes "DIMNM")
    (trees.Text dim ∷ trees.Binary op (index_text dim) (trees.Number (pos (n * unit))) ∷ [])

-- the cell's own element, or the one as far from it as the one index is from the other
abbrev pub moved_text : List ℕ → ℕ → ℕ → Tree
moved_text dim from to =
    if from == to then trees.Current dim
    else if nat_lt to from then shifted_text dim ops.Sub (from - to)
    else shifted_text dim ops.Add (to - from)

-- the first element that a map sends anywhere, and where it goes; elements count from this one
abbrev pub first_sent : ℕ → List (Option ℕ) → Option (ℕ × ℕ)
first_sent place [] = None
first_sent place (None ∷ to) = first_sent (suc place) to
first_sent place (Some target ∷ to) = Some (place, target)

-- the map that moves each of so many elements as far as it is from the one index to the other
abbrev pub shift : ℕ → ℕ → ℕ → List (Option ℕ)
shift size from to = if nat_lt to from then before size (from - to) else behind size (to - from)

-- whether a map does
abbrev pub moves_by : List (Option ℕ) → ℕ → ℕ → Bool
moves_by to from target = pointwise (option_eq nat_eq) (shift (length to) from target) to

-- a map within a dimension of this name, if it moves all elements as far
abbrev pub map_text : List ℕ → List (Option ℕ) → Option Tree
map_text dim to = option_and_then
    (λ (from, target). if moves_by to from target then Some (moved_text dim from target) else None)
    (first_sent 0 to)

-- an argument of a feeder of a cube for this dimension of the target's cube
unfoldable pub argument_text : Layout → ℕ → ℕ → Arg → Option Tree
argument_text space cube dim (Fixed element) = name_text (name_of (dimension_at space dim) element)
argument_text space cube dim (Moved place to) =
    if (slice_index_or (dims_of space cube) place 0 == dim) && fits (dimension_at space dim).name
    then map_text (dimension_at space dim).name to else None

-- one for each of these dimensions, if each has a text
abbrev pub argument_texts : Layout → ℕ → List ℕ → List Arg → Option (List Tree)
argument_texts space cube [] args = Some []
argument_texts space cube (dim ∷ dims) [] = Some []
argument_texts space cube (dim ∷ dims) (arg ∷ args) =
    option_and_then (λ first. option_map (λ more. first ∷ more) (argument_texts space cube dims args))
    (argument_text space cube dim arg)

-- DB('Cube', a1, .., an)
abbrev pub target_text : Layout → ℕ → Reference → Option TargetText
target_text space cube r =
    option_and_then (λ name. option_map (λ more. targets.Db (name ∷ more))
    (argument_texts space cube (dims_of space r.cube) r.args)) (name_text (slice_index_or (cube_names space) r.cube []))

-- the text of a feeder of a cube. There is none where its area has no element in a dimension, where a name doesn't fit
-- in a token, and where an argument neither is one element nor moves all elements of a dimension as far within it
unfoldable pub feeder_text : Layout → ℕ → Feeder → Option FeederText
feeder_text space cube feeder =
    option_and_then (λ area. option_map (λ target. record { area = area; targets = target ∷ [] })
    (target_text space cube feeder.target)) (entry_texts (axes space cube) feeder.area.sets)
