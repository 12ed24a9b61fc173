-- Which formulas are element arguments of a DB.
use Rattle.std.specs.Prelude.{ℕ, suc, ℤ, pos, neg_ℤ, Bool, List, [], ◌∷◌, Option, Some, None, codes, bytes_eq}
use Rattle.std.specs.Prelude.{if◌then◌else◌}
use Rattle.std.specs.Int.{int_div_euclid, int_rem_euclid}
use Rattle.std.specs.Option.{is_some, option_map_or, option_and_then}
use Rattle.std.specs.Ordering.{int_eq}
use Rattle.cube_fixed.specs.Range.{unit}
use Rattle.rule_tree.specs.declared.tree.Tree.{Tree, fold-Tree}
use Rattle.rule_tree.specs.declared.tree.Tree.TheOpen.{Tree-F}
use Rattle.rule_tree.specs.declared.tree.TreeOp.{TreeOp}
use Rattle.rule_tree.specs.declared.tree.TreeOp.TheVariants as ops
use Rattle.bind_arguments.specs.declared.relative.Relative.{Relative}
use Rattle.bind_arguments.specs.declared.relative.Relative.TheVariants as relatives

-- An element argument: a text; ! and a dimension; DIMNM of a dimension and an index, which is a number, or the index
-- that an argument's element has in a dimension, and so much more; ATTRS of a dimension, an argument and an attribute;
-- ELPAR and ELCOMP of a dimension, an argument and a whole number from 1; DNEXT of a dimension and an argument.
pub data Written : Type 0 where
  Quoted : List ℕ → Written
  Current : List ℕ → Written
  AtIndex : List ℕ → ℤ → Written
  AtPlace : List ℕ → List ℕ → Written → ℤ → Written
  AttributeOf : List ℕ → Written → List ℕ → Written
  RelativeOf : List ℕ → Written → Relative → Written

-- What a formula is within an element argument: a whole number, another argument, DIMIX alone, DIMIX and a whole number
-- behind + or -, or nothing that may stand there.
pub data Part : Type 0 where
  Whole : ℤ → Part
  Element : Written → Part
  Place : List ℕ → Written → Part
  Moved : List ℕ → Written → ℤ → Part
  Other : Part

-- a number of so many millionths in units, where it is whole
abbrev pub whole_number : ℤ → Option ℤ
whole_number millionths =
    if int_eq (int_rem_euclid millionths (pos unit)) (pos 0) then Some (int_div_euclid millionths (pos unit)) else None

abbrev pub number_part : ℤ → Part
number_part millionths = option_map_or Whole (whole_number millionths) Other

-- a part as an element argument
abbrev pub argument_of_part : Part → Option Written
argument_of_part (Element argument) = Some argument
argument_of_part _ = None

-- DIMNM of a dimension and an index
abbrev pub at_index : List ℕ → Part → Part
at_index dim (Whole index) = Element (AtIndex dim index)
at_index dim (Place source of) = Element (AtPlace dim source of (pos 0))
at_index dim (Moved source of shift) = Element (AtPlace dim source of shift)
at_index dim _ = Other

-- DIMNM, DIMIX and ATTRS of these arguments
abbrev pub name_call : List Part → Part
name_call (Element (Quoted dim) ∷ index ∷ []) = at_index dim index
name_call _ = Other

abbrev pub index_call : List Part → Part
index_call (Element (Quoted source) ∷ of ∷ []) = option_map_or (Place source) (argument_of_part of) Other
index_call _ = Other

abbrev pub attribute_call : List Part → Part
attribute_call (Element (Quoted dim) ∷ of ∷ Element (Quoted attribute) ∷ []) =
    option_map_or (λ argument. Element (AttributeOf dim argument attribute)) (argument_of_part of) Other
attribute_call _ = Other

-- a relative of an argument's element in a dimension
abbrev pub related : List ℕ → Option Written → Relative → Part
related dim of relative = option_map_or (λ argument. Element (RelativeOf dim argument relative)) of Other

-- a place from 0, by a whole number from 1
abbrev pub place_of_part : Part → Option ℕ
place_of_part (Whole (pos (suc place))) = Some place
place_of_part _ = None

-- what ELPAR and ELCOMP ask for
abbrev pub relative_at : List ℕ → ℕ → Option Relative
relative_at function place =
    if bytes_eq function (codes "ELPAR") then Some (relatives.Parent place)
    else if bytes_eq function (codes "ELCOMP") then Some (relatives.Component place)
    else None

-- what a function asks for that has these arguments behind the element
abbrev pub relative_called : List ℕ → List Part → Option Relative
relative_called function [] = if bytes_eq function (codes "DNEXT") then Some relatives.NextLeaf else None
relative_called function (part ∷ []) = option_and_then (relative_at function) (place_of_part part)
relative_called function _ = None

-- ELPAR, ELCOMP and DNEXT of these arguments
abbrev pub relative_call : List ℕ → List Part → Part
relative_call function (Element (Quoted dim) ∷ of ∷ behind) =
    option_map_or (related dim (argument_of_part of)) (relative_called function behind) Other
relative_call function _ = Other

abbrev pub call_part : List ℕ → List Part → Part
call_part function arguments =
    if bytes_eq function (codes "DIMNM") then name_call arguments
    else if bytes_eq function (codes "DIMIX") then index_call arguments
    else if bytes_eq function (codes "ATTRS") then attribute_call arguments
    else relative_call function arguments

-- DIMIX and a whole number behind + or -
abbrev pub operation_part : TreeOp → Part → Part → Part
operation_part ops.Add (Place source of) (Whole number) = Moved source of number
operation_part ops.Sub (Place source of) (Whole number) = Moved source of (neg_ℤ number)
operation_part _ _ _ = Other

abbrev pub part_step : Tree-F Part → Part
part_step (Tree-F.Number millionths) = number_part millionths
part_step (Tree-F.Text text) = Element (Quoted text)
part_step (Tree-F.Current dim) = Element (Current dim)
part_step (Tree-F.Call function arguments) = call_part function arguments
part_step (Tree-F.Binary op left right) = operation_part op left right
part_step _ = Other

unfoldable pub part_in : Tree → Part
part_in = fold-Tree Part part_step

-- the element argument that a formula is
abbrev pub argument_in : Tree → Option Written
argument_in tree = argument_of_part (part_in tree)

abbrev pub is_element_argument : Tree → Bool
is_element_argument tree = is_some (argument_in tree)
