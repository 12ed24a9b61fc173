-- Where an order puts a leaf cell behind a consolidated cell in which it counts, found dimension by dimension.
use Rattle.std.specs.Prelude.{ℕ, suc, ◌==◌, nat_lt, Bool, true, false, not, ◌&&◌, ◌||◌, List, [], ◌∷◌, length}
use Rattle.std.specs.List.{range_with_len, list_all, list_any}
use Rattle.dim_core.specs.Outline.{Outline}
use Rattle.dim_weights.specs.Table.{leaves_of}
use Rattle.cube_space.specs.Cells.{is_leaf}
use Rattle.rule_model.specs.Conditions.{rank_in}
use Rattle.bind_order.specs.declared.by_kind.PositionByKind.{PositionByKind}
use Rattle.bind_order.specs.declared.by_kind.PositionByKind.TheVariants.{Constants, Ranks}

-- whether both numbers of a position are the same, so far as the dimension at this place says so: the number of a leaf
-- cell with this leaf, and that of a consolidated cell with this element
abbrev pub agrees_at : ℕ → ℕ → ℕ → PositionByKind → Bool
agrees_at place element leaf (Constants a b) = true
agrees_at place element leaf (Ranks dim a b) = not (dim == place) || (rank_in a leaf == rank_in b element)

-- whether that of the leaf cell is greater
abbrev pub exceeds_at : ℕ → ℕ → ℕ → PositionByKind → Bool
exceeds_at place element leaf (Constants a b) = true
exceeds_at place element leaf (Ranks dim a b) = not (dim == place) || nat_lt (rank_in b element) (rank_in a leaf)

-- the same of constants
abbrev pub agrees : PositionByKind → Bool
agrees (Constants a b) = a == b
agrees (Ranks dim a b) = true

abbrev pub exceeds : PositionByKind → Bool
exceeds (Constants a b) = nat_lt b a
exceeds (Ranks dim a b) = true

-- whether a leaf cell with this leaf may be greater at a position, and the same at those in front of it
unfoldable pub breaks_at : List PositionByKind → PositionByKind → ℕ → ℕ → ℕ → Bool
breaks_at front last place element leaf =
    exceeds_at place element leaf last && list_all (agrees_at place element leaf) front

-- whether an element is a leaf, or whether it isn't
abbrev pub is_of_kind : Bool → Outline → ℕ → Bool
is_of_kind true dimension element = is_leaf dimension element
is_of_kind false dimension element = not (is_leaf dimension element)

-- whether an element has a leaf with which it passes a test
abbrev pub has_leaf : (ℕ → ℕ → Bool) → Outline → ℕ → Bool
has_leaf test dimension element = list_any (λ pair. test element pair.0) (leaves_of dimension element)

-- whether an element of a kind has
unfoldable pub has_pair : (ℕ → ℕ → Bool) → Bool → Outline → Bool
has_pair test kind dimension =
    list_any (λ element. is_of_kind kind dimension element && has_leaf test dimension element)
    (range_with_len 0 (length dimension.elements))

-- whether each of these dimensions, the first of which has this place, has such an element, and one of them a
-- consolidated element, or one did before
unfoldable pub have_pairs : (ℕ → ℕ → ℕ → Bool) → ℕ → Bool → List Outline → Bool
have_pairs test place before [] = before
have_pairs test place before (dimension ∷ dimensions) =
    (has_pair (test place) false dimension || has_pair (test place) true dimension)
    && have_pairs test (suc place) (before || has_pair (test place) false dimension) dimensions

-- whether a leaf cell is greater than a consolidated cell in which it counts at a position, and the same at those in
-- front of it
unfoldable pub is_broken_at : List Outline → List PositionByKind → PositionByKind → Bool
is_broken_at dimensions front last =
    exceeds last && list_all agrees front && have_pairs (breaks_at front last) 0 false dimensions
