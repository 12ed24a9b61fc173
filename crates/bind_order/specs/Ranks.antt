-- The ranks that a word of an order line gives the elements of a dimension.
use Rattle.std.specs.Prelude.{ℕ, ◌+◌, ◌==◌, nat_le, Bool, true, false, not, ◌&&◌, ◌||◌, if◌then◌else◌}
use Rattle.std.specs.Prelude.{List, [], ◌∷◌, ◌++◌, length, map, find, slice_index_or}
use Rattle.std.specs.Prelude.{Option, Some, None, is_some, unwrap_or, option_map, option_and_then}
use Rattle.std.specs.List.{range_with_len, list_all}
use Rattle.std.specs.Option.{option_map_or}
use Rattle.dim_core.specs.Outline.{Outline, index_of}
use Rattle.dim_weights.specs.Table.{leaves_of}
use Rattle.cube_space.specs.Cells.{is_leaf}
use Rattle.rule_model.specs.Order.{greatest}

-- the greatest number that an order line may write, as a constant or as the rank of an element
abbrev pub most_written : ℕ
most_written = 65535

-- all of these, or None where one isn't there
abbrev pub all_of : {A : Type 0} → List (Option A) → Option (List A)
all_of [] = Some []
all_of (None ∷ rest) = None
all_of (Some first ∷ rest) = option_map (λ later. first ∷ later) (all_of rest)

-- whether this is the name of an element
abbrev pub is_named : Outline → ℕ → List ℕ → Bool
is_named dimension element name = option_map_or (λ index. index == element) (index_of dimension name) false

-- the rank that a list gives an element
abbrev pub listed_rank : Outline → List (List ℕ × ℕ) → ℕ → Option ℕ
listed_rank dimension list element =
    option_map (λ entry. entry.1) (find (λ entry. is_named dimension element entry.0) list)

-- the rank that a dimension alone gives an element: to a leaf its index, counted from 1
abbrev pub index_rank : Outline → ℕ → Option ℕ
index_rank dimension element = if is_leaf dimension element then Some (element + 1) else None

-- the ranks that are given, by element
abbrev pub listed_ranks : Outline → List (List ℕ × ℕ) → List (Option ℕ)
listed_ranks dimension list = map (listed_rank dimension list) (range_with_len 0 (length dimension.elements))

abbrev pub index_ranks : Outline → List (Option ℕ)
index_ranks dimension = map (index_rank dimension) (range_with_len 0 (length dimension.elements))

-- the rank of a leaf: the one that is given, or 0
abbrev pub leaf_rank : List (Option ℕ) → ℕ → ℕ
leaf_rank given leaf = unwrap_or (slice_index_or given leaf None) 0

-- the greatest rank of a leaf that counts in an element; a leaf counts in itself alone
abbrev pub greatest_leaf : Outline → List (Option ℕ) → ℕ → ℕ
greatest_leaf dimension given element = greatest (map (λ pair. leaf_rank given pair.0) (leaves_of dimension element))

-- the rank of an element: the one that is given, or the greatest of a leaf that counts in it
abbrev pub filled_rank : Outline → List (Option ℕ) → ℕ → ℕ
filled_rank dimension given element =
    unwrap_or (slice_index_or given element None) (greatest_leaf dimension given element)

-- a rank that isn't smaller than this one
abbrev pub fitting : ℕ → ℕ → Option ℕ
fitting least rank = if nat_le least rank then Some rank else None

-- the rank of an element, which no leaf that counts in it exceeds
abbrev pub rank_of : Outline → List (Option ℕ) → ℕ → Option ℕ
rank_of dimension given element =
    fitting (greatest_leaf dimension given element) (filled_rank dimension given element)

-- the ranks of all elements
unfoldable pub ranks_of : Outline → List (Option ℕ) → Option (List ℕ)
ranks_of dimension given = all_of (map (rank_of dimension given) (range_with_len 0 (length dimension.elements)))

-- the ranks of a dimension alone, by element: the greatest index, counted from 1, of a leaf that counts in the element
unfoldable pub ranks_by_index : Outline → List ℕ
ranks_by_index dimension =
    map (greatest_leaf dimension (index_ranks dimension)) (range_with_len 0 (length dimension.elements))

-- whether an element may be listed, where the entries before give it this rank: they don't list it, and it is a leaf
-- where consolidated elements, `totals`, may not be listed
abbrev pub may_list : Outline → Bool → Option ℕ → ℕ → Bool
may_list dimension totals before element = not (is_some before) && (is_leaf dimension element || totals)

-- the element that an entry of this name lists, behind the entries before it
abbrev pub entry_element : Outline → Bool → List (List ℕ × ℕ) → List ℕ → Option ℕ
entry_element dimension totals before name =
    option_and_then
    (λ element. if may_list dimension totals (listed_rank dimension before element) element then Some element else None)
    (index_of dimension name)

-- whether each entry, behind those before it, lists an element
abbrev pub are_listed : Outline → Bool → List (List ℕ × ℕ) → List (List ℕ × ℕ) → Bool
are_listed dimension totals before [] = true
are_listed dimension totals before (entry ∷ entries) =
    is_some (entry_element dimension totals before entry.0)
    && are_listed dimension totals (before ++ entry ∷ []) entries

-- whether no entry has a rank that is too great to be written
abbrev pub are_writable : List (List ℕ × ℕ) → Bool
are_writable list = list_all (λ entry. nat_le entry.1 most_written) list

-- whether an order line may have this list for a dimension
abbrev pub is_list_of : Outline → Bool → List (List ℕ × ℕ) → Bool
is_list_of dimension totals list = are_writable list && are_listed dimension totals [] list

-- the ranks of a dimension by a list. In a text of version 1 it lists leaves alone
unfoldable pub list_ranks : ℕ → List (List ℕ × ℕ) → Outline → Option (List ℕ)
list_ranks version list dimension =
    if is_list_of dimension (not (version == 1)) list then ranks_of dimension (listed_ranks dimension list) else None

-- the ranks by a list where a consolidated element may have a smaller one than a leaf that counts in it
unfoldable pub filled_ranks : List (List ℕ × ℕ) → Outline → Option (List ℕ)
filled_ranks list dimension =
    if is_list_of dimension true list
    then Some (map (filled_rank dimension (listed_ranks dimension list)) (range_with_len 0 (length dimension.elements)))
    else None

-- the ranks by a list of leaf cells, or of consolidated cells, `totals`: 0 where it gives none
unfoldable pub plain_ranks : Bool → List (List ℕ × ℕ) → Outline → Option (List ℕ)
plain_ranks totals list dimension =
    if is_list_of dimension totals list then Some (map (λ rank. unwrap_or rank 0) (listed_ranks dimension list))
    else None
