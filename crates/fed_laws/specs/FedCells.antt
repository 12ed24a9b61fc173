-- The fed cells as a list, so that they can be counted: those that are reached when each cell that is reached feeds on,
-- round after round.
use Rattle.std.specs.Prelude.{ℕ, zero, suc, nat_lt, ◌==◌, Bool, false, ◌&&◌, ◌||◌, List, filter, is_some}
use Rattle.std.specs.List.{list_any, range_with_len}
use Rattle.std.specs.Option.{option_map_or}
use Rattle.rule_laws.specs.RuleSystem.{RuleSystem, Feed, Stored}
use Rattle.rule_laws.specs.Feeding.{leaves_of, is_dense}

-- all cells
abbrev pub cells : RuleSystem → List ℕ
cells w = range_with_len 0 w.size

abbrev pub is_leaf_cell : RuleSystem → ℕ → Bool
is_leaf_cell w c = nat_lt c w.size && w.is_leaf c

-- whether c is among the leaf cells that a cell means, if there is one
abbrev pub is_under : RuleSystem → ℕ → ℕ → Bool
is_under w c t = list_any (λ leaf. leaf == c) (leaves_of w t)

-- whether the leaf cell x feeds c, by this feeder and by some feeder
abbrev pub feeds_by : RuleSystem → ℕ → ℕ → Feed → Bool
feeds_by w x c feed = feed.source x && option_map_or (is_under w c) (w.target feed.target x) false

abbrev pub feeds : RuleSystem → ℕ → ℕ → Bool
feeds w x c = is_leaf_cell w x && list_any (feeds_by w x c) w.feeds

-- whether it is a leaf cell of a dense cube, and whether chains begin at it
abbrev pub is_dense_cell : RuleSystem → ℕ → Bool
is_dense_cell w c = is_leaf_cell w c && is_dense w (w.cube_of c)

abbrev pub is_start : RuleSystem → Stored → ℕ → Bool
is_start w stored x = (nat_lt x w.size && is_some (stored x)) || is_dense_cell w x

-- whether a cell is reached after so many rounds: before the first the leaf cells of dense cubes are; in a round the
-- starts, and all cells that were reached before, reach what they feed
abbrev pub is_reached : RuleSystem → Stored → ℕ → ℕ → Bool
is_reached w stored zero c = is_dense_cell w c
is_reached w stored (suc n) c =
    is_reached w stored n c || list_any (λ x. (is_start w stored x || is_reached w stored n x) && feeds w x c) (cells w)

-- the fed cells, rising: as many rounds as there are cells reach all of them
unfoldable pub fed_cells : RuleSystem → Stored → List ℕ
fed_cells w stored = filter (is_reached w stored w.size) (cells w)
