-- The nodes of a model, and ranks of them. A node is a cube, an element of the cube's last dimension and, in a cube
-- whose order has positions of its own for consolidated cells, a kind of cell. The cells of such a cube have kinds.
use Rattle.std.specs.Prelude.{ℕ, ◌-◌, Bool, not, ◌||◌, Option, Some, None, is_some, List, [], length}
use Rattle.std.specs.Prelude.{slice_index_or, if◌then◌else◌}
use Rattle.cube_space.specs.Layout.{Layout, axes}
use Rattle.cube_space.specs.Cells.{cube_of, is_leaf_cell}
use Rattle.rule_model.specs.BoundModel.{BoundModel, rules_of}
use Rattle.rule_model.specs.Targets.{element_at}
use Rattle.rule_model.specs.Conditions.{rank_in}

-- whether the cells of a cube have kinds
abbrev pub has_kinds : BoundModel → ℕ → Bool
has_kinds m cube = is_some (rules_of m cube).order.totals

-- the kind is `true` for leaf cells, and for all cells of a cube whose cells have no kinds
pub record Node : Type 0 where
  pub cube : ℕ
  pub element : ℕ
  pub kind : Bool

-- the place of a cube's last dimension
abbrev pub last_of : Layout → ℕ → ℕ
last_of space cube = length (axes space cube) - 1

-- the kind of the nodes of a cube's cells, by whether they are leaf cells
abbrev pub node_kind : BoundModel → ℕ → Bool → Bool
node_kind m cube leaf = leaf || not (has_kinds m cube)

-- the node of a cell
abbrev pub node_of : BoundModel → ℕ → Node
node_of m cell =
    record {
      cube = cube_of m.space cell;
      element = element_at m.space cell (last_of m.space (cube_of m.space cell));
      kind = node_kind m (cube_of m.space cell) (is_leaf_cell m.space cell);
    }

-- whether a cube has nodes of a kind
abbrev pub has_nodes : BoundModel → ℕ → Bool → Bool
has_nodes m cube kind = kind || has_kinds m cube

-- the kind of the cells of its nodes of a kind, `true` for leaf cells; None for both
abbrev pub kind_in : BoundModel → ℕ → Bool → Option Bool
kind_in m cube kind = if has_kinds m cube then Some kind else None

-- ranks of the nodes of each kind: for each cube those of the elements of its last dimension
pub record NodeRanks : Type 0 where
  pub leaves : List (List ℕ)
  pub totals : List (List ℕ)

-- the ranks of a cube's nodes of a kind, and the rank of a node
abbrev pub ranks_in : NodeRanks → Bool → ℕ → List ℕ
ranks_in ranks kind cube = slice_index_or (if kind then ranks.leaves else ranks.totals) cube []

abbrev pub rank_of : NodeRanks → Node → ℕ
rank_of ranks node = rank_in (ranks_in ranks node.kind node.cube) node.element
