-- The shares of an amount are written into leaf cells.
use Rattle.std.proofs.Common.{◌≡◌, ℕ, ℤ, pos, ◌+ℤ◌, ◌*ℤ◌, Bool, true, false, if◌then◌else◌, List, [], ◌∷◌, All}
use Rattle.std.specs.Prelude.{pred}
use Rattle.std.proofs.lemmas.List.Elements.{All-nil, All-cons, All-head, All-tail, All-map}
use Rattle.cell_spread.specs.Shares.{floor_ratio, goes_up, rest_of, rounded_up, shared_out, sum_of}
use Rattle.cell_spread.specs.Spread.{cells_below, part_of, parts_of, writes_of}
use Rattle.cell_spread.specs.declared.writes.How.{How}
use Rattle.cell_store.specs.declared.entry.Entry.{Entry}
use Rattle.cell_versions.specs.Versions.{AreLeafWrites}
use Rattle.cube_space.specs.Cells.{IsCell, is_leaf_cell}
use Rattle.cube_space.specs.Layout.{Layout}
use Rattle.dim_weights.specs.Table.{nonzero_among}
use Rattle.model_laws.proofs.Below.{among, leaf_cells-are}
use Rattle.rule_model.specs.Weights.{leaf_cells, leaves_below, weight}

-- ---- what holds of the cells of the parts holds of the cells of the shares

module _ (P : ℕ → Type 0) where
  abbrev Each : List (ℕ × ℤ) → Type 0
  Each pairs = All (λ pair. P pair.0) pairs

  each-rounded : (amount total : ℤ) (up : ℕ) (parts : List (ℕ × ℤ)) → Each parts → Each (rounded_up amount total up parts)
  each-rounded amount total up [] all = All-nil (λ pair. P pair.0)
  each-rounded amount total up (one ∷ parts) all =
      let here = All-head (λ (pair : ℕ × ℤ). P pair.0) one parts all in
      let later = All-tail (λ (pair : ℕ × ℤ). P pair.0) one parts all in
      by (goes_up amount total up one.1) here (each-rounded amount total (pred up) parts later) (each-rounded amount total up parts later)
    where
      by : (b : Bool) → P one.0 → Each (rounded_up amount total (pred up) parts) → Each (rounded_up amount total up parts)
          → Each (if b then (one.0, floor_ratio (amount *ℤ one.1) total +ℤ pos 1) ∷ rounded_up amount total (pred up) parts
          else (one.0, floor_ratio (amount *ℤ one.1) total) ∷ rounded_up amount total up parts)
      by true here less same = All-cons (λ pair. P pair.0) (one.0, floor_ratio (amount *ℤ one.1) total +ℤ pos 1) (rounded_up amount total (pred up) parts) here less
      by false here less same = All-cons (λ pair. P pair.0) (one.0, floor_ratio (amount *ℤ one.1) total) (rounded_up amount total up parts) here same

  each-share : (amount : ℤ) (parts : List (ℕ × ℤ)) → Each parts → Each (shared_out amount parts)
  unfolding shared_out
  each-share amount parts all = each-rounded amount (sum_of parts) (rest_of amount parts) parts all

  each-part : (value : ℕ → ℤ) (cells : List ℕ) → All P cells → Each (nonzero_among value cells)
  each-part value cells all = among value (λ pair. P pair.0) cells (λ k d less on. all k d less)

-- ---- leaf cells

abbrev IsLeaf : Layout → ℕ → Type 0
IsLeaf space cell = IsCell space cell × (is_leaf_cell space cell ≡ true)

below-are : (space : Layout) (cell : ℕ) → All (IsLeaf space) (cells_below space cell)
below-are space cell =
    All-map (IsLeaf space) (λ (pair : ℕ × ℤ). pair.0) (leaves_below space cell)
    (among (weight space cell) (λ pair. IsLeaf space pair.0) (leaf_cells space) (λ k d less on. leaf_cells-are space k d less))

pub shares-leaves : (space : Layout) (entries : List Entry) (cell : ℕ) (amount : ℤ) (how : How) → AreLeafWrites space (writes_of space entries cell amount how)
unfolding writes_of
shares-leaves space entries cell amount how =
    each-share (IsLeaf space) amount (parts_of space entries how cell)
    (each-part (IsLeaf space) (part_of how entries) (cells_below space cell) (below-are space cell))
