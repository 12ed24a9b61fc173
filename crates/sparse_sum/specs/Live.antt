-- The leaf cells that a total is made of: a leaf cell that is neither stored nor fed is 0.
use Rattle.std.specs.Prelude.{ℕ, nat_le, Bool, ◌||◌, ℤ, List, filter}
use Rattle.dim_order.specs.Members.{is_among}
use Rattle.cube_space.specs.Layout.{Layout}
use Rattle.rule_model.specs.Weights.{leaves_below}

-- whether a cell is stored or fed
abbrev pub is_live : List ℕ → List ℕ → ℕ → Bool
is_live stored fed cell = is_among stored cell || is_among fed cell

-- the stored or fed leaf cells below a cell, rising, each with its weight
abbrev pub live_below : Layout → List ℕ → List ℕ → ℕ → List (ℕ × ℤ)
live_below space stored fed cell = filter (λ pair. is_live stored fed pair.0) (leaves_below space cell)

-- those of them from this number on
abbrev pub live_from : Layout → List ℕ → List ℕ → ℕ → ℕ → List (ℕ × ℤ)
live_from space stored fed cell from = filter (λ pair. nat_le from pair.0) (live_below space stored fed cell)
