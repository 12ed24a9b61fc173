-- None of the components so far is wanted.
use Rattle.std.proofs.Common.{◌≡◌, ℕ, ◌<◌, ◌&&◌, false, pos}
use Rattle.std.specs.Prelude.{slice_index_or}
use Rattle.dim_weights.specs.Table.{is_nonzero}
use Rattle.cube_space.specs.Layout.{axes}
use Rattle.order_laws.specs.Scales.{is_leaf_element}
use Rattle.read_sources.specs.Giving.{is_wanted}
use Rattle.read_sources.proofs.tables.has_part.Given as goal

abbrev pub invariant-each : goal.invariant-each
invariant-each l =
    (j : ℕ) → j < l.k
    → is_wanted l.wanted (is_leaf_element (axes l.model.space l.cube) l.dim (slice_index_or l.parts j (0, pos 0)).0) && is_nonzero (slice_index_or l.parts j (0, pos 0)).1 ≡ false
