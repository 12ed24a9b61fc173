-- Writes of leaf cells leave leaf cells alone stored.
use Rattle.std.proofs.Common.{◌≡◌, ℕ, ℤ, Bool, true, false, cond, List, [], ◌∷◌, ◌++◌}
use Rattle.std.specs.Prelude.{All, nat_lt, pos}
use Rattle.std.specs.Ordering.{int_eq}
use Rattle.std.proofs.lemmas.List.Elements.{All-append, All-cons, All-nil, All-head, All-tail}
use Rattle.std.proofs.lemmas.List.Elements as elements
use Rattle.cell_store.specs.declared.entry.Entry.{Entry}
use Rattle.cell_store.specs.Entries.{below, above, kept_of, with_write, after_writes}
use Rattle.cube_space.specs.Cells.{IsCell, is_leaf_cell}
use Rattle.cube_space.specs.Layout.{Layout}
use Rattle.stored_laws.specs.Stored.{AreLeafEntries}
use Rattle.cell_versions.specs.Versions.{AreLeafWrites}

module _ (space : Layout) where
  abbrev IsLeafEntry : Entry → Type 0
  IsLeafEntry e = IsCell space e.cell × (is_leaf_cell space e.cell ≡ true)

  kept_leaf : (cell : ℕ) (number : ℤ) → IsCell space cell × (is_leaf_cell space cell ≡ true) → All IsLeafEntry (kept_of cell number)
  kept_leaf cell number leaf = by (int_eq number (pos 0))
    where
      by : (b : Bool) → All IsLeafEntry (cond b [] (record { cell = cell; number = number } ∷ []))
      by true = All-nil IsLeafEntry
      by false = All-cons IsLeafEntry (record { cell = cell; number = number }) [] leaf (All-nil IsLeafEntry)

  write_leaf : (es : List Entry) (cell : ℕ) (number : ℤ) → All IsLeafEntry es → IsCell space cell × (is_leaf_cell space cell ≡ true) → All IsLeafEntry (with_write es cell number)
  write_leaf es cell number all leaf =
      All-append IsLeafEntry (below es cell) (kept_of cell number ++ above es cell)
      (elements.All-filter (λ e. nat_lt e.cell cell) IsLeafEntry es all)
      (All-append IsLeafEntry (kept_of cell number) (above es cell) (kept_leaf cell number leaf) (elements.All-filter (λ e. nat_lt cell e.cell) IsLeafEntry es all))

  pub leaves_after : (ws : List (ℕ × ℤ)) (es : List Entry) → AreLeafEntries space es → AreLeafWrites space ws → AreLeafEntries space (after_writes es ws)
  leaves_after [] es all leaves = all
  leaves_after (w ∷ ws) es all leaves =
      leaves_after ws (with_write es w.0 w.1)
      (write_leaf es w.0 w.1 all (All-head (λ write. IsCell space write.0 × (is_leaf_cell space write.0 ≡ true)) w ws leaves))
      (All-tail (λ write. IsCell space write.0 × (is_leaf_cell space write.0 ≡ true)) w ws leaves)
