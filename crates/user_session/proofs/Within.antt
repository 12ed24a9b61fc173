-- Writes of leaf cells that pass no limit.
use Rattle.std.proofs.Common.{◌≡◌, ℕ, ℤ, subst, sym, true, List, [], Some}
use Rattle.std.specs.Prelude.{option_and_then}
use Rattle.std.proofs.lemmas.List.Elements.{All-nil}
use Rattle.std.proofs.lemmas.Option.{cond_some, option_and_then_some}
use Rattle.cell_reader.specs.Limits.{IsWithinLimits}
use Rattle.cell_store.specs.Entries.{after_writes}
use Rattle.cell_versions.specs.Versions.{AreLeafWrites}
use Rattle.cell_writes.specs.Writes.{last_writes}
use Rattle.cube_space.specs.Cells.{IsCell, cell_number, is_leaf_cell, is_place}
use Rattle.cube_space.specs.Layout.{Layout, axes, cube_names}
use Rattle.cube_space.proofs.Places.{place_number, is_place-parts, place-within}
use Rattle.dim_name.specs.Name.{place_of}
use Rattle.rule_model.specs.Named.{cell_named, elements_named}
use Rattle.user_session.specs.declared.content.Content.{Content}
use Rattle.user_session.proofs.LastWrites.{each_last, leave_the_same}

-- writes of leaf cells, after which no limit is passed where none is passed before
pub record AreWithin (content : Content) (writes : List (ℕ × ℤ)) : Type 0 where
  pub leaves : AreLeafWrites content.model.space writes
  pub within : IsWithinLimits content.model content.stored → IsWithinLimits content.model (after_writes content.stored writes)

-- a cell that is named is one
number-cell : (space : Layout) (cube : ℕ) (elements : List ℕ) (c : ℕ) → cell_number space cube elements ≡ Some c → IsCell space c
unfolding cell_number
number-cell space cube elements c is =
    let parts = cond_some (is_place space cube elements) (place_number space cube elements) c is in
    subst (IsCell space) parts.1 (place-within space cube elements (is_place-parts space cube elements parts.0))

pub named-cell : (space : Layout) (cube : List ℕ) (names : List (List ℕ)) (c : ℕ) → cell_named space cube names ≡ Some c → IsCell space c
unfolding cell_named
named-cell space cube names c is =
    option_and_then_some (λ k. option_and_then (cell_number space k) (elements_named (axes space k) names)) (place_of (cube_names space) cube) c is
    (λ k there here. option_and_then_some (cell_number space k) (elements_named (axes space k) names) c here (λ elements named number. number-cell space k elements c number))

-- no writes are
pub before-writes : (content : Content) → AreWithin content []
before-writes content = record {
  leaves = All-nil (λ write. IsCell content.model.space write.0 × (is_leaf_cell content.model.space write.0 ≡ true));
  within = λ before. before;
}

-- for each cell its last write alone: the same is stored
pub last-within : (content : Content) (writes : List (ℕ × ℤ)) → AreWithin content writes → AreWithin content (last_writes writes)
last-within content writes within = record {
  leaves = each_last (λ cell. IsCell content.model.space cell × (is_leaf_cell content.model.space cell ≡ true)) writes within.leaves;
  within = λ before. subst (IsWithinLimits content.model) (sym (leave_the_same content.stored writes)) (within.within before);
}
