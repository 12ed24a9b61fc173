-- What it says of writes that no reason holds against them.
use Rattle.std.proofs.Common.{◌≡◌, ◌∙◌, refl, ℕ, ℤ, Bool, true, false, ◌&&◌, if◌then◌else◌, List, length, Option, Some, None}
use Rattle.std.specs.Prelude.{nat_lt}
use Rattle.std.proofs.lemmas.Bool.{and_from, and_parts, le-ltb, lt-ltb, ltb-true, ltb-false as at_most}
use Rattle.std.proofs.lemmas.List.Sums.{AllPass-from_list_all, list_all-from_AllPass}
use Rattle.cell_reader.specs.FedCount.{fed_count}
use Rattle.cell_reader.specs.Limits.{IsWithinLimits}
use Rattle.cell_store.specs.declared.entry.Entry.{Entry}
use Rattle.cell_store.specs.Entries.{after_writes}
use Rattle.cell_store.specs.StoreLimit.{most_cells}
use Rattle.cell_versions.specs.Versions.{AreLeafWrites}
use Rattle.cube_space.specs.Cells.{is_leaf_cell, size_of}
use Rattle.cube_space.specs.Layout.{Layout}
use Rattle.feed_map.specs.FedCells.{most_fed}
use Rattle.rule_model.specs.BoundModel.{BoundModel}
use Rattle.user_session.specs.Planning.{all_leaf_cells, misfit, passed_limit}
use Rattle.user_session.specs.declared.content.Content.{Content}
use Rattle.user_session.specs.declared.reply.CommandReason.{CommandReason}
use Rattle.user_session.specs.declared.reply.CommandReason.TheVariants.{UnknownName, StoreLimit, FedLimit}

-- what is stored where no limit is passed
pub none-passed : (model : BoundModel) (stored : List Entry) → passed_limit model stored ≡ None → IsWithinLimits model stored
none-passed model stored is = by (nat_lt most_cells (length stored)) refl (nat_lt most_fed (fed_count model stored)) refl is
  where
    by : (b : Bool) → nat_lt most_cells (length stored) ≡ b → (d : Bool) → nat_lt most_fed (fed_count model stored) ≡ d
        → (if b then Some StoreLimit else if d then Some FedLimit else None) ≡ None → IsWithinLimits model stored
    by true few d fed is = absurd (cc)
    by false few true fed is = absurd (cc)
    by false few false fed is = record { few_stored = at_most most_cells (length stored) few; few_fed = at_most most_fed (fed_count model stored) fed }

-- writes that pass the test are of leaf cells
pub leaf-writes : (space : Layout) (writes : List (ℕ × ℤ)) → all_leaf_cells space writes ≡ true → AreLeafWrites space writes
leaf-writes space writes is k d less =
    let both = and_parts _ _ (AllPass-from_list_all (λ (write : ℕ × ℤ). nat_lt write.0 (size_of space) && is_leaf_cell space write.0) writes is k d less) in
    (ltb-true _ _ both.0, both.1)

-- and writes of leaf cells pass it
leaves-pass : (space : Layout) (writes : List (ℕ × ℤ)) → AreLeafWrites space writes → all_leaf_cells space writes ≡ true
leaves-pass space writes leaves =
    list_all-from_AllPass (λ (write : ℕ × ℤ). nat_lt write.0 (size_of space) && is_leaf_cell space write.0) writes
    (λ k d less. and_from _ _ (lt-ltb _ _ (leaves k d less).0) (leaves k d less).1)

-- no limit is passed
within-passes : (model : BoundModel) (stored : List Entry) → IsWithinLimits model stored → passed_limit model stored ≡ None
within-passes model stored within =
    rw (le-ltb most_cells (length stored) within.few_stored, le-ltb most_fed (fed_count model stored) within.few_fed) refl

-- no reason holds: the writes are of leaf cells, and no limit is passed
fits-parts : (content : Content) (writes : List (ℕ × ℤ)) → misfit content writes ≡ None
    → (all_leaf_cells content.model.space writes ≡ true) × (passed_limit content.model (after_writes content.stored writes) ≡ None)
fits-parts content writes is =
    by (all_leaf_cells content.model.space writes) (passed_limit content.model (after_writes content.stored writes)) is
  where
    by : (leaves : Bool) (limit : Option CommandReason) → (if leaves then limit else Some UnknownName) ≡ None → (leaves ≡ true) × (limit ≡ None)
    by true limit is = (refl, is)
    by false limit is = absurd (cc)

pub fits-leaves : (content : Content) (writes : List (ℕ × ℤ)) → misfit content writes ≡ None → AreLeafWrites content.model.space writes
fits-leaves content writes is = leaf-writes content.model.space writes (fits-parts content writes is).0

pub fits-limits : (content : Content) (writes : List (ℕ × ℤ)) → misfit content writes ≡ None → IsWithinLimits content.model (after_writes content.stored writes)
fits-limits content writes is = none-passed content.model (after_writes content.stored writes) (fits-parts content writes is).1

-- which reason holds: that of the cells first
pub misfit-name : (content : Content) (writes : List (ℕ × ℤ)) → all_leaf_cells content.model.space writes ≡ false → misfit content writes ≡ Some UnknownName
misfit-name content writes is = rw is refl

pub misfit-limit : (content : Content) (writes : List (ℕ × ℤ)) → all_leaf_cells content.model.space writes ≡ true
    → misfit content writes ≡ passed_limit content.model (after_writes content.stored writes)
misfit-limit content writes is = rw is refl

-- nor does one hold against writes of leaf cells, where no limit is passed with them
pub fits-both : (content : Content) (writes : List (ℕ × ℤ)) → AreLeafWrites content.model.space writes → IsWithinLimits content.model (after_writes content.stored writes)
    → misfit content writes ≡ None
fits-both content writes leaves within =
    misfit-limit content writes (leaves-pass content.model.space writes leaves) ∙ within-passes content.model (after_writes content.stored writes) within
