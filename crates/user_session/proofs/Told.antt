-- What a write is told of the limits is which limit is passed with it.
use Rattle.std.proofs.Common.{◌≡◌, ◌∙◌, refl, sym, subst, ℕ, suc, ◌≤◌, List, length, inl, inr, ⊎_elim, Some, None, Result, Ok, Err}
use Rattle.std.specs.Prelude.{IsOkUnless}
use Rattle.std.proofs.lemmas.Bool.{cases_lt, lt-ltb, le-ltb}
use Rattle.cell_reader.specs.FedCount.{fed_count}
use Rattle.cell_reader.specs.Limits.{IsLimitAnswer}
use Rattle.cell_store.specs.declared.entry.Entry.{Entry}
use Rattle.cell_store.specs.StoreLimit.{most_cells}
use Rattle.cell_versions.specs.declared.fault.NextFault.{NextFault}
use Rattle.cell_versions.specs.declared.fault.NextFault.TheVariants as faults
use Rattle.feed_map.specs.FedCells.{most_fed}
use Rattle.rule_model.specs.BoundModel.{BoundModel}
use Rattle.user_session.specs.Planning.{passed_limit}
use Rattle.user_session.specs.declared.reply.CommandReason.TheVariants.{StoreLimit, FedLimit}

no_fault : {T : Type 0} (answer : Result T NextFault) (ok : T) (fault : NextFault) → answer ≡ Ok ok → answer ≡ Err fault → ⊥
no_fault answer ok fault is was = absurd (let clash = sym is ∙ was in cc)

-- what a write is told, where these entries are stored after it
module _ {T : Type 0} (model : BoundModel) (stored : List Entry) (answer : Result T NextFault)
    (limits : IsLimitAnswer model stored answer) where
  pub told-kept : (ok : T) → answer ≡ Ok ok → passed_limit model stored ≡ None
  told-kept ok is = elim (cases_lt most_cells (length stored)) [
    | inl past ↦ absurd (⊎_elim (no_fault answer ok (faults.StoreLimit (length stored)) is) (no_fault answer ok faults.Memory is) (limits.past_store past))
    | inr few ↦ elim (cases_lt most_fed (fed_count model stored)) [
      | inl past ↦ absurd (⊎_elim (no_fault answer ok (faults.FedLimit (suc most_fed)) is) (no_fault answer ok faults.Memory is) (limits.past_fed few past))
      | inr fed ↦ rw (le-ltb most_cells (length stored) few, le-ltb most_fed (fed_count model stored) fed) refl
    ]
  ]

  unless : (fault : NextFault) → answer ≡ Err fault → IsOkUnless answer faults.Memory → fault ≡ faults.Memory
  unless fault is ok = subst (λ (r : Result T NextFault). IsOkUnless r faults.Memory) is ok

  one_fault : (fault other : NextFault) → answer ≡ Err fault → answer ≡ Err other → fault ≡ other
  one_fault fault other is was = let same = sym is ∙ was in cc

  pub told-store : (count : ℕ) → answer ≡ Err (faults.StoreLimit count) → passed_limit model stored ≡ Some StoreLimit
  told-store count is = elim (cases_lt most_cells (length stored)) [
    | inl past ↦ rw (lt-ltb most_cells (length stored) past) refl
    | inr few ↦ absurd (not_within few)
  ]
    where
      other : faults.StoreLimit count ≡ faults.Memory → ⊥
      other same = absurd (cc)

      not_fed : faults.StoreLimit count ≡ faults.FedLimit (suc most_fed) → ⊥
      not_fed same = absurd (cc)

      not_within : length stored ≤ most_cells → ⊥
      not_within few = elim (cases_lt most_fed (fed_count model stored)) [
        | inl past ↦ ⊎_elim (λ fed. not_fed (one_fault (faults.StoreLimit count) (faults.FedLimit (suc most_fed)) is fed))
            (λ memory. other (one_fault (faults.StoreLimit count) faults.Memory is memory)) (limits.past_fed few past)
        | inr fed ↦ other (unless (faults.StoreLimit count) is (limits.within few fed))
      ]

  pub told-fed : (count : ℕ) → answer ≡ Err (faults.FedLimit count) → passed_limit model stored ≡ Some FedLimit
  told-fed count is = elim (cases_lt most_cells (length stored)) [
    | inl past ↦ absurd (⊎_elim (λ full. not_full (one_fault (faults.FedLimit count) (faults.StoreLimit (length stored)) is full))
        (λ memory. other (one_fault (faults.FedLimit count) faults.Memory is memory)) (limits.past_store past))
    | inr few ↦ elim (cases_lt most_fed (fed_count model stored)) [
      | inl past ↦ rw (le-ltb most_cells (length stored) few, lt-ltb most_fed (fed_count model stored) past) refl
      | inr fed ↦ absurd (other (unless (faults.FedLimit count) is (limits.within few fed)))
    ]
  ]
    where
      other : faults.FedLimit count ≡ faults.Memory → ⊥
      other same = absurd (cc)

      not_full : faults.FedLimit count ≡ faults.StoreLimit (length stored) → ⊥
      not_full same = absurd (cc)
