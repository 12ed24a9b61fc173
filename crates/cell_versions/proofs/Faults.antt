-- Faults that are handed on.
use Rattle.std.proofs.Common.{◌≡◌, ◌∙◌, refl, sym, subst, ℕ, ◌⊎◌, inl, inr, Result, Ok, Err}
use Rattle.std.specs.Prelude.{IsOkUnless}
use Rattle.cell_store.specs.declared.fault.StoreFault.{StoreFault}
use Rattle.cell_store.specs.declared.fault.StoreFault.TheVariants as stores
use Rattle.feed_map.specs.declared.fault.FedFault.{FedFault}
use Rattle.feed_map.specs.declared.fault.FedFault.TheVariants as feds
use Rattle.cell_versions.specs.declared.fault.NextFault.{NextFault}
use Rattle.cell_versions.specs.declared.fault.NextFault.TheVariants.{FedLimit, Memory}
use Rattle.cell_versions.specs.Inside.Faults.{of_fed}

-- one of the two faults of the fed cells, as a fault of the version
pub passed_on : {T U : Type 0} (count : ℕ) (e : FedFault) (s : Result T FedFault) (r : Result U NextFault) → s ≡ Err e
    → (s ≡ Err (feds.FedLimit count)) ⊎ (s ≡ Err feds.Memory) → r ≡ Err (of_fed e) → (r ≡ Err (FedLimit count)) ⊎ (r ≡ Err Memory)
passed_on count e s r was (inl limit) is = let same : e ≡ feds.FedLimit count = cc in inl (rw (is, same) refl)
passed_on count e s r was (inr memory) is = let same : e ≡ feds.Memory = cc in inr (rw (is, same) refl)

-- out of memory alone is handed on where few cells are fed
pub few_on : {T U : Type 0} (e : FedFault) (s : Result T FedFault) (r : Result U NextFault) → s ≡ Err e → IsOkUnless s feds.Memory → r ≡ Err (of_fed e) → IsOkUnless r Memory
few_on e s r was few is = let same : e ≡ feds.Memory = subst (λ s. IsOkUnless s feds.Memory) was few in rw (is, same) refl

-- a store that is there passes no limit
pub not_past : {T : Type 0} (count : ℕ) (store : T) (s : Result T StoreFault) → s ≡ Ok store → (s ≡ Err (stores.StoreLimit count)) ⊎ (s ≡ Err stores.Memory) → ⊥
not_past count store s was (inl limit) = absurd (let clash = sym was ∙ limit in cc)
not_past count store s was (inr memory) = absurd (let clash = sym was ∙ memory in cc)
