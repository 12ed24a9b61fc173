use Rattle.std.proofs.Common.{rules, ◌≡◌, sym, ◌∙◌, subst, ⊎_elim}
use Rattle.std.specs.Arc.{arc_value}
use Rattle.cell_store.specs.Entries.{after_writes}
use Rattle.feed_map.specs.FedCells.{HasFewFed, HasManyFed}
use Rattle.stored_laws.specs.Stored.{AreLeafEntries}
use Rattle.cell_versions.proofs.Writes.{leaves_after}
use Rattle.cell_versions.proofs.Faults.{few_on, not_past, passed_on}
use Rattle.cell_versions.proofs.version.Version.next.Goals as goal

pub invariant_of-result : goal.invariant_of-result
invariant_of-result c =
    let model : arc_value c.in_ok-accepted.accepted ≡ c.args.self.now.model = search rules in
    let stored : c.in_ok-store.store ≡ after_writes c.args.self.now.stored c.args.writes.now = search rules in
    let before : AreLeafEntries c.args.self.now.model.space c.args.self.now.stored = rw (← c.self.view_is) c.self.invariant.0.leaves in (
      record {
        leaves = rw (model, stored) (leaves_after c.args.self.now.model.space c.args.writes.now c.args.self.now.stored before c.requires);
        fed = rw model c.in_ok-feeding.ensures.fed.fed;
      },
      rw model c.in_ok-feeding.ensures.fed.opened,
    )

pub returns-clause-limits : goal.returns-clause-limits
returns-clause-limits c =
    let stored : c.in_ok-store.store ≡ after_writes c.args.self.now.stored c.args.writes.now = search rules in
    record {
      within = λ short few. tt;
      past_store = λ past. absurd (not_past _ c.in_ok-store.store c.apply.result c.in_ok-store.was (c.apply.ensures.past (rw (← c.self.view_is) at past)));
      past_fed = λ short many. absurd (⊎_elim (λ limit. absurd (let clash = sym c.in_ok-feeding.was ∙ limit in cc)) (λ memory. absurd (let clash = sym c.in_ok-feeding.was ∙ memory in cc))
          (c.fed_over.ensures.past (subst (HasManyFed c.args.self.now.model) (sym stored) many)));
    }

pub returns-in_err-feeding-clause-limits : goal.returns-in_err-feeding-clause-limits
returns-in_err-feeding-clause-limits c =
    let stored : c.in_ok-store.store ≡ after_writes c.args.self.now.stored c.args.writes.now = search rules in
    record {
      within = λ short few. few_on c.in_err-feeding.field-0.0 c.fed_over.result c.from_residual-in_err-feeding.result c.in_err-feeding.was
          (c.fed_over.ensures.within (subst (HasFewFed c.args.self.now.model) (sym stored) few)) (search rules);
      past_store = λ past. absurd (not_past _ c.in_ok-store.store c.apply.result c.in_ok-store.was (c.apply.ensures.past (rw (← c.self.view_is) at past)));
      past_fed = λ short many. passed_on 4000001 c.in_err-feeding.field-0.0 c.fed_over.result c.from_residual-in_err-feeding.result c.in_err-feeding.was
          (c.fed_over.ensures.past (subst (HasManyFed c.args.self.now.model) (sym stored) many)) (search rules);
    }
