use Rattle.cell_store.specs.Entries.{after_writes}
use Rattle.cell_reader.proofs.FedCount.{few_fed, many_fed}
use Rattle.cell_reader.proofs.next_snapshot.version_after.Goals as goal

pub returns-clause-limits : goal.returns-clause-limits
returns-clause-limits c =
    let version = c.args.version.now in
    let after = after_writes version.stored c.args.writes.now in
    let limits = c.next.ensures.limits in
    record {
      within = λ short few. limits.within short (few_fed version.model after c.is_sound.ensures.space c.is_sound.ensures.rules few);
      past_store = limits.past_store;
      past_fed = λ short many. limits.past_fed short (many_fed version.model after many);
    }
