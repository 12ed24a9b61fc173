use Rattle.std.proofs.Common.{◌≡◌, arith, ap, length}
use Rattle.cell_reader.specs.FedCount.{fed_count}
use Rattle.cell_reader.proofs.FedCount.{count_of}
use Rattle.cell_reader.proofs.room.room_of.Goals as goal

pub returns : goal.returns
returns c =
    let version = c.args.version.now in
    let fed : fed_count version.model version.stored ≡ length version.fed = count_of version.model version.stored version.fed c.is_sound.ensures.space c.is_sound.ensures.rules c.fed.ensures.valid.fed in
    record {
      few_stored = omega (arith, c.is_sound.ensures.within.few_stored, c.len.ensures.len, ap length c.store.ensures.stored);
      few_fed = omega (arith, fed, c.count.ensures.within, c.count.ensures.count, ap length c.fed.ensures.fed);
    }
