use Rattle.std.proofs.Common.{rules}
use Rattle.std.specs.Prelude.{IsOkUnless}
use Rattle.cell_versions.specs.declared.fault.NextFault.TheVariants.{Memory}
use Rattle.cell_reader.proofs.Works.{clear-within}
use Rattle.cell_reader.proofs.work.Work.clear.Goals as goal

-- no limit is passed
pub unreachable-requires : goal.unreachable-requires
unreachable-requires c =
    let within = clear-within c.args.self.now c.deref.result.now c.args.cell c.deref.ensures c.is_sound.ensures.space c.is_sound.ensures.rules in
    let answered : IsOkUnless c.put.result Memory = c.put.ensures.limits.within within.few_stored within.few_fed in
    search rules

pub returns-in-Ok-clause-within : goal.returns-in-Ok-clause-within
returns-in-Ok-clause-within c = clear-within c.args.self.now c.deref.result.now c.args.cell c.deref.ensures c.is_sound.ensures.space c.is_sound.ensures.rules

pub returns-in-Err-Memory-clause-within : goal.returns-in-Err-Memory-clause-within
returns-in-Err-Memory-clause-within c = clear-within c.args.self.now c.deref.result.now c.args.cell c.deref.ensures c.is_sound.ensures.space c.is_sound.ensures.rules
