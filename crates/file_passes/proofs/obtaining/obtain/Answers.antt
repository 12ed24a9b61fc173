use Rattle.std.proofs.Common.{rules}
use Rattle.file_passes.proofs.ObtainFacts.{obtained, unobtained}
use Rattle.file_passes.proofs.obtaining.obtain.Goals as goal

pub returns-in-Ok-clause-through : goal.returns-in-Ok-clause-through
returns-in-Ok-clause-through g c =
    obtained g.F.Files.seen c.args.extent c.args.files.now c.read.new.files c.args.name.now c.args.readings.now c.read.new.self _
    c.in-Ok.ensures.once (search rules)

pub returns-in-Err-clause-through : goal.returns-in-Err-clause-through
returns-in-Err-clause-through g c =
    unobtained g.F.Files.seen c.args.extent c.args.files.now c.read.new.files c.args.name.now c.args.readings.now c.read.new.self c.in-Err.fault _
    c.in-Err.ensures.unread.0 c.in-Err.ensures.unread.1 (search rules) (search rules) (search rules) (search rules) c.in-Err.ensures.at_most
