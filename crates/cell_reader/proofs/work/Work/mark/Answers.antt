use Rattle.cell_reader.proofs.Works.{ahead-within}
use Rattle.cell_reader.proofs.work.Work.mark.Goals as goal

pub returns-clause-within : goal.returns-clause-within
returns-clause-within c =
    let work = c.args.self.now in
    ahead-within work.opening work.latest work.written.items work.made work.room work.ahead

pub returns-in_err-self-clause-within : goal.returns-in_err-self-clause-within
returns-in_err-self-clause-within c =
    let work = c.args.self.now in
    ahead-within work.opening work.latest work.written.items work.made work.room work.ahead
