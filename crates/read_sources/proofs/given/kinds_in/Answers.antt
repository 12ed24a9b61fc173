use Rattle.std.proofs.Common.{true}
use Rattle.read_sources.proofs.Serving.{kinds-are}
use Rattle.read_sources.proofs.given.kinds_in.Goals as goal

pub returns-clause-kinds : goal.returns-clause-kinds
returns-clause-kinds c =
    kinds-are c.args.model.now c.args.source c.requires.source.area c.args.dim c.greatest_known.result (record { own = c.args.source.kind; its = true }) 0 c.greatest_known.ensures.numbers
