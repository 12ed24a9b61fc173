use Rattle.sparse_sum.proofs.Heads.{rest-is}
use Rattle.sparse_sum.proofs.candidates.rest_of.Goals as goal

pub returns : goal.returns
returns c = rest-is c.args.list.now
