use Rattle.std.proofs.Common.{subst}
use Rattle.arrow_laws.specs.Nodes.{last_of}
use Rattle.read_sources.specs.Ways.{choice, asked}
use Rattle.read_sources.specs.Sources.{IsGiven}
use Rattle.read_sources.proofs.seek.given_elsewhere.Goals as goal

pub returns-clause-given : goal.returns-clause-given
returns-clause-given c =
    let ch = choice c.args.model.now c.args.source in
    let last = last_of c.args.model.now.space c.args.source.cube in
    subst (λ k. IsGiven ch last k (asked c.args.source) c.given_beside.result) c.found_in.ensures.found
    (subst (λ i. IsGiven ch i c.found_in.result (asked c.args.source) c.given_beside.result) c.last_of.ensures.last c.given_beside.ensures.given)
