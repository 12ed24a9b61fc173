use Rattle.std.proofs.Common.{arith, ap, ◌∙◌, ◌++◌}
use Rattle.cell_trace.specs.Inside.Place.{given_at}
use Rattle.cell_trace.specs.Visits.{Visit, visit}
use Rattle.cell_trace.proofs.chain.find.Goals as goal

pub visit-requires-clause-few : goal.visit-requires-clause-few
visit-requires-clause-few c = omega (arith, c.requires.part.from_one, c.requires.part.few_references)

pub returns-clause-found : goal.returns-clause-found
returns-clause-found c =
    let found : Visit = visit (given_at c.args.here.now c.args.rest.now) c.args.next.now.formula.now in
    record {
      value = c.in_ok-value.ensures.value;
      visited = c.new.ensures ∙ c.in_ok-value.ensures.items ∙ ap (λ xs. xs ++ found.items) c.new-visited.ensures.items;
    }
