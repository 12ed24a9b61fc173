use Rattle.std.proofs.Common.{IfOk, ap, ◌∙◌, subst}
use Rattle.cell_reader.specs.Snapshots.{version_of}
use Rattle.cell_trace.specs.Inside.Place.{Place, has_components_at}
use Rattle.cell_trace.specs.Inside.Sums.{IsSumIn}
use Rattle.cell_trace.proofs.PlaceFacts.{some_components, sum_in_is}
use Rattle.cell_trace.proofs.here.Here.sum_of_components.Goals as goal

pub sum_of_components-requires-clause-some : goal.sum_of_components-requires-clause-some
sum_of_components-requires-clause-some c =
    let p : Place = record { version = version_of c.self.inside.version.now; cell = c.self.inside.cell } in
    some_components p c.args.dim (ap (λ q. has_components_at q c.args.dim) c.self.view_is ∙ c.requires.some)

pub returns-clause-sum : goal.returns-clause-sum
returns-clause-sum c =
    let p : Place = record { version = version_of c.self.inside.version.now; cell = c.self.inside.cell } in
    let some = ap (λ q. has_components_at q c.args.dim) c.self.view_is ∙ c.requires.some in
    subst (λ q. IfOk c.sum_of_components.result (IsSumIn q c.args.dim)) c.self.view_is
    (sum_in_is p c.args.dim c.sum_of_components.result some c.sum_of_components.ensures.value c.sum_of_components.ensures.lines)
