use Rattle.std.proofs.Common.{◌∙◌, ap}
use Rattle.bind_arguments.specs.Argument.{table_over}
use Rattle.bind_arguments.proofs.AlikeFacts.{alike_tables}
use Rattle.bind_arguments.proofs.own_maps.BoundMap.targets_for.Goals as goal

pub returns-then-is_alike : goal.returns-then-is_alike
returns-then-is_alike c space right =
    let made = c.args.self.now in
    right ∙ ap (λ n. table_over space made.dim made.argument n) c.if-self-len.true ∙ ap (λ d. table_over space d made.argument c.args.len) c.if-self-dim.true
    ∙ alike_tables made.argument c.args.argument.now space c.args.dim c.args.len (c.is_alike.ensures c.if-is_alike.true)
