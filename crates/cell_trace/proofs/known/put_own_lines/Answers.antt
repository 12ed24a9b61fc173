use Rattle.std.proofs.Common.{rules, sym, ◌∙◌}
use Rattle.cell_trace.proofs.PlaceFacts.{input_is}
use Rattle.cell_trace.proofs.known.put_own_lines.Goals as goal

pub returns-then-is_leaf-clause-lines : goal.returns-then-is_leaf-clause-lines
returns-then-is_leaf-clause-lines c =
    let input = input_is c.args.here.now (sym c.is_leaf.ensures ∙ c.if-is_leaf.true) in
    search rules
