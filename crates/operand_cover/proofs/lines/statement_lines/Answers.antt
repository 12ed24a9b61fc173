use Rattle.std.proofs.Common.{◌≡◌, ◌∙◌, ap, option_map, sym, Some}
use Rattle.operand_cover.proofs.Named.{valid}
use Rattle.operand_cover.proofs.lines.statement_lines.Goals as goal

pub reference_lines-requires-clause-reference : goal.reference_lines-requires-clause-reference
reference_lines-requires-clause-reference c =
    let same : option_map (λ reference. reference.now) c.in_ok-reference.field-0 ≡ Some c.in-Some.reference.now = ap (λ found. option_map (λ reference. reference.now) found) c.in-Some.is in
    valid c.args.model.now.space c.args.cube c.args.statement.now c.requires.statement c.args.operand c.in-Some.reference.now (sym c.in_ok-reference.ensures ∙ same)
