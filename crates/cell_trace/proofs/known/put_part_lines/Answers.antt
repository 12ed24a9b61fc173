use Rattle.std.proofs.Common.{rules, ◌++◌, sym, ap, ◌∙◌, subst}
use Rattle.std.proofs.lemmas.List.{append-nil}
use Rattle.cell_trace.specs.Inside.Sums.{IsSumIn}
use Rattle.cell_trace.proofs.PlaceFacts.{no_components}
use Rattle.cell_trace.proofs.known.put_part_lines.Goals as goal

pub returns-then-not-has_components-clause-lines : goal.returns-then-not-has_components-clause-lines
returns-then-not-has_components-clause-lines c =
    let none = (no_components c.args.here.now c.args.dim (sym c.has_components.ensures ∙ c.if-not-has_components.true)).1 in
    sym (ap (λ xs. c.args.lines.now.items ++ xs) none ∙ append-nil c.args.lines.now.items)

pub returns-clause-lines : goal.returns-clause-lines
returns-clause-lines c =
    let is = subst (λ one. IsSumIn c.args.here.now c.args.dim one.sum) (sym c.index.ensures) (c.in_ok-place.ensures.sum.sum c.index.result.now) in
    let lines = is.lines in
    search rules
