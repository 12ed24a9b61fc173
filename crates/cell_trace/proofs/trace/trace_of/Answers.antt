use Rattle.std.proofs.Common.{◌≡◌, ◌++◌, [], All, List, sym, ap, ◌∙◌, if◌then◌else◌, subst}
use Rattle.std.specs.Prelude.{reverse}
use Rattle.std.proofs.lemmas.List.{append-nil}
use Rattle.cell_reader.specs.Snapshots.{version_of}
use Rattle.cell_trace.specs.declared.line.Line.{Line}
use Rattle.cell_trace.specs.Lines.{IsLineOf}
use Rattle.cell_trace.specs.Trace.{scene_of, trace_lines}
use Rattle.cell_values.specs.Reading.{value_on}
use Rattle.cell_trace.specs.Inside.Chain.{value_from}
use Rattle.cell_trace.specs.Inside.Items.{entered_lines_at}
use Rattle.cell_trace.specs.Inside.Parts.{own_lines_at}
use Rattle.cell_trace.specs.Inside.Place.{scene_at}
use Rattle.cell_trace.proofs.LineFacts.{lines_are}
use Rattle.cell_trace.proofs.ListingFacts.{trace_is}
use Rattle.cell_trace.proofs.ValueFacts.{value_is}
use Rattle.cell_trace.proofs.trace.trace_of.Goals as goal
use Rattle.cell_trace.proofs.trace.trace_of.Goals.{then-chain+in_ok-put_own_lines, else-chain}

pub returns-clause-value : goal.returns-clause-value
returns-clause-value c =
    let p = c.new-here.result in
    c.in_ok-chain.ensures.chain.value ∙ ap (λ q. value_from q 0) c.new-here.ensures
    ∙ value_is (record { version = version_of c.args.version.now; cell = c.args.cell }) c.model.ensures.accepted c.requires.cell

pub returns-clause-lines : goal.returns-clause-lines
returns-clause-lines c =
    let p = c.new-here.result in
    let chain = c.in_ok-chain.chain in
    let entered = entered_lines_at p [] (reverse chain.entered.items) in
    let so_far : c.put_entered.new.lines.items ≡ entered = c.in_ok-put_entered.ensures.lines ∙ ap (λ ls. ls ++ entered) c.new-lines.ensures.items in
    let all : c.if-chain.lines.items ≡ entered ++ (if chain.takes_own then own_lines_at p else []) =
    elim c.if-chain.branch [
      | then-chain+in_ok-put_own_lines w ↦
          ap (λ v. v.items) w.lines-is ∙ w.in_ok-put_own_lines.ensures.lines ∙ ap (λ ls. ls ++ own_lines_at p) so_far
          ∙ ap (λ b. entered ++ (if b then own_lines_at p else [])) (sym w.if-chain.true)
      | else-chain w ↦
          ap (λ v. v.items) w.lines-is ∙ so_far ∙ sym (append-nil entered)
          ∙ ap (λ b. entered ++ (if b then own_lines_at p else [])) (sym w.if-chain.false)
    ] in
    all ∙ trace_is p chain.takes_own (reverse chain.entered.items) c.in_ok-chain.ensures.chain.takes_own c.in_ok-chain.ensures.chain.entered
    ∙ ap (λ q. trace_lines (scene_at q)) c.new-here.ensures

pub returns-clause-names : goal.returns-clause-names
returns-clause-names c =
    let v = version_of c.args.version.now in
    let lines : c.if-chain.lines.items ≡ trace_lines (scene_of v.model v.stored c.args.cell) = returns-clause-lines c in
    subst (All (IsLineOf v.model.space c.args.cell)) (sym lines)
    (lines_are v.model v.stored c.args.cell c.model.ensures.accepted.valid c.model.ensures.accepted.rules c.requires.cell)
