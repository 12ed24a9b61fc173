use Rattle.std.proofs.Common.{◌∙◌, ◌++◌, ◌∷◌, sym, ap}
use Rattle.std.proofs.lemmas.Result.{on_ok_weaker}
use Rattle.trace_text.specs.TraceText.{fields_of, joined}
use Rattle.cell_trace.specs.declared.line.Line.TheVariants as lines
use Rattle.trace_text.proofs.TextFacts.{own_line}
use Rattle.trace_text.proofs.text.write_line.Goals as goal

pub returns-in-Reads : goal.returns-in-Reads
returns-in-Reads c =
    own_line c.write_read.result c.args.model.now.space c.args.files.now c.args.cell c.args.line (lines.Reads c.in-Reads.number c.in-Reads.x c.in-Reads.value) c.args.out.now.items c.write_read.new.out.items
    c.in-Reads.is c.write_read.ensures

pub returns-in-ReadsNothing : goal.returns-in-ReadsNothing
returns-in-ReadsNothing c =
    let space = c.args.model.now.space in
    own_line c.write_unread.result space c.args.files.now c.args.cell c.args.line (lines.ReadsNothing c.in-ReadsNothing.number) c.args.out.now.items c.write_unread.new.out.items
    c.in-ReadsNothing.is (on_ok_weaker c.write_unread.result (λ h files cell. h space files cell) c.write_unread.ensures)

pub returns-in-Children : goal.returns-in-Children
returns-in-Children c =
    let space = c.args.model.now.space in
    on_ok_weaker c.write_children.result (λ h. h c.args.files.now ∙ ap (λ l. c.args.out.now.items ++ 10 ∷ joined (fields_of space c.args.files.now c.args.cell l)) (sym c.in-Children.is)) c.write_children.ensures

pub returns-in-Input : goal.returns-in-Input
returns-in-Input c =
    let space = c.args.model.now.space in
    own_line c.write_input.result space c.args.files.now c.args.cell c.args.line (lines.Input c.in-Input.stored) c.args.out.now.items c.write_input.new.out.items
    c.in-Input.is (on_ok_weaker c.write_input.result (λ h files cell. h space files cell) c.write_input.ensures)

pub returns-in-Part : goal.returns-in-Part
returns-in-Part c =
    own_line c.write_part.result c.args.model.now.space c.args.files.now c.args.cell c.args.line (lines.Part c.in-Part.part) c.args.out.now.items c.write_part.new.out.items
    c.in-Part.is c.write_part.ensures
