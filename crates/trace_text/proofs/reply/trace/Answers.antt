use Rattle.std.proofs.Common.{◌≡◌, ◌∙◌}
use Rattle.std.proofs.lemmas.Result.{IfOk-weaker}
use Rattle.cell_reader.specs.Snapshots.{version_of}
use Rattle.trace_text.specs.TraceText.{reply_text, trace_text}
use Rattle.trace_text.proofs.ReplyFacts.{own_lines_are, own_reply}
use Rattle.trace_text.proofs.reply.trace.Goals as goal

pub trace_text-requires-clause-lines : goal.trace_text-requires-clause-lines
trace_text-requires-clause-lines c =
    own_lines_are (version_of c.args.version.now) c.model.result.now c.model.ensures.model c.args.cell
    c.deref.result.now c.in_ok-traced.traced.lines.items c.deref.ensures.value c.in_ok-traced.ensures.names

pub returns-clause-text : goal.returns-clause-text
returns-clause-text c =
    IfOk-weaker c.trace_text.result (λ text. text.items ≡ trace_text c.model.result.now.space c.args.files.now c.args.cell c.in_ok-traced.traced.value c.deref.result.now)
    (λ text. text.items ≡ reply_text (version_of c.args.version.now).model (version_of c.args.version.now).stored c.args.files.now c.args.cell)
    (λ text is. is ∙ own_reply (version_of c.args.version.now) c.model.result.now c.model.ensures.model c.args.cell
    c.deref.result.now c.in_ok-traced.traced.lines.items c.deref.ensures.value
    c.in_ok-traced.traced.value c.args.files.now c.in_ok-traced.ensures.value c.in_ok-traced.ensures.lines)
    c.trace_text.ensures
