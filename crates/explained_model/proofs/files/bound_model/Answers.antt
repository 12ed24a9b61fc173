use Rattle.std.proofs.Common.{sym, subst}
use Rattle.late_example.proofs.Examples.{ok-map}
use Rattle.judged_files.specs.Models.{text_judgement}
use Rattle.run_passes.specs.RefusalOrder.{as_text}
use Rattle.explained_model.specs.Files.{binding_pass, Ends}
use Rattle.explained_model.proofs.Binding.{no-text, of-text, refused, unread}
use Rattle.explained_model.proofs.files.bound_model.Goals as goal

pub returns-then-not-branch : goal.returns-then-not-branch
returns-then-not-branch c = unread c.args.readings.now c.args.name.now (c.in_ok-is_read.ensures.1 c.if-not-branch.true)

pub returns-in-Ok : goal.returns-in-Ok
returns-in-Ok c =
    ok-map c.bound_behind.result _ _ c.bound_behind.ensures
    (λ bound ends. of-text c.args.readings.now c.args.name.now c.source.result (c.source.ensures as_text) c.in-Ok.text c.in-Ok.ensures bound ends)

pub returns-in-Err : goal.returns-in-Err
returns-in-Err c =
    ok-map c.unfound.result _ _ c.unfound.ensures
    (λ found is.
    let stopped = refused (text_judgement c.source.result) c.in-Err.halt c.in-Err.ensures is.1 in
    subst (Ends (binding_pass c.args.name.now) c.args.readings.now) (sym is.0)
    (no-text c.args.readings.now c.args.name.now c.source.result (c.source.ensures as_text) stopped.0 stopped.1))
