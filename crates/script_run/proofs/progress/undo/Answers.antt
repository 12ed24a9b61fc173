use Rattle.std.proofs.Common.{sym, ap, ◌∙◌}
use Rattle.std.proofs.Math.ListN.{length-set}
use Rattle.script_run.specs.Inside.Running.{before_changes}
use Rattle.script_run.proofs.Changes.{before-last, flagged-taken}
use Rattle.script_run.proofs.progress.undo.Goals as goal

pub each-preserved : goal.each-preserved
each-preserved c =
    let changes = c.each.changes.items in
    let rest = c.pop.new.self.items in
    let flags = c.each.is_changed.items in
    let variables = c.each.variables.items in
    let place = c.in-Some.place in
    let before = c.in-Some.before in
    record {
      flags = (flagged-taken changes rest flags (place, before) c.in-Some.ensures.items c.each.invariant.flags).1;
      whole = length-set flags place _ ∙ c.each.invariant.whole ∙ sym (length-set variables place before);
      undone = sym (before-last rest (place, before) variables) ∙ sym (ap (λ cs. before_changes cs variables) c.in-Some.ensures.items) ∙ c.each.invariant.undone;
    }
