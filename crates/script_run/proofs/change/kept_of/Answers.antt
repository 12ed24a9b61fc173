use Rattle.std.proofs.Common.{rules, ◌∙◌, ap, sym}
use Rattle.script_values.specs.Values.{done}
use Rattle.script_values.specs.declared.kept.Kept.TheVariants as kept
use Rattle.script_run.proofs.NumbersKept.{amounts_kept}
use Rattle.script_run.proofs.change.kept_of.Goals as goal

pub returns-in_ok-amount_of-in-Amounts-clause-value : goal.returns-in_ok-amount_of-in-Amounts-clause-value
returns-in_ok-amount_of-in-Amounts-clause-value g c =
    let worked_out = c.kept_number.ensures ∙ ap (done kept.Number) c.in_ok-amount_of-in-Amounts.ensures.value ∙ sym (amounts_kept c.args.term.now _ _ _ c.in-Amounts.is _ _ _) in
    rw c.sight-sight.ensures at worked_out
