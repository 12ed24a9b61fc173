use Rattle.std.proofs.Common.{rules, ◌≡◌, ◌∙◌, ap, IfOk}
use Rattle.std.proofs.lemmas.Result.{IfOk-weaker}
use Rattle.rule_printer.specs.Writable.{is_writable}
use Rattle.feed_print.specs.FeederTexts.{index_text}
use Rattle.feed_print.proofs.Writing.{index_writable}
use Rattle.feed_print.proofs.arguments.index_text.Goals as goal

pub returns-clause-writable : goal.returns-clause-writable
returns-clause-writable c =
    let made : IfOk c.call.result (λ tree. tree ≡ index_text c.args.dim.now) = search rules in
    IfOk-weaker c.call.result _ _ (λ tree is. ap is_writable is ∙ index_writable c.args.dim.now c.requires) made
