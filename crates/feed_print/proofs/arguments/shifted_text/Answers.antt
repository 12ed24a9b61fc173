use Rattle.std.proofs.Common.{rules, ◌≡◌, ◌∙◌, ◌*◌, pos, ap, sym, true, IfOk}
use Rattle.std.proofs.lemmas.Result.{IfOk-weaker}
use Rattle.cube_fixed.specs.Range.{unit}
use Rattle.rule_printer.specs.Writable.{is_writable}
use Rattle.rule_tree.specs.declared.tree.Tree.TheVariants as trees
use Rattle.feed_print.specs.FeederTexts.{shifted_text}
use Rattle.feed_print.proofs.Writing.{shifted_writable}
use Rattle.feed_print.proofs.arguments.shifted_text.Goals as goal

pub returns-clause-writable : goal.returns-clause-writable
returns-clause-writable c =
    let made : IfOk c.call.result (λ tree. tree ≡ shifted_text c.args.dim.now c.args.op c.args.n) = search rules in
    let number : is_writable (trees.Number (pos (c.args.n * unit))) ≡ true = sym (ap is_writable c.number.ensures.number) ∙ c.number.ensures.writable in
    IfOk-weaker c.call.result _ _ (λ tree is. ap is_writable is ∙ shifted_writable c.args.dim.now c.args.op c.args.n number c.requires) made
