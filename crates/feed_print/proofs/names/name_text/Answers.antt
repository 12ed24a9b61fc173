use Rattle.std.proofs.Common.{◌≡◌, ◌∙◌, ap, true, refl}
use Rattle.rule_printer.specs.Writable.{is_quotable, is_writable}
use Rattle.feed_print.proofs.Writing.{text_writable}
use Rattle.feed_print.proofs.names.name_text.Goals as goal

pub returns-clause-writable : goal.returns-clause-writable
returns-clause-writable c =
    let quotable : is_quotable c.args.name.now ≡ true = c.if-not-fits.ensures.quotable refl in
    ap is_writable c.in_ok-tree.ensures ∙ text_writable c.args.name.now quotable
