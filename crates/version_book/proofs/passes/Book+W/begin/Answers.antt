use Rattle.std.proofs.Common.{sym, ◌∙◌}
use Rattle.version_book.proofs.Ends.{opens_in}
use Rattle.version_book.proofs.passes.Book+W.begin.Goals as goal

pub new-requires-2 : goal.new-requires-2
new-requires-2 g c =
    opens_in _ _ _ _ c.new-slots.result.items _ c.in_ok-push.ensures.items c.new-slots.ensures.items c.new.ensures.items (c.of.ensures ∙ sym c.of-opening.ensures)
