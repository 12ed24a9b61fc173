-- The front and the back are the whole.
use Rattle.std.proofs.Common.{◌≡◌, take, drop, ◌∙◌, take-append-drop}
use Rattle.cell_store.specs.declared.page.TheConstants.{HALF_PAGE}
use Rattle.cell_store.proofs.page.PagePart.cut.Goals as goal

pub returns-clause-entries : goal.returns-clause-entries
returns-clause-entries g c =
    let items = c.args.self.now.entries.items in
    let front : c.in_ok-entries.entries.items ≡ take HALF_PAGE items = c.in_ok-entries.ensures.items ∙ (c.deref.ensures.value ∙ c.in_ok-back.ensures.items) in
    let back : c.in_ok-back.back.items ≡ drop HALF_PAGE items = c.in_ok-back.ensures.tail in
    rw (front, back) (take-append-drop HALF_PAGE items)
