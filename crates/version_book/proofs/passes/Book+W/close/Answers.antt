use Rattle.std.proofs.Common.{ap, ◌∙◌}
use Rattle.history.specs.Version.{content_after}
use Rattle.version_book.specs.Passes.{opening_of}
use Rattle.version_book.proofs.Ends.{closes, ended_with, ended_none}
use Rattle.version_book.proofs.passes.Book+W.close.Goals as goal

pub unreachable-requires : goal.unreachable-requires
unreachable-requires g c =
    ended_none _ _ _ _ _ _ (closes _ _ _ _ _ _ _ _ c.requires.of.opening c.args.pass.rests.1 c.requires.all.1 c.requires.all.2 c.close_with-closed.ensures.values.2) c.take-slot.ensures.value c.in-None.is

pub returns-clause-history : goal.returns-clause-history
returns-clause-history g c =
    (ended_with _ _ _ _ _ _ c.in-Some.field-0 (closes _ _ _ _ _ _ _ _ c.requires.of.opening c.args.pass.rests.1 c.requires.all.1 c.requires.all.2 c.close_with-closed.ensures.values.2) c.take-slot.ensures.value c.in-Some.is).0

pub returns-clause-state : goal.returns-clause-state
returns-clause-state g c =
    let w = g.W.World in
    let end = ended_with _ _ _ _ _ _ c.in-Some.field-0 (closes _ _ _ _ _ _ _ _ c.requires.of.opening c.args.pass.rests.1 c.requires.all.1 c.requires.all.2 c.close_with-closed.ensures.values.2) c.take-slot.ensures.value c.in-Some.is in
    c.in-Some.field-0.kept ∙ (ap (λ x. content_after w.after (w.content x) c.in-Some.field-0.history.items) end.1
    ∙ ap (content_after w.after (w.content (opening_of c.args.self))) end.0)

pub returns-clause-users : goal.returns-clause-users
returns-clause-users g c =
    (closes _ _ _ _ _ _ _ _ c.requires.of.opening c.args.pass.rests.1 c.requires.all.1 c.requires.all.2 c.close_with-closed.ensures.values.2).users
