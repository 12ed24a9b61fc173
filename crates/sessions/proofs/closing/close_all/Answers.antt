use Rattle.std.proofs.Common.{◌≡◌, ◌∙◌, ◌+◌, None, arith, ap, sym, subst, map, length}
use Rattle.std.proofs.lemmas.List.{length-map}
use Rattle.layers.specs.Layered.{IsLayeredHistoryOf}
use Rattle.version_book.specs.Passes.{numbers_of, opening_of, seen}
use Rattle.sandbox.specs.Sandboxes.{answer}
use Rattle.sessions.specs.Inside.AllSessions.{commands_of}
use Rattle.sessions.proofs.Gathered.{gathered_all}
use Rattle.sessions.proofs.Looked.{each_looked}
use Rattle.sessions.proofs.closing.close_all.Goals as goal

pub returns-clause-history : goal.returns-clause-history
returns-clause-history g c =
    let w = g.W.World in
    let a = answer w.effect w.after g.W.Layered.sandbox in
    let first = w.content (opening_of c.args.book) in
    let all = c.meet_all-all.result in
    subst (λ log. IsLayeredHistoryOf a w.after first None (commands_of c.args.sessions.items) c.meet_all-all.new.told.items log) (sym c.close-history.ensures.history)
    (gathered_all a w.after first (commands_of c.args.sessions.items) c.meet_all-all.new.told.items (numbers_of all) (seen all) c.meet_all-all.ensures.gathered c.close-history.ensures.users)

pub returns-clause-looks : goal.returns-clause-looks
returns-clause-looks g c =
    let w = g.W.World in
    let a = answer w.effect w.after g.W.Layered.sandbox in
    each_looked a w.after w.content g.W.Layered.sandbox.unfit g.W.Layered.kept_writes c.args.book c.args.sessions.items c.meet_all-all.new.told.items c.in-Ok.passes.items c.requires.running c.meet_all-all.ensures.told (c.in-Ok.ensures ∙ ap (map (λ s. s.pass)) c.as_slice.ensures.value)

pub returns-clause-passes : goal.returns-clause-passes
returns-clause-passes g c =
    sym (length-map c.in-Ok.passes.items (λ p. p.value)) ∙ ap length (c.in-Ok.ensures ∙ ap (map (λ s. s.pass)) c.as_slice.ensures.value) ∙ length-map c.args.sessions.items (λ s. s.pass)

pub close-history-requires-clause-all : goal.close-history-requires-clause-all
close-history-requires-clause-all g c =
    let users : length (commands_of c.args.sessions.items) ≡ length c.args.sessions.items = length-map c.args.sessions.items (λ s. s.commands) in (
      c.args.sessions.len + 1,
      c.meet_all-all.ensures.next ∙ c.requires.giver.gives,
      λ number low. c.meet_all-all.ensures.gathered.below number (omega (arith, low, users, c.args.sessions.ok.0)),
    )
