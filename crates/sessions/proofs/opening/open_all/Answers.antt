use Rattle.std.proofs.Common.{rules, ◌≡◌, ◌+◌, ◌∙◌, ◌++◌, ◌∷◌, [], Some, length, length-append, ap, sym, subst, arith}
use Rattle.version_book.specs.Passes.{number_of}
use Rattle.sandbox.specs.Sandboxes.{answer}
use Rattle.sessions.specs.Inside.AllSessions.{AreRunning, commands_of}
use Rattle.sessions.proofs.Opened.{commands-append, running_at, running_more, same_number}
use Rattle.sessions.proofs.opening.open_all.Goals as goal

pub loop-commands-preserved : goal.loop-commands-preserved
loop-commands-preserved g c =
    let w = g.W.World in
    let a = answer w.effect w.after g.W.Layered.sandbox in
    let before = c.loop-commands.sessions in
    let session = c.new.result in
    let items : c.push_reserved.new.self.items ≡ c.loop-commands.sessions.items ++ c.new.result ∷ [] = search rules in
    let longer : length c.push_reserved.new.self.items ≡ length c.loop-commands.sessions.items + 1 = ap length items ∙ length-append before.items (session ∷ []) in
    let number : number_of c.split-pass.result ≡ length c.loop-commands.sessions.items + 1 = same_number _ _ (c.split-pass.ensures.number ∙ c.loop-commands.invariant.giver.gives) in
    let user : c.in_ok-user.user ≡ length c.loop-commands.sessions.items + 1 = omega (arith, c.in_ok-user.ensures, c.len.ensures, c.reserve.ensures.len, c.loop-commands.sessions.ok.0) in
    let next : number_of c.split-pass.result + 1 ≡ length c.push_reserved.new.self.items + 1 = omega (arith, number, longer) in
    let running = running_at a w.after w.content g.W.Layered.sandbox.unfit g.W.Layered.kept_writes c.args.book.now c.split-pass.result session (number_of c.split-pass.result) c.split-pass.ensures.of c.split-pass.ensures.numbers (c.split-pass.ensures.seen ∙ c.loop-commands.invariant.giver.seen_none)
    c.new.ensures.pass (c.new.ensures.user ∙ (user ∙ sym number)) c.new.ensures.told c.new.ensures.own in
    record {
      can_next = tt;
      is_finite = tt;
      of = c.split-pass.ensures.giver;
      giver = record {
        numbers = c.split-pass.ensures.same.1 ∙ c.loop-commands.invariant.giver.numbers;
        seen_none = c.split-pass.ensures.kept.0 ∙ c.loop-commands.invariant.giver.seen_none;
        gives = c.split-pass.ensures.next ∙ ap Some next;
      };
      commands =
          ap commands_of items ∙ (commands-append before.items session ∙ (ap (λ ks. ks ++ session.commands ∷ []) c.loop-commands.invariant.commands
          ∙ ap (λ k. c.loop-commands.yielded ++ k ∷ []) c.new.ensures.commands));
      running =
          subst (λ xs. AreRunning a w.after w.content g.W.Layered.sandbox.unfit g.W.Layered.kept_writes c.args.book.now xs) (sym items)
          (running_more a w.after w.content g.W.Layered.sandbox.unfit g.W.Layered.kept_writes c.args.book.now before.items session c.loop-commands.invariant.running running (c.new.ensures.user ∙ user));
    }
