use Rattle.sandbox.specs.Sandboxes.{answer}
use Rattle.sessions.proofs.Opened.{further_running, further_commands}
use Rattle.sessions.proofs.threads.run_all.Goals as goal

pub returns-clause-running : goal.returns-clause-running
returns-clause-running g c =
    let w = g.W.World in
    let a = answer w.effect w.after g.W.Layered.sandbox in
    further_running a w.after w.content g.W.Layered.sandbox.unfit g.W.Layered.kept_writes c.args.book.now c.args.sessions.now c.run_each.new.sessions c.run_each.ensures.len c.run_each.ensures.each c.requires.running

pub returns-clause-commands : goal.returns-clause-commands
returns-clause-commands g c =
    let w = g.W.World in
    let a = answer w.effect w.after g.W.Layered.sandbox in
    further_commands a w.after w.content g.W.Layered.sandbox.unfit g.W.Layered.kept_writes c.args.book.now c.args.sessions.now c.run_each.new.sessions c.run_each.ensures.len c.run_each.ensures.each
